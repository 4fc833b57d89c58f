-- The nodes whose runs are looked up, one after another: where the runs of the first of them begin, and whether one of them has just the targets.
use Rattle.std.specs.Prelude.{ℕ, ◌+◌, ◌*◌, ◌^◌, ◌<◌, ◌≤◌, ◌≡◌, Bool, take, drop, set}
use native.Mathlib.Omega.{arith}
use Rattle.std.proofs.Common.{add-one, ◌∙◌, length-set, take_all, take-suc, take-take, length-take-le}
use Rattle.std.proofs.Math.Path.{refl, ap, sym}
use Rattle.std.proofs.Math.Bool.{true, false}
use mathlib.Core.List.{List, map, map-append}
use Rattle.std.proofs.Math.ListN.{length}
use Rattle.lists.specs.Lists.{any, ◌!◌}
use Rattle.lists.specs.Order.{same}
use Rattle.lists.proofs.Laws.Lists.{in_take, map-take}
use Rattle.lists.proofs.Laws.OneMore.{stored_last}
use Rattle.keys.specs.Keys.{place_of}
use Rattle.keys.specs.Laws.Keys.{search-hit, search-on, search-past}
use Rattle.edge_runs.specs.Runs.{run_of, lowest, targets_at, Starts, Lookup, has_targets}
use Rattle.edge_runs.specs.Laws.Running.{Finding}

module _ (edges numbers : List ℕ) (name : ℕ) (before : List ℕ) where
  pub finding-none : Finding edges numbers name before before 0
  finding-none = record { reached = omega arith; as_long = refl; found = refl }

  module _ (starts : List ℕ) (i : ℕ) (h : Finding edges numbers name before starts i) (room : length numbers ≤ length before) where
    pub finding-more : i < length numbers → (start : ℕ) → start ≡ place_of ((numbers ! i * 2 ^ 6 + name) * 2 ^ 16) edges
        → Finding edges numbers name before (set starts i start) (i + 1)
    finding-more l start e =
        let as_long = h.as_long in
        record {
          reached = omega arith;
          as_long = simp length-set as_long;
          found = stored_last starts i start (omega arith)
              ∙ rw (h.found, e, add-one, take-suc numbers i 0 l, map-append);
        }

    pub finding-all : length numbers ≤ i → Starts edges numbers name starts
    finding-all past =
        let all : i ≡ length numbers = (let r = h.reached in omega arith) in
        let as_long = h.as_long in
        record {
          room = omega arith;
          places = ap (λ (n : ℕ). take n starts) (sym all)
              ∙ h.found
              ∙ ap (map (λ n. place_of (run_of name n * 2 ^ 16) edges)) (take_all i numbers past);
        }

-- # The first nodes
starts-front : (edges numbers : List ℕ) (name : ℕ) (starts : List ℕ) (i : ℕ) → i < length numbers → Starts edges numbers name starts
    → Starts edges (take i numbers) name starts
starts-front edges numbers name starts i l h =
    let e : length (take i numbers) ≡ i = length-take-le i numbers (omega arith) in
    let room = h.room in
    record {
      room = omega arith;
      places = ap (λ (n : ℕ). take n starts) e
          ∙ sym (take-take i (length numbers) starts (omega arith))
          ∙ ap (take i) h.places
          ∙ sym (map-take (λ n. place_of (run_of name n * 2 ^ 16) edges) i numbers);
    }

pub lookup-front : (edges numbers : List ℕ) (name : ℕ) (starts : List ℕ) (i : ℕ) → i < length numbers → Lookup edges numbers name starts
    → Lookup edges (take i numbers) name starts
lookup-front edges numbers name starts i l h =
    record {
      rise = h.rise;
      below = λ k j. h.below k (in_take i numbers j);
      named = h.named;
      found = starts-front edges numbers name starts i l h.found;
    }

-- # Whether one of the nodes has just the targets, by those from i on
module _ (edges numbers : List ℕ) (name : ℕ) (keys : List ℕ) (i : ℕ) where
  module _ (o : Bool) (l : i < length numbers) (e : o ≡ same (targets_at edges (numbers ! i * 2 ^ 6 + name)) (map lowest keys)) where
    pub one_has : o ≡ true → true ≡ any (has_targets edges name keys) numbers
    one_has h = search-hit (has_targets edges name keys) numbers i l (sym e ∙ h)

    pub one-lacks : o ≡ false → any (has_targets edges name keys) numbers ≡ any (has_targets edges name keys) (drop i numbers)
        → any (has_targets edges name keys) numbers ≡ any (has_targets edges name keys) (drop (i + 1) numbers)
    one-lacks h = search-on (has_targets edges name keys) numbers i l (sym e ∙ h)

  pub none_has : length numbers ≤ i → any (has_targets edges name keys) numbers ≡ any (has_targets edges name keys) (drop i numbers)
      → false ≡ any (has_targets edges name keys) numbers
  none_has = search-past (has_targets edges name keys) numbers i
