-- Runs, as code walks them: a run begins at its place among rising keys, and a key of another run ends it.
-- By what is left of the keys from a place on: they rise, and none is below the run.
use Rattle.std.specs.Prelude.{ℕ, suc, ◌+◌, ◌*◌, ◌-◌, ◌/◌, ◌%◌, ◌^◌, ◌<◌, ◌≤◌, ◌≡◌, Bool, cond, not, take, drop}
use native.Mathlib.Omega.{arith}
use Rattle.std.proofs.Common.{add-one, ◌∙◌, Fits, drop_of_length-le, drop-cons, get_or-take}
use Rattle.std.proofs.Math.Path.{refl, ap, sym}
use Rattle.std.proofs.Math.Logic.{⊎_elim}
use Rattle.std.proofs.Math.Bool.{true, false}
use mathlib.Core.List.Memᴰ
use mathlib.Core.List.{List, [], ◌∷◌, map}
use Rattle.std.specs.Int.{w64}
use Rattle.std.proofs.Math.ListN.{length}
use Rattle.std.proofs.Math.Dec.{eqb, ltb}
use borrow.Author.Tests.{ltb-true, ltb-false, lt-ltb, le-ltb, eq-eqb, ne_eqb, eqb-true, eqb-false}
use Rattle.lists.specs.Lists.{◌∈◌, keep, ◌!◌, Below}
use Rattle.lists.specs.Order.{same}
use Rattle.lists.proofs.Laws.Lists.{in-cons, keep-none}
use Rattle.lists.proofs.Laws.Places.{at_place, map_at}
use Rattle.keys.specs.Keys.{keys_rise, place_of}
use Rattle.keys.specs.Laws.Keys.{rise-cons, place-within}
use Rattle.edge_runs.specs.Runs.{run_of, lowest, targets_at, Starts}

-- # Numbers that fit, as code makes them of a node and a name
module _ (numbers : List ℕ) (i : ℕ) (below : Below (2 ^ 16) numbers) (l : i < length numbers) where
  pub number_at_lem : numbers ! i < 2 ^ 16
  number_at_lem = below (numbers ! i) (at_place numbers i 0 l)

  pub number_fits : Fits w64 (numbers ! i * 2 ^ 6)
  number_fits = let n = number_at_lem in omega arith

  module _ (name : ℕ) (h : name < 2 ^ 6) where
    pub run-below : numbers ! i * 2 ^ 6 + name < 2 ^ 22
    run-below = let n = number_at_lem in omega arith

    pub run_fits : Fits w64 (numbers ! i * 2 ^ 6 + name)
    run_fits = let n = number_at_lem in omega arith

    pub start_fits : Fits w64 ((numbers ! i * 2 ^ 6 + name) * 2 ^ 16)
    start_fits = let n = number_at_lem in omega arith

    pub next_fits : Fits w64 (numbers ! i * 2 ^ 6 + name + 1)
    next_fits = let n = number_at_lem in omega arith

    pub end_fits : Fits w64 ((numbers ! i * 2 ^ 6 + name + 1) * 2 ^ 16)
    end_fits = let n = number_at_lem in omega arith

-- # Where runs begin
-- the first i of the places are found
pub record Finding (edges numbers : List ℕ) (name : ℕ) (before starts : List ℕ) (i : ℕ) : Type 0 where
  pub reached : i ≤ length numbers
  pub as_long : length starts ≡ length before
  pub found : take i starts ≡ map (λ n. place_of (run_of name n * 2 ^ 16) edges) (take i numbers)

-- where the run of one of the nodes begins
pub start-at : (edges numbers : List ℕ) (name : ℕ) (starts : List ℕ) (i : ℕ) → Starts edges numbers name starts → i < length numbers
    → starts ! i ≡ place_of ((numbers ! i * 2 ^ 6 + name) * 2 ^ 16) edges
start-at edges numbers name starts i h l =
    sym (get_or-take (length numbers) starts i 0 l)
    ∙ ap (λ (ks : List ℕ). ks ! i) h.places
    ∙ map_at (λ n. place_of (run_of name n * 2 ^ 16) edges) numbers i l

-- # What is left of a run
abbrev of_run : ℕ → ℕ → Bool
of_run run k = eqb (k / 2 ^ 16) run

-- keys that rise, none below the run
pub record Left (run : ℕ) (ks : List ℕ) : Type 0 where
  pub rise : keys_rise ks ≡ true
  pub from : (k : ℕ) → k ∈ ks → run * 2 ^ 16 ≤ k

left-rest : (run x : ℕ) (ks : List ℕ) → Left run (x ∷ ks) → Left run ks
left-rest run x ks h = record { rise = ((rise-cons x ks).0 h.rise).1; from = λ k i. h.from k (Memᴰ.tail i) }

-- from the run's place on, the keys are of this kind, and the run is whole
module _ (run : ℕ) where
  from_place : (ks : List ℕ) → keys_rise ks ≡ true
      → Left run (drop (place_of (run * 2 ^ 16) ks) ks) × (targets_at ks run ≡ targets_at (drop (place_of (run * 2 ^ 16) ks) ks) run)
  unfolding place_of targets_at
  from_place [] h = (record { rise = h; from = λ k i. absurd (Memᴰ.not-nil i) }, refl)
  from_place (x ∷ ks) h = go (ltb x (run * 2 ^ 16)) refl (from_place ks ((rise-cons x ks).0 h).1)
    where
      go : (t : Bool) → ltb x (run * 2 ^ 16) ≡ t
          → Left run (drop (place_of (run * 2 ^ 16) ks) ks) × (targets_at ks run ≡ targets_at (drop (place_of (run * 2 ^ 16) ks) ks) run)
          → Left run (drop (length (cond t (x ∷ keep (λ k. ltb k (run * 2 ^ 16)) ks) (keep (λ k. ltb k (run * 2 ^ 16)) ks))) (x ∷ ks))
          × (targets_at (x ∷ ks) run
          ≡ targets_at (drop (length (cond t (x ∷ keep (λ k. ltb k (run * 2 ^ 16)) ks) (keep (λ k. ltb k (run * 2 ^ 16)) ks))) (x ∷ ks)) run)
      go true e more =
          let l : x < run * 2 ^ 16 = ltb-true x (run * 2 ^ 16) e in
          (more.0, rw (ne_eqb (x / 2 ^ 16) run (λ q. omega arith)) more.1)
      go false e more =
          let l : run * 2 ^ 16 ≤ x = ltb-false x (run * 2 ^ 16) e in
          let above : (k : ℕ) → k ∈ ks → x < k = ((rise-cons x ks).0 h).0 in
          rw (keep-none (λ k. ltb k (run * 2 ^ 16)) ks (λ k i. let m : x < k = above k i in le-ltb k (run * 2 ^ 16) (omega arith))) (
            record { rise = h; from = λ k i. ⊎_elim (λ (q : k ≡ x). omega arith) (λ j. let m : x < k = above k j in omega arith) (in-cons.0 i) },
            refl,
          )

  -- a first key of another run ends it
  run-over : (x : ℕ) (ks : List ℕ) → Left run (x ∷ ks) → (x / 2 ^ 16 ≡ run → ⊥) → targets_at (x ∷ ks) run ≡ []
  unfolding targets_at
  run-over x ks h d =
      let l : run * 2 ^ 16 ≤ x = h.from x (Memᴰ.head refl) in
      ap (map lowest) (keep-none (of_run run) (x ∷ ks) (λ k i.
      let m : x ≤ k = ⊎_elim (λ (q : k ≡ x). omega arith) (λ j. let u : x < k = ((rise-cons x ks).0 h.rise).0 k j in omega arith) (in-cons.0 i) in
      ne_eqb (k / 2 ^ 16) run (λ q. d (omega arith))))

  run-goes-on : (x : ℕ) (ks : List ℕ) → x / 2 ^ 16 ≡ run → targets_at (x ∷ ks) run ≡ lowest x ∷ targets_at ks run
  unfolding targets_at
  run-goes-on x ks e = rw (eq-eqb (x / 2 ^ 16) run e)

  run-nothing : targets_at [] run ≡ []
  unfolding targets_at
  run-nothing = refl

  -- the first key is not the key with the target t
  run-differs : (x t : ℕ) (ks ts : List ℕ) → Left run (x ∷ ks) → t < 2 ^ 16 → (x ≡ run * 2 ^ 16 + t → ⊥)
      → same (targets_at (x ∷ ks) run) (t ∷ ts) ≡ false
  run-differs x t ks ts h l d = go (eqb (x / 2 ^ 16) run) refl
    where
      go : (b : Bool) → eqb (x / 2 ^ 16) run ≡ b → same (targets_at (x ∷ ks) run) (t ∷ ts) ≡ false
      go true e =
          let q : x / 2 ^ 16 ≡ run = eqb-true (x / 2 ^ 16) run e in
          rw (run-goes-on x ks q, ne_eqb (lowest x) t (λ u. d (omega arith)))
      go false e = rw (run-over x ks h (eqb-false (x / 2 ^ 16) run e))

-- # A run as a part of the keys
module _ (low high : ℕ) (h : low ≤ high) where
  place_after : (ks : List ℕ) → keys_rise ks ≡ true → place_of high ks ≡ place_of low ks + place_of high (drop (place_of low ks) ks)
  unfolding place_of
  place_after [] r = refl
  place_after (x ∷ ks) r = go (ltb x low) refl (place_after ks ((rise-cons x ks).0 r).1)
    where
      go : (t : Bool) → ltb x low ≡ t → place_of high ks ≡ place_of low ks + place_of high (drop (place_of low ks) ks)
          → place_of high (x ∷ ks)
          ≡ length (cond t (x ∷ keep (λ k. ltb k low) ks) (keep (λ k. ltb k low) ks))
          + place_of high (drop (length (cond t (x ∷ keep (λ k. ltb k low) ks) (keep (λ k. ltb k low) ks))) (x ∷ ks))
      go true e more = let l : x < low = ltb-true x low e in rw (lt-ltb x high (omega arith)) (omega arith)
      go false e more =
          let l : low ≤ x = ltb-false x low e in
          let above : (k : ℕ) → k ∈ ks → x < k = ((rise-cons x ks).0 r).0 in
          rw (keep-none (λ k. ltb k low) ks (λ k i. let m : x < k = above k i in le-ltb k low (omega arith))) (omega arith)

  pub place-rises : (ks : List ℕ) → keys_rise ks ≡ true → place_of low ks ≤ place_of high ks
  place-rises ks r = omega (arith, place_after ks r)

module _ (run : ℕ) where
  left-part : (ks : List ℕ) → Left run ks → map lowest (take (place_of ((run + 1) * 2 ^ 16) ks) ks) ≡ targets_at ks run
  unfolding place_of
  left-part [] h = sym (run-nothing run)
  left-part (x ∷ ks) h = go (eqb (x / 2 ^ 16) run) refl (left-part ks (left-rest run x ks h))
    where
      go : (t : Bool) → eqb (x / 2 ^ 16) run ≡ t → map lowest (take (place_of ((run + 1) * 2 ^ 16) ks) ks) ≡ targets_at ks run
          → map lowest (take (place_of ((run + 1) * 2 ^ 16) (x ∷ ks)) (x ∷ ks)) ≡ targets_at (x ∷ ks) run
      go true e more =
          let q : x / 2 ^ 16 ≡ run = eqb-true (x / 2 ^ 16) run e in
          rw (lt-ltb x ((run + 1) * 2 ^ 16) (omega arith), run-goes-on run x ks q) (ap (λ (l : List ℕ). lowest x ∷ l) more)
      go false e more =
          let d : x / 2 ^ 16 ≡ run → ⊥ = eqb-false (x / 2 ^ 16) run e in
          let l : run * 2 ^ 16 ≤ x = h.from x (Memᴰ.head refl) in
          let above : (k : ℕ) → k ∈ ks → x < k = ((rise-cons x ks).0 h.rise).0 in
          let first : (run + 1) * 2 ^ 16 ≤ x = omega arith in
          rw (
            le-ltb x ((run + 1) * 2 ^ 16) first,
            run-over run x ks h d,
            keep-none (λ k. ltb k ((run + 1) * 2 ^ 16)) ks (λ k i. let m : x < k = above k i in le-ltb k ((run + 1) * 2 ^ 16) (omega arith)),
          ) refl

  run-part : (ks : List ℕ) → keys_rise ks ≡ true
      → map lowest (take (place_of ((run + 1) * 2 ^ 16) ks - place_of (run * 2 ^ 16) ks) (drop (place_of (run * 2 ^ 16) ks) ks)) ≡ targets_at ks run
  run-part ks h =
      let at = place_of (run * 2 ^ 16) ks in
      let r = from_place run ks h in
      let long : place_of ((run + 1) * 2 ^ 16) ks - at ≡ place_of ((run + 1) * 2 ^ 16) (drop at ks) =
      omega (arith, place_after (run * 2 ^ 16) ((run + 1) * 2 ^ 16) (omega arith) ks h) in
      rw long (left-part (drop at ks) r.0 ∙ sym r.1)

-- from its start, found before, to the place of the next run
module _ (edges numbers : List ℕ) (name : ℕ) (starts : List ℕ) (i end : ℕ) (rise : keys_rise edges ≡ true) (h : Starts edges numbers name starts)
    (l : i < length numbers) (e : end ≡ place_of ((numbers ! i * 2 ^ 6 + name + 1) * 2 ^ 16) edges) where
  pub part-ends : end ≤ length edges
  part-ends = rw e (place-within ((numbers ! i * 2 ^ 6 + name + 1) * 2 ^ 16) edges)

  pub part-starts : starts ! i ≤ end
  part-starts =
      rw (start-at edges numbers name starts i h l, e)
      (place-rises ((numbers ! i * 2 ^ 6 + name) * 2 ^ 16) ((numbers ! i * 2 ^ 6 + name + 1) * 2 ^ 16) (omega arith) edges rise)

  pub part-targets : map lowest (take (end - starts ! i) (drop (starts ! i) edges)) ≡ targets_at edges (numbers ! i * 2 ^ 6 + name)
  part-targets = rw (start-at edges numbers name starts i h l, e) (run-part (numbers ! i * 2 ^ 6 + name) edges rise)

-- # Whether a run has just the targets, by the edges that are left and the keys from i on
pub record Compares (edges : List ℕ) (run : ℕ) (keys rest : List ℕ) (i : ℕ) : Type 0 where
  pub left : Left run rest
  pub compared : same (targets_at edges run) (map lowest keys) ≡ same (targets_at rest run) (map lowest (drop i keys))

pub start-within : (edges : List ℕ) (run start : ℕ) → start ≡ place_of (run * 2 ^ 16) edges → start ≤ length edges
start-within edges run start e = rw e (place-within (run * 2 ^ 16) edges)

module _ (edges : List ℕ) (run : ℕ) (keys : List ℕ) where
  pub compares-start : (start : ℕ) → keys_rise edges ≡ true → start ≡ place_of (run * 2 ^ 16) edges → Compares edges run keys (drop start edges) 0
  compares-start start h e =
      let r = from_place run edges h in
      rw e (record { left = r.0; compared = ap (λ (l : List ℕ). same l (map lowest keys)) r.1 })

  module _ (rest : List ℕ) (i : ℕ) (h : Compares edges run keys rest i) where
    none_left : length rest ≡ 0 → rest ≡ []
    none_left = go rest
      where
        go : (ks : List ℕ) → length ks ≡ 0 → ks ≡ []
        go [] e = refl
        go (k ∷ ks) e = absurd (omega arith)

    pub too_short : i < length keys → length rest ≡ 0 → false ≡ same (targets_at edges run) (map lowest keys)
    too_short l none = sym (h.compared ∙ rw (none_left none, run-nothing run, drop-cons keys i 0 l))

    pub edges-over : length keys ≤ i → length rest ≡ 0 → true ≡ same (targets_at edges run) (map lowest keys)
    edges-over l none = sym (h.compared ∙ rw (none_left none, run-nothing run, drop_of_length-le keys l))

    module _ (edge : ℕ) (more : List ℕ) (next : rest ≡ edge ∷ more) where
      first-left : Left run (edge ∷ more)
      first-left = rw next at h.left

      pub target-differs : i < length keys → (edge ≡ run * 2 ^ 16 + keys ! i % 2 ^ 16 → ⊥) → false ≡ same (targets_at edges run) (map lowest keys)
      target-differs l d =
          sym (h.compared ∙ rw (next, drop-cons keys i 0 l)
          (run-differs run edge (lowest (keys ! i)) more (map lowest (drop (suc i) keys)) first-left (omega arith) d))

      pub target-same : i < length keys → edge ≡ run * 2 ^ 16 + keys ! i % 2 ^ 16 → Compares edges run keys more (i + 1)
      target-same l e =
          let q : edge / 2 ^ 16 ≡ run = omega arith in
          let t : lowest edge ≡ lowest (keys ! i) = omega arith in
          rw (add-one i) (record {
            left = left-rest run edge more first-left;
            compared = h.compared ∙ rw (next, drop-cons keys i 0 l, run-goes-on run edge more q, eq-eqb _ _ t);
          })

      pub run_ends : length keys ≤ i → not (eqb (edge / 2 ^ 16) run) ≡ same (targets_at edges run) (map lowest keys)
      run_ends l = sym (h.compared ∙ rw (next, drop_of_length-le keys l) (go (eqb (edge / 2 ^ 16) run) refl))
        where
          go : (b : Bool) → eqb (edge / 2 ^ 16) run ≡ b → same (targets_at (edge ∷ more) run) [] ≡ not b
          go true e = rw (run-goes-on run edge more (eqb-true _ _ e))
          go false e = rw (run-over run edge more first-left (eqb-false _ _ e))
