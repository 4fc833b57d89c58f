-- Runs of edges, on keys: a node's edges of one name, and their targets.
use Rattle.std.specs.Prelude.{ℕ, ◌+◌, ◌*◌, ◌/◌, ◌%◌, ◌^◌, ◌<◌, ◌≤◌, ◌≡◌, Bool, true, List, map, length, take, eqb}
use Rattle.lists.specs.Lists.{keep, Below}
use Rattle.lists.specs.Order.{same}
use Rattle.keys.specs.Keys.{keys_rise, place_of}

-- node and name as one number, with which the keys of the run begin
abbrev pub run_of : (name number : ℕ) → ℕ
run_of name number = number * 2 ^ 6 + name

-- the last number of a key, an edge's target or an arm's node
abbrev pub lowest : ℕ → ℕ
lowest k = k % 2 ^ 16

unfoldable pub targets_at : (edges : List ℕ) → (run : ℕ) → List ℕ
targets_at edges run = map lowest (keep (λ k. eqb (k / 2 ^ 16) run) edges)

-- where the nodes' runs of the name begin
pub record Starts (edges numbers : List ℕ) (name : ℕ) (starts : List ℕ) : Type 0 where
  pub room : length numbers ≤ length starts
  pub places : take (length numbers) starts ≡ map (λ n. place_of (run_of name n * 2 ^ 16) edges) numbers

-- rising edges in which the nodes' runs of the name are looked up
pub record Lookup (edges numbers : List ℕ) (name : ℕ) (starts : List ℕ) : Type 0 where
  pub rise : keys_rise edges ≡ true
  pub below : Below (2 ^ 16) numbers
  pub named : name < 2 ^ 6
  pub found : Starts edges numbers name starts

-- the node's targets by the name are just these
abbrev pub has_targets : (edges : List ℕ) → (name : ℕ) → (keys : List ℕ) → (number : ℕ) → Bool
has_targets edges name keys n = same (targets_at edges (run_of name n)) (map lowest keys)
