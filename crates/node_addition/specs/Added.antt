-- New nodes for keys, in node addition.
use Rattle.std.specs.Prelude.{ℕ, ◌+◌, ◌*◌, ◌/◌, ◌%◌, ◌^◌, List, [], ◌∷◌, map, length}
use Rattle.model.specs.Graph.{Instance}
use Rattle.model.specs.Operations.{with_node}
use Rattle.model.specs.Refusals.{Outcome, in_turn}
use Rattle.graph.specs.Packed.{unpack_arm}

-- arms with the numbers of a key in place of pattern nodes: the last arm has the lowest digit
unfoldable pub arms_to : (arms : List ℕ) → (key : ℕ) → List ℕ
arms_to [] key = []
arms_to (a ∷ arms) key = (a / 2 ^ 16 * 2 ^ 16 + key / 2 ^ (16 * length arms) % 2 ^ 16) ∷ arms_to arms key

-- a new node for each key in turn
unfoldable pub added_for : (class : ℕ) → (arms keys : List ℕ) → Instance → Outcome Instance
added_for class arms keys d = in_turn keys (λ k now. with_node class (map unpack_arm (arms_to arms k)) now) d
