-- What a new node makes of an instance.
use Rattle.std.specs.Prelude.{ℕ, ◌^◌, ◌≤◌, ◌≡◌, true, cond, List, map, take, leb, ltb, Result, Ok, Err}
use Rattle.std.specs.Bool.{⊤}
use Rattle.lists.specs.Lists.{Below}
use Rattle.model.specs.Limits
use Rattle.model.specs.Answers.{outcome}
use Rattle.model.specs.Graph.{Instance}
use Rattle.model.specs.Operations.{with_node}
use Rattle.model.specs.Refusals.{Outcome}
use Rattle.model.specs.declared.Refusal.{Refusal}
use Rattle.model.specs.declared.Refusal.TheVariants.{NodesFull, NumbersFull, EdgesFull}
use Rattle.keys.specs.Keys.{keys_rise}
use Rattle.graph.specs.Packed.{unpack_instance, unpack_arm, Fits}
use Rattle.graph.specs.declared.instance.PackedInstance.{PackedInstance}

-- "9, 10, 11 are tried at each new node", `size` with its edges
unfoldable pub verdict_for : (order number size : ℕ) → Result ⊤ Refusal
verdict_for order number size =
    cond (leb Limits.nodes order) (Err NodesFull)
    (cond (ltb Limits.last_number number) (Err NumbersFull)
    (cond (ltb Limits.edges size) (Err EdgesFull) (Ok tt)))

-- a verdict on what would be made
abbrev pub judged : Result ⊤ Refusal → Instance → Outcome Instance
judged v d = outcome (λ _. d) v

-- an instance that is changed in place: what the change makes of it, and that it has room, also after a refusal
pub record Makes (o : Outcome Instance) (v : Result ⊤ Refusal) (new : PackedInstance) : Type 0 where
  pub fits : Fits new
  pub makes : judged v (unpack_instance new) ≡ o

-- an instance that may grow
pub record Addable (d : PackedInstance) : Type 0 where
  pub few_nodes : d.order ≤ Limits.nodes
  pub few_edges : d.size ≤ Limits.edges
  pub nodes_rise : keys_rise (take d.order d.nodes) ≡ true
  pub nodes_below : Below (2 ^ 54) (take d.order d.nodes)

-- a new node, or a refusal: the instance may grow on
pub record Grows (d : PackedInstance) (class : ℕ) (arms : List ℕ) (v : Result ⊤ Refusal) (grown : PackedInstance) : Type 0 where
  pub outcome : judged v (unpack_instance grown) ≡ with_node class (map unpack_arm arms) (unpack_instance d)
  pub addable : Addable grown
