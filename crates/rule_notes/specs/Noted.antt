-- What is noted for a rule, before the walk and at each matching, and what is asked for it.
use Rattle.std.specs.Prelude.{ℕ, ◌^◌, ◌<◌, ◌≤◌, ◌≡◌, true, List, [], take}
use Rattle.lists.specs.Lists.{Below}
use Rattle.model.specs.Limits
use Rattle.keys.specs.Keys.{keys_rise}
use Rattle.graph.specs.Packed.{group_node, Fits}
use Rattle.graph.specs.declared.instance.PackedInstance.{PackedInstance}
use Rattle.graph.specs.declared.rule.Operation.{Operation}
use Rattle.graph.specs.declared.rule.Operation.TheVariants.{PatternOnly, NodeAddition, EdgeAddition, NodeDeletion, EdgeDeletion, Abstraction, Other}
use Rattle.graph.specs.declared.rule.PackedAction.{PackedAction}
use Rattle.notes.specs.Notes.{note_all}
use Rattle.notes.specs.Visits.{edge_keys, joint_keys, node_keys, nothing}
use Rattle.serving.specs.Served.{served_keys}

-- the parts that stand
abbrev pub parts_of : PackedAction → List ℕ
parts_of a = take a.count a.parts

-- # Notes
-- what an operation notes at a matching: images of the arms' nodes together, images of each edge, an image of one node
abbrev pub noting_for : Operation → (head : ℕ) → (parts m : List ℕ) → List ℕ
noting_for PatternOnly head parts = nothing
noting_for NodeAddition head parts = joint_keys parts
noting_for EdgeAddition head parts = edge_keys parts
noting_for NodeDeletion head parts = node_keys head
noting_for EdgeDeletion head parts = edge_keys parts
noting_for Abstraction head parts = node_keys (group_node head)
noting_for (Other number) head parts = nothing

unfoldable pub noting_of : PackedAction → (m : List ℕ) → List ℕ
noting_of a = noting_for a.operation a.head (parts_of a)

-- what an operation notes before: what old nodes serve, for node addition, and the old edges, for edge addition
abbrev pub begun_for : Operation → (head : ℕ) → (parts edges nodes : List ℕ) → List ℕ
begun_for NodeAddition head parts edges nodes = note_all [] (served_keys head parts edges nodes)
begun_for EdgeAddition head parts edges nodes = note_all [] edges
begun_for PatternOnly head parts edges nodes = []
begun_for NodeDeletion head parts edges nodes = []
begun_for EdgeDeletion head parts edges nodes = []
begun_for Abstraction head parts edges nodes = []
begun_for (Other number) head parts edges nodes = []

unfoldable pub begun : PackedInstance → PackedAction → List ℕ
begun d a = begun_for a.operation a.head (parts_of a) (take d.size d.edges) (take d.order d.nodes)

-- # What is asked
-- what the operations ask of an instance and an action
pub record Able (d : PackedInstance) (a : PackedAction) : Type 0 where
  pub fits : Fits d
  pub nodes_rise : keys_rise (take d.order d.nodes) ≡ true
  pub edges_rise : keys_rise (take d.size d.edges) ≡ true
  pub nodes_below : Below (2 ^ 54) (take d.order d.nodes)
  pub few : a.count ≤ Limits.arms
  pub class : a.operation ≡ NodeAddition → a.head < 2 ^ 6
  pub arms : a.operation ≡ NodeAddition → Below (2 ^ 22) (parts_of a)
