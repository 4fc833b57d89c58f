-- What an action's parts and an instance's keys have room for, and what is noted by the operation.
use Rattle.std.specs.Prelude.{ℕ, ◌^◌, ◌≤◌, ◌≡◌, refl, List, [], length, take}
use Rattle.std.proofs.Common.{arith, ap, sym, length-take-le}
use Rattle.lists.specs.Lists.{Below}
use Rattle.model.specs.Limits
use Rattle.graph.specs.Operations.{code_of}
use Rattle.graph.specs.Packed.{group_node}
use Rattle.graph.specs.declared.instance.PackedInstance.{PackedInstance}
use Rattle.graph.specs.declared.rule.Operation.{Operation}
use Rattle.graph.specs.declared.rule.Operation.TheVariants.{PatternOnly, NodeAddition, EdgeAddition, NodeDeletion, EdgeDeletion, Abstraction, Other}
use Rattle.graph.specs.declared.rule.PackedAction.{PackedAction}
use Rattle.notes.specs.Notes.{note_all}
use Rattle.notes.specs.Visits.{edge_keys, joint_keys, node_keys, nothing}
use Rattle.serving.specs.Served.{served_keys}
use Rattle.rule_notes.specs.Noted.{parts_of, noting_of, begun, Able}
use Rattle.rule_notes.specs.Laws.Listing.{OtherCode}

-- # What is asked
module _ {d : PackedInstance} {a : PackedAction} (able : Able d a) where
  module _ (room : length d.nodes ≡ Limits.nodes) where
    pub able-nodes : d.order ≤ length d.nodes
    able-nodes = omega (arith, able.fits.few_nodes)

    pub able-order : d.order ≡ length (take d.order d.nodes)
    able-order = sym (length-take-le d.order d.nodes able-nodes)

  module _ (room : length d.edges ≡ Limits.edges) where
    pub able-edges : d.size ≤ length d.edges
    able-edges = omega (arith, able.fits.few_edges)

    pub able-size : d.size ≡ length (take d.size d.edges)
    able-size = sym (length-take-le d.size d.edges able-edges)

  pub able-arms : a.operation ≡ NodeAddition → Below (2 ^ 22) (parts_of a)
  able-arms = able.arms

module _ (a : PackedAction) (few : a.count ≤ Limits.arms) (room : length a.parts ≡ Limits.arms) where
  pub parts-inside : a.count ≤ length a.parts
  parts-inside = omega arith

  pub parts-part : a.count ≡ length (parts_of a)
  parts-part = sym (length-take-le a.count a.parts parts-inside)

  pub parts-few : length (parts_of a) ≤ Limits.arms
  parts-few = rw (← parts-part) few

-- # What is noted at a matching
module _ (a : PackedAction) {keys : List ℕ → List ℕ} where
  pub notes-nothing : OtherCode (code_of a.operation) → keys ≡ nothing → keys ≡ noting_of a
  unfolding noting_of
  notes-nothing o h = go a.operation refl
    where
      go : (operation : Operation) → a.operation ≡ operation → keys ≡ noting_of a
      go PatternOnly e = rw e h
      go NodeAddition e = absurd (o.not-1 (ap code_of e))
      go EdgeAddition e = absurd (o.not-2 (ap code_of e))
      go NodeDeletion e = absurd (o.not-3 (ap code_of e))
      go EdgeDeletion e = absurd (o.not-4 (ap code_of e))
      go Abstraction e = absurd (o.not-5 (ap code_of e))
      go (Other number) e = rw e h

  pub notes-arms : a.operation ≡ NodeAddition → keys ≡ joint_keys (parts_of a) → keys ≡ noting_of a
  unfolding noting_of
  notes-arms e h = rw e h

  pub notes-puts : a.operation ≡ EdgeAddition → keys ≡ edge_keys (parts_of a) → keys ≡ noting_of a
  unfolding noting_of
  notes-puts e h = rw e h

  pub notes-drop : a.operation ≡ NodeDeletion → keys ≡ node_keys a.head → keys ≡ noting_of a
  unfolding noting_of
  notes-drop e h = rw e h

  pub notes-cuts : a.operation ≡ EdgeDeletion → keys ≡ edge_keys (parts_of a) → keys ≡ noting_of a
  unfolding noting_of
  notes-cuts e h = rw e h

  pub notes-group : a.operation ≡ Abstraction → keys ≡ node_keys (group_node a.head) → keys ≡ noting_of a
  unfolding noting_of
  notes-group e h = rw e h

-- # What is noted before
module _ (d : PackedInstance) (a : PackedAction) {log : List ℕ} where
  pub begun-served : a.operation ≡ NodeAddition
      → log ≡ note_all [] (served_keys a.head (parts_of a) (take d.size d.edges) (take d.order d.nodes)) → log ≡ begun d a
  unfolding begun
  begun-served e h = rw e h

  pub begun-edges : a.operation ≡ EdgeAddition → log ≡ note_all [] (take d.size d.edges) → log ≡ begun d a
  unfolding begun
  begun-edges e h = rw e h

  pub begun-nothing : (a.operation ≡ NodeAddition → ⊥) → (a.operation ≡ EdgeAddition → ⊥) → log ≡ [] → log ≡ begun d a
  unfolding begun
  begun-nothing f g h = go a.operation refl
    where
      go : (o : Operation) → a.operation ≡ o → log ≡ begun d a
      go PatternOnly e = rw e h
      go NodeAddition e = absurd (f e)
      go EdgeAddition e = absurd (g e)
      go NodeDeletion e = rw e h
      go EdgeDeletion e = rw e h
      go Abstraction e = rw e h
      go (Other number) e = rw e h
