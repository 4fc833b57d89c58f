-- What the operations ask, of an instance and a rule that are stored as they should be. Assumes nothing.
use Rattle.std.specs.Prelude.{ℕ, ◌/◌, ◌^◌, ◌<◌, ◌≡◌, map}
use Rattle.std.proofs.Common.{arith, sym, ◌∙◌}
use Rattle.std.proofs.Math.Path.{refl}
use Rattle.std.proofs.Math.Bool.{true}
use Rattle.lists.specs.Lists.{Below}
use Rattle.lists.proofs.Laws.Lists.{in_map, both, all-members, any-member, equals}
use Rattle.model.specs.Limits
use Rattle.model.specs.Graph.{Declared, Scheme, of_kind, is_functional}
use Rattle.model.specs.Operations.{Action, add_node}
use Rattle.model.specs.Sound.{Sound, SoundRule, suits}
use Rattle.model.proofs.Laws.Graph.{ListedDeclarations, listed-scheme, listed-instance}
use Rattle.keys.specs.Keys.{keys_rise}
use Rattle.graph.specs.Packed.{unpack_instance, unpack_pattern, unpack_action, unpack_arm, instance_of, StoredInstance, StoredRule}
use Rattle.graph.proofs.Laws.Keys.{rising-triples}
use Rattle.graph.specs.declared.instance.PackedInstance.{PackedInstance}
use Rattle.graph.specs.declared.rule.Operation.TheVariants.{NodeAddition}
use Rattle.graph.specs.declared.rule.PackedAction.{PackedAction}
use Rattle.graph.specs.declared.rule.PackedRule.{PackedRule}
use Rattle.places.specs.Laws.Nodes.{nodes-rise, nodes-below}
use Rattle.matcher.specs.Matchers.{nodes_of, edges_of}
use Rattle.rule_notes.specs.Noted.{parts_of, Able}

-- a declared number of a kind is below the limit
kind-below : (limit : ℕ) (ds : _) → ListedDeclarations limit ds → (k n : ℕ) → of_kind k ds n ≡ true → n < limit
kind-below limit ds l k n h =
    let r = (any-member (λ (d : Declared). _) ds).0 h in
    let e = simp (both, equals) at r.2 in
    let f : r.0.number ≡ n = e.0 in
    omega (arith, (l.within r.0 r.1).0)

-- a stored rule, with its action by its code
pub rule-of : {s : Scheme} {r : PackedRule} → StoredRule s r → (a : Action) → unpack_action r.action ≡ a
    → SoundRule s (record { pattern = unpack_pattern r.pattern; action = a })
rule-of k a e = record { listed = k.pattern.listed; conforming = k.pattern.conforming; suited = rw e at k.suited }

module _ {s : Scheme} {d : PackedInstance} {r : PackedRule} (h : StoredInstance s d) (k : StoredRule s r) where
  abbrev action : PackedAction
  action = r.action

  pub sound-keys : Sound s (instance_of (nodes_of d) (edges_of d))
  unfolding unpack_instance
  sound-keys = h.sound

  pub edges-rise : keys_rise (edges_of d) ≡ true
  edges-rise = sym (rising-triples (edges_of d)) ∙ ((listed-instance s _).0 sound-keys.listed).graph.edges-rise

  module _ (adds : action.operation ≡ NodeAddition) where
    adds-node : unpack_action action ≡ add_node action.head (map unpack_arm (parts_of action))
    unfolding unpack_action
    adds-node = rw adds refl

    suited : suits s (unpack_pattern r.pattern) (add_node action.head (map unpack_arm (parts_of action))) ≡ true
    suited = (rule-of k _ adds-node).suited

    class-below : action.head < 2 ^ 6
    unfolding suits
    class-below =
        let q = simp (both, all-members) at suited in
        kind-below Limits.classes s.classes ((listed-scheme s).0 sound-keys.scheme).classes 0 action.head q.0.0.0

    arms-below : Below (2 ^ 22) (parts_of action)
    unfolding suits
    arms-below a i =
        let q = simp (both, all-members) at suited in
        let functional : is_functional s (a / 2 ^ 16) ≡ true = (q.1 (unpack_arm a) ((in_map unpack_arm (parts_of action)).1 (a, i, refl))).0 in
        omega (arith, kind-below Limits.names s.names ((listed-scheme s).0 sound-keys.scheme).names 0 (a / 2 ^ 16) functional)

  pub able : Able d r.action
  able = record {
    fits = record { few_nodes = h.few_nodes; few_edges = h.few_edges };
    nodes_rise = nodes-rise s (nodes_of d) (edges_of d) sound-keys;
    edges_rise = edges-rise;
    nodes_below = nodes-below s (nodes_of d) (edges_of d) sound-keys;
    few = k.few;
    class = class-below;
    arms = arms-below;
  }
