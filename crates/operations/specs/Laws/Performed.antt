-- What is made of the notes is what document 01 says of the operation: the laws of each operation, put together. Assumes nothing.
use Rattle.std.specs.Prelude.{ℕ, ◌^◌, ◌≤◌, ◌≡◌, true, List, drop, ⊤, Result, Ok}
use Rattle.std.proofs.Common.{arith, ◌∙◌}
use Rattle.std.proofs.Math.Path.{refl, ap}
use Rattle.std.proofs.Math.ListN.{length}
use Rattle.lists.specs.Lists.{each, Below}
use Rattle.std.specs.Bool.{⊤}
use Rattle.model.specs.Limits
use Rattle.model.specs.Graph.{Scheme, Instance}
use Rattle.model.specs.Operations.{abstract, applied, perform}
use Rattle.model.specs.Matching.{matchings}
use Rattle.model.specs.Refusals.{Outcome, accepted}
use Rattle.graph.specs.Operations.{code_of}
use Rattle.graph.specs.Packed.{unpack_scheme, unpack_instance, unpack_pattern, unpack_action, unpack_rule}
use Rattle.graph.specs.Packed.{group_node, group_class, group_a, group_b, StoredInstance, StoredRule}
use Rattle.model.specs.declared.Refusal.{Refusal}
use Rattle.graph.specs.declared.instance.PackedInstance.{PackedInstance}
use Rattle.graph.specs.declared.rule.Operation.{Operation}
use Rattle.graph.specs.declared.rule.Operation.TheVariants.{PatternOnly, NodeAddition, EdgeAddition, NodeDeletion, EdgeDeletion, Abstraction, Other}
use Rattle.graph.specs.declared.rule.PackedRule.{PackedRule}
use Rattle.graph.specs.declared.scheme.PackedScheme.{PackedScheme}
use Rattle.keys.specs.Keys.{keys_rise}
use Rattle.notes.specs.Notes.{sorted}
use Rattle.notes.specs.Laws.Noting.{noted-grows, sorted_rises, visits-flat}
use Rattle.matcher.specs.Matchers.{nodes_of, edges_of}
use Rattle.growth.specs.Growth.{Addable, Makes}
use Rattle.node_addition.specs.Added.{added_for}
use Rattle.edge_addition.specs.Joined.{SourcesIn, joined_to}
use Rattle.node_addition.specs.Laws.Turns.{node-addition-noted}
use Rattle.edge_addition.specs.Laws.Union.{edge-addition-noted, noted-sources}
use Rattle.deletion.specs.Deleted.{without_nodes, without_edges, WithoutNodes, WithoutEdges}
use Rattle.deletion.specs.Laws.Deletions.{node-deletion-noted, node-deletion-below, edge-deletion-noted}
use Rattle.abstraction.specs.Grouped.{grouped_to}
use Rattle.abstraction.specs.Laws.Leading.{abstraction-noted, images-below, images-few}
use Rattle.rule_notes.specs.Noted.{parts_of, noting_of, begun, Able}
use Rattle.rule_notes.specs.Laws.Listing.{OtherCode}
use Rattle.operations.specs.Walked.{walked, Walked}
use Rattle.operations.specs.Laws.Asked.{rule-of, sound-keys, able}

module _ {s : Scheme} {d : PackedInstance} {r : PackedRule} (h : StoredInstance s d) (k : StoredRule s r) where
  abbrev outcome : Outcome Instance
  outcome = applied s (unpack_rule r) (unpack_instance d)

  made-1 : r.action.operation ≡ NodeAddition
      → added_for r.action.head (parts_of r.action) (drop (length (begun d r.action)) (walked d r)) (unpack_instance d) ≡ outcome
  unfolding applied perform unpack_rule unpack_action unpack_instance walked begun noting_of
  made-1 e =
      rw e (node-addition-noted s (unpack_pattern r.pattern) (nodes_of d) (edges_of d) r.action.head (parts_of r.action)
      (sound-keys h k) (rule-of k _ (rw e refl)))

  made-2 : r.action.operation ≡ EdgeAddition → joined_to s (sorted (walked d r)) (unpack_instance d) ≡ outcome
  unfolding applied perform unpack_rule unpack_action unpack_instance walked begun noting_of
  made-2 e =
      rw e (edge-addition-noted s (unpack_pattern r.pattern) (nodes_of d) (edges_of d) (parts_of r.action)
      (sound-keys h k) (rule-of k _ (rw e refl)))

  sources-2 : r.action.operation ≡ EdgeAddition → SourcesIn (unpack_instance d) (sorted (walked d r))
  unfolding unpack_action unpack_instance walked begun noting_of
  sources-2 e =
      rw e (noted-sources s (unpack_pattern r.pattern) (nodes_of d) (edges_of d) (parts_of r.action) (sound-keys h k) (rule-of k _ (rw e refl)))

  made-3 : r.action.operation ≡ NodeDeletion → accepted (without_nodes (sorted (walked d r)) (unpack_instance d)) ≡ outcome
  unfolding applied perform unpack_rule unpack_action walked begun noting_of
  made-3 e =
      rw e (ap accepted (node-deletion-noted s (unpack_pattern r.pattern) (unpack_instance d) r.action.head
      h.sound (rule-of k _ (rw e refl))))

  below-3 : r.action.operation ≡ NodeDeletion → Below (2 ^ 16) (sorted (walked d r))
  unfolding unpack_action walked begun noting_of
  below-3 e =
      rw e (node-deletion-below s (unpack_pattern r.pattern) (unpack_instance d) r.action.head h.sound (rule-of k _ (rw e refl)))

  made-4 : r.action.operation ≡ EdgeDeletion → accepted (without_edges (sorted (walked d r)) (unpack_instance d)) ≡ outcome
  unfolding applied perform unpack_rule unpack_action walked begun noting_of
  made-4 e =
      rw e (ap accepted (edge-deletion-noted s (unpack_pattern r.pattern) (unpack_instance d) (parts_of r.action)
      h.sound (rule-of k _ (rw e refl))))

  module _ (e : r.action.operation ≡ Abstraction) where
    abbrev head : ℕ
    head = r.action.head

    groups-nodes : unpack_action r.action ≡ abstract (group_node head) (group_class head) (group_a head) (group_b head)
    unfolding unpack_action
    groups-nodes = rw e refl

    made-5 : grouped_to (group_class head) (group_a head) (group_b head) (sorted (walked d r)) (unpack_instance d) ≡ outcome
    unfolding applied perform unpack_rule unpack_action walked begun noting_of
    made-5 =
        rw e (abstraction-noted s (unpack_pattern r.pattern) (unpack_instance d) (group_node head) (group_class head) (group_a head) (group_b head)
        h.sound (rule-of k _ groups-nodes))

    below-5 : Below (2 ^ 16) (sorted (walked d r))
    unfolding walked begun noting_of
    below-5 =
        rw e (images-below s (unpack_pattern r.pattern) (unpack_instance d) (group_node head) (group_class head) (group_a head) (group_b head)
        h.sound (rule-of k _ groups-nodes))

    few-5 : length (sorted (walked d r)) ≤ Limits.nodes
    unfolding walked begun noting_of
    few-5 =
        rw e (images-few s (unpack_pattern r.pattern) (unpack_instance d) (group_node head) (group_class head) (group_a head) (group_b head)
        h.sound (rule-of k _ groups-nodes))

  made-0 : r.action.operation ≡ PatternOnly → accepted (unpack_instance d) ≡ outcome
  unfolding applied perform unpack_rule unpack_action
  made-0 e = rw e refl

  -- a code that is none of these is a pattern only
  pub made_other : OtherCode (code_of r.action.operation) → accepted (unpack_instance d) ≡ outcome
  unfolding applied perform unpack_rule unpack_action
  made_other o = go r.action.operation refl
    where
      go : (operation : Operation) → r.action.operation ≡ operation → accepted (unpack_instance d) ≡ outcome
      go PatternOnly e = rw e refl
      go NodeAddition e = absurd (o.not-1 (ap code_of e))
      go EdgeAddition e = absurd (o.not-2 (ap code_of e))
      go NodeDeletion e = absurd (o.not-3 (ap code_of e))
      go EdgeDeletion e = absurd (o.not-4 (ap code_of e))
      go Abstraction e = absurd (o.not-5 (ap code_of e))
      go (Other number) e = rw e refl

  -- so is each number that is no operation's
  made-number : {number : ℕ} → r.action.operation ≡ Other number → accepted (unpack_instance d) ≡ outcome
  unfolding applied perform unpack_rule unpack_action
  made-number e = rw e refl

-- # What the calls ask, and give, after a walk
module _ {s : PackedScheme} {d : PackedInstance} {r : PackedRule} {first : ℕ} {log : List ℕ} (w : Walked s d r first log) where
  abbrev made : Outcome Instance
  made = applied (unpack_scheme s) (unpack_rule r) (unpack_instance d)

  pub walked-able : Able d r.action
  walked-able = able w.instance w.rule

  pub walked-addable : Addable d
  walked-addable = record {
    few_nodes = walked-able.fits.few_nodes;
    few_edges = walked-able.fits.few_edges;
    nodes_rise = walked-able.nodes_rise;
    nodes_below = walked-able.nodes_below;
  }

  pub walked-first : first ≤ length log
  unfolding walked
  walked-first =
      let grown : length (begun d r.action) ≤ length (walked d r) = rw visits-flat (noted-grows (begun d r.action)
      (each (matchings (unpack_pattern r.pattern) (unpack_instance d)) (noting_of r.action))) in
      omega (arith, w.before, ap length w.notes)

  module _ (ks : List ℕ) where
    module _ (rise : ks ≡ sorted log) where
      keys : ks ≡ sorted (walked d r)
      keys = rise ∙ ap sorted w.notes

      pub rising-rise : keys_rise ks ≡ true
      rising-rise = rw rise (sorted_rises log)

      pub rising-sources : r.action.operation ≡ EdgeAddition → SourcesIn (unpack_instance d) ks
      rising-sources e = rw keys (sources-2 w.instance w.rule e)

      pub rising-numbers : r.action.operation ≡ NodeDeletion → Below (2 ^ 16) ks
      rising-numbers e = rw keys (below-3 w.instance w.rule e)

      pub rising-images : r.action.operation ≡ Abstraction → Below (2 ^ 16) ks
      rising-images e = rw keys (below-5 w.instance w.rule e)

      pub rising-few : r.action.operation ≡ Abstraction → length ks ≤ Limits.nodes
      rising-few e = rw keys (few-5 w.instance w.rule e)

      pub finish-edges : (c : Result ⊤ Refusal) (new : PackedInstance) → r.action.operation ≡ EdgeAddition
          → Makes (joined_to (unpack_scheme s) ks (unpack_instance d)) c new → Makes made c new
      finish-edges c new e m = rw (← made-2 w.instance w.rule e, ← keys) m

      pub finish-without-nodes : (new : PackedInstance) → r.action.operation ≡ NodeDeletion → WithoutNodes ks d new → Makes made (Ok tt) new
      finish-without-nodes new e m = record { fits = m.fits; makes = rw (← made-3 w.instance w.rule e, ← keys) (ap accepted m.left) }

      pub finish-without-edges : (new : PackedInstance) → r.action.operation ≡ EdgeDeletion → WithoutEdges ks d new → Makes made (Ok tt) new
      finish-without-edges new e m = record { fits = m.fits; makes = rw (← made-4 w.instance w.rule e, ← keys) (ap accepted m.left) }

      pub finish-groups : (c : Result ⊤ Refusal) (new : PackedInstance) → r.action.operation ≡ Abstraction
          → Makes (grouped_to (group_class r.action.head) (group_a r.action.head) (group_b r.action.head) ks (unpack_instance d)) c new
          → Makes made c new
      finish-groups c new e m = rw (← made-5 w.instance w.rule e, ← keys) m

    pub finish-nodes : ks ≡ drop first log → (c : Result ⊤ Refusal) (new : PackedInstance) → r.action.operation ≡ NodeAddition
        → Makes (added_for r.action.head (parts_of r.action) ks (unpack_instance d)) c new → Makes made c new
    finish-nodes rest c new e m =
        let same : ks ≡ drop (length (begun d r.action)) (walked d r) = rest ∙ rw (w.before, w.notes) refl in
        rw (← made-1 w.instance w.rule e, ← same) m

  pub finish-nothing : r.action.operation ≡ PatternOnly → Makes made (Ok tt) d
  finish-nothing e = record { fits = walked-able.fits; makes = made-0 w.instance w.rule e }

  pub finish-number : {number : ℕ} → r.action.operation ≡ Other number → Makes made (Ok tt) d
  finish-number e = record { fits = walked-able.fits; makes = made-number w.instance w.rule e }
