-- What each operation makes of the notes, by the operation, and what an action and an instance that are able give.
use Rattle.std.specs.Prelude.{ℕ, ◌^◌, ◌<◌, ◌≤◌, ◌≡◌, refl, List, length, drop, Result, Ok, Err}
use Rattle.std.specs.Bool.{⊤}
use Rattle.std.proofs.Common.{◌∙◌}
use Rattle.lists.specs.Lists.{Below}
use Rattle.model.specs.Limits
use Rattle.model.specs.Graph.{Instance}
use Rattle.model.specs.Operations.{applied}
use Rattle.model.specs.Refusals.{Outcome, accepted, refused}
use Rattle.model.specs.declared.Refusal.{Refusal}
use Rattle.graph.specs.Operations.{code_of}
use Rattle.graph.specs.Packed.{unpack_scheme, unpack_instance, unpack_rule, group_class, group_a, group_b, StoredInstance, StoredRule}
use Rattle.graph.specs.declared.instance.PackedInstance.{PackedInstance}
use Rattle.graph.specs.declared.rule.Operation.TheVariants.{NodeAddition, EdgeAddition, NodeDeletion, EdgeDeletion, Abstraction}
use Rattle.graph.specs.declared.rule.PackedAction.{PackedAction}
use Rattle.graph.specs.declared.rule.PackedRule.{PackedRule}
use Rattle.graph.specs.declared.scheme.PackedScheme.{PackedScheme}
use Rattle.notes.specs.Notes.{sorted}
use Rattle.matcher.specs.Matchers.{Stored}
use Rattle.growth.specs.Growth.{Addable, Makes}
use Rattle.node_addition.specs.Added.{added_for}
use Rattle.edge_addition.specs.Joined.{SourcesIn, joined_to}
use Rattle.deletion.specs.Deleted.{without_nodes, without_edges}
use Rattle.abstraction.specs.Grouped.{grouped_to}
use Rattle.rule_notes.specs.Noted.{parts_of, Able}
use Rattle.rule_notes.specs.Laws.Listing.{OtherCode}
use Rattle.operations.specs.Walked.{Walked}
use Rattle.operations.specs.Laws.Performed.{finish-nodes, finish-edges, finish-without-nodes, finish-without-edges, finish-groups, made_other}
use Rattle.operations.specs.Laws.Performed.{rising-sources, rising-numbers, rising-images, rising-few}

module _ (s : PackedScheme) (d : PackedInstance) (r : PackedRule) (h : StoredInstance (unpack_scheme s) d) (k : StoredRule (unpack_scheme s) r) where
  pub stored-both : Stored d r.pattern
  stored-both = record { scheme = unpack_scheme s; instance = h; pattern = k.pattern }

module _ {d : PackedInstance} {a : PackedAction} (able : Able d a) where
  pub able-addable : Addable d
  able-addable = record {
    few_nodes = able.fits.few_nodes;
    few_edges = able.fits.few_edges;
    nodes_rise = able.nodes_rise;
    nodes_below = able.nodes_below;
  }

  pub able-class : a.operation ≡ NodeAddition → a.head < 2 ^ 6
  able-class = able.class

accepted-one : {a b : Instance} → accepted a ≡ accepted b → a ≡ b
accepted-one h = cc

refused-other : {x : Refusal} {a : Instance} → refused x ≡ accepted a → ⊥
refused-other h = cc

module _ {s : PackedScheme} {d : PackedInstance} {r : PackedRule} {first : ℕ} {log : List ℕ} (w : Walked s d r first log) where
  abbrev made : Outcome Instance
  made = applied (unpack_scheme s) (unpack_rule r) (unpack_instance d)

  module _ (v : Result ⊤ Refusal) (new : PackedInstance) where
    pub finish-1 : r.action.operation ≡ NodeAddition
        → Makes (added_for r.action.head (parts_of r.action) (drop first log) (unpack_instance d)) v new → Makes made v new
    finish-1 = finish-nodes w (drop first log) refl v new

    pub finish-2 : r.action.operation ≡ EdgeAddition → Makes (joined_to (unpack_scheme s) (sorted log) (unpack_instance d)) v new → Makes made v new
    finish-2 = finish-edges w (sorted log) refl v new

    pub finish-3 : r.action.operation ≡ NodeDeletion → Makes (accepted (without_nodes (sorted log) (unpack_instance d))) v new → Makes made v new
    finish-3 e = go v
      where
        go : (v : Result ⊤ Refusal) → Makes (accepted (without_nodes (sorted log) (unpack_instance d))) v new → Makes made v new
        go (Ok _) m =
            let left : unpack_instance new ≡ without_nodes (sorted log) (unpack_instance d) = accepted-one m.makes in
            finish-without-nodes w (sorted log) refl new e (record { fits = m.fits; left = left })
        go (Err x) m = absurd (refused-other m.makes)

    pub finish-4 : r.action.operation ≡ EdgeDeletion → Makes (accepted (without_edges (sorted log) (unpack_instance d))) v new → Makes made v new
    finish-4 e = go v
      where
        go : (v : Result ⊤ Refusal) → Makes (accepted (without_edges (sorted log) (unpack_instance d))) v new → Makes made v new
        go (Ok _) m =
            let left : unpack_instance new ≡ without_edges (sorted log) (unpack_instance d) = accepted-one m.makes in
            finish-without-edges w (sorted log) refl new e (record { fits = m.fits; left = left })
        go (Err x) m = absurd (refused-other m.makes)

    pub finish-5 : r.action.operation ≡ Abstraction
        → Makes (grouped_to (group_class r.action.head) (group_a r.action.head) (group_b r.action.head) (sorted log) (unpack_instance d)) v new → Makes made v new
    finish-5 = finish-groups w (sorted log) refl v new

    pub finish-other : OtherCode (code_of r.action.operation) → Makes (accepted (unpack_instance d)) v new → Makes made v new
    finish-other o m = record { fits = m.fits; makes = m.makes ∙ made_other w.instance w.rule o }

  pub walked-sources : r.action.operation ≡ EdgeAddition → SourcesIn (unpack_instance d) (sorted log)
  walked-sources = rising-sources w (sorted log) refl

  pub walked-numbers : r.action.operation ≡ NodeDeletion → Below (2 ^ 16) (sorted log)
  walked-numbers = rising-numbers w (sorted log) refl

  pub walked-below : r.action.operation ≡ Abstraction → Below (2 ^ 16) (sorted log)
  walked-below = rising-images w (sorted log) refl

  pub walked-few : r.action.operation ≡ Abstraction → length (sorted log) ≤ Limits.nodes
  walked-few = rising-few w (sorted log) refl
