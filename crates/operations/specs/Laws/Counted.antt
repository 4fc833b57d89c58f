-- What is reported is what document 01 counts: an operation only adds or only removes, so the numbers of nodes and edges tell how many. Assumes
-- nothing.
use Rattle.std.specs.Prelude.{ℕ, ◌+◌, ◌-◌, ◌≤◌, ◌≡◌, refl, ◌⊎◌, List, length, Result, Ok, Err}
use Rattle.std.proofs.Common.{arith, sym, ◌∙◌, ⊎_elim}
use Rattle.std.proofs.Math.Path.{ap, ap₂}
use Rattle.std.proofs.Math.Logic.{inl, inr}
use Rattle.std.proofs.Math.ListN.{length-map}
use Rattle.std.proofs.Math.Seq.{length-take-le}
use Rattle.std.specs.Bool.{⊤}
use Rattle.model.specs.Limits
use Rattle.model.specs.Graph.{Scheme, Instance, Pattern}
use Rattle.model.specs.Matching.{matchings}
use Rattle.model.specs.Operations.{Action, pattern_only, add_node, add_edges, delete_node, delete_edges, abstract, perform, applied, counts}
use Rattle.model.specs.Refusals.{Outcome, accepted, refused}
use Rattle.model.specs.Record.{counted}
use Rattle.model.specs.Sound.{Sound}
use Rattle.model.specs.Meaning.{adds-node, adds-edges, abstracts, deletes-node, deletes-edges}
use Rattle.model.proofs.Laws.Counts.{no_difference, counts-balance, additions-count-none-removed, deletions-count-none-added, pattern-only-counts-none}
use Rattle.model.proofs.Laws.Operations.{applied-is-sound}
use Rattle.model.specs.declared.Counts.{Counts}
use Rattle.model.specs.declared.Refusal.{Refusal}
use Rattle.model.specs.declared.Difference.{Difference}
use Rattle.graph.specs.Packed.{unpack_triple, unpack_node, unpack_scheme, unpack_instance, unpack_rule, Fits, StoredInstance, StoredRule}
use Rattle.graph.specs.declared.instance.PackedInstance.{PackedInstance}
use Rattle.graph.specs.declared.rule.PackedRule.{PackedRule}
use Rattle.graph.specs.declared.scheme.PackedScheme.{PackedScheme}
use Rattle.matcher.specs.Matchers.{nodes_of, edges_of}
use Rattle.growth.specs.Growth.{Makes}
use Rattle.operations.specs.Applies.{Applies}
use Rattle.reports.specs.Reported.{counts_of, report_of, Roomy}
use Rattle.operations.specs.Laws.Asked.{rule-of}

-- # One way only
module _ (s : Scheme) (p : Pattern) (ms : List (List ℕ)) (d e : Instance) where
  one_way : (a : Action) → perform s a ms d ≡ accepted e → ((counts p d e).removed ≡ no_difference) ⊎ ((counts p d e).added ≡ no_difference)
  one_way pattern_only h = inl (pattern-only-counts-none s p ms d e h).1
  one_way (add_node K arms) h = inl (additions-count-none-removed s p ms d e adds-node h)
  one_way (add_edges ts) h = inl (additions-count-none-removed s p ms d e adds-edges h)
  one_way (delete_node q) h = inr (deletions-count-none-added s p ms d e deletes-node h)
  one_way (delete_edges ts) h = inr (deletions-count-none-added s p ms d e deletes-edges h)
  one_way (abstract q K a b) h = inl (additions-count-none-removed s p ms d e abstracts h)

-- how many more either of two numbers is, where one of the two excesses is 0
more : (old new added removed : ℕ) → new + removed ≡ old + added → (removed ≡ 0) ⊎ (added ≡ 0) → (new - old ≡ added) × (old - new ≡ removed)
more old new added removed b =
    ⊎_elim (λ (z : removed ≡ 0). (omega arith, omega arith)) (λ (z : added ≡ 0). (omega arith, omega arith))

difference-made : (x y : ℕ) (f : Difference) → x ≡ f.nodes → y ≡ f.edges → record { nodes = x; edges = y } ≡ f
difference-made x y f g h = ap₂ (λ (a b : ℕ). record { nodes = a; edges = b }) g h

abbrev counts-record : ℕ → Difference → Difference → Counts
counts-record m a r = record { matchings = m; added = a; removed = r }

-- # The report
module _ (s : PackedScheme) (d : PackedInstance) (r : PackedRule) (h : StoredInstance (unpack_scheme s) d) (k : StoredRule (unpack_scheme s) r) where
  abbrev outcome : Outcome Instance
  outcome = applied (unpack_scheme s) (unpack_rule r) (unpack_instance d)

  abbrev old : Instance
  old = unpack_instance d

  -- the keys that stand are as many as nodes and edges
  module _ (n : PackedInstance) (room : Roomy n) (few_nodes : n.order ≤ Limits.nodes) (few_edges : n.size ≤ Limits.edges) where
    order-counts : length (unpack_instance n).nodes ≡ n.order
    unfolding unpack_instance
    order-counts = length-map (nodes_of n) unpack_node ∙ length-take-le n.order n.nodes (omega (arith, room.nodes))

    size_counts : length (unpack_instance n).edges ≡ n.size
    unfolding unpack_instance
    size_counts = length-map (edges_of n) unpack_triple ∙ length-take-le n.size n.edges (omega (arith, room.edges))

  module _ (room : Roomy d) (m : ℕ) (all : m ≡ length (matchings (unpack_rule r).pattern (unpack_instance d)))
      (new : PackedInstance) (new_room : Roomy new) where
    module _ (fits : Fits new) (o : outcome ≡ accepted (unpack_instance new)) where
      abbrev reported-counts : Counts
      reported-counts = counts (unpack_rule r).pattern old (unpack_instance new)

      new-sound : Sound (unpack_scheme s) (unpack_instance new)
      unfolding unpack_rule
      new-sound = applied-is-sound (unpack_scheme s) (unpack_rule r) old (unpack_instance new) h.sound (rule-of k _ refl) o

      way : (reported-counts.removed ≡ no_difference) ⊎ (reported-counts.added ≡ no_difference)
      unfolding applied
      way =
          one_way (unpack_scheme s) (unpack_rule r).pattern (matchings (unpack_rule r).pattern old) old (unpack_instance new) (unpack_rule r).action o

      balanced : (new.order + reported-counts.removed.nodes ≡ d.order + reported-counts.added.nodes)
          × (new.size + reported-counts.removed.edges ≡ d.size + reported-counts.added.edges)
      balanced =
          rw (
            order-counts d room h.few_nodes h.few_edges,
            size_counts d room h.few_nodes h.few_edges,
            order-counts new new_room fits.few_nodes fits.few_edges,
            size_counts new new_room fits.few_nodes fits.few_edges,
          )
          at (counts-balance (unpack_scheme s) (unpack_rule r).pattern old (unpack_instance new) h.sound new-sound)

      counts-are : counts_of d m new ≡ reported-counts
      unfolding counts
      counts-are =
          let nodes = more d.order new.order reported-counts.added.nodes reported-counts.removed.nodes balanced.0
          (⊎_elim (λ z. inl (ap (λ (f : Difference). f.nodes) z)) (λ z. inr (ap (λ (f : Difference). f.nodes) z)) way) in
          let edges = more d.size new.size reported-counts.added.edges reported-counts.removed.edges balanced.1
          (⊎_elim (λ z. inl (ap (λ (f : Difference). f.edges) z)) (λ z. inr (ap (λ (f : Difference). f.edges) z)) way) in
          ap (λ (n : ℕ). counts-record n (counts_of d m new).added (counts_of d m new).removed) all
          ∙ ap₂ (counts-record reported-counts.matchings)
          (difference-made (new.order - d.order) (new.size - d.size) reported-counts.added nodes.0 edges.0)
          (difference-made (d.order - new.order) (d.size - new.size) reported-counts.removed nodes.1 edges.1)

      done-applies : Applies s d r (report_of d m (Ok tt) new)
      done-applies = record {
        answer = rw o (ap (λ (c : Counts). accepted (counted c)) counts-are);
        instance = sym o;
        stored = λ n e. let same : n.instance ≡ new = cc in rw same (record { few_nodes = fits.few_nodes; few_edges = fits.few_edges; sound = new-sound });
      }

  refused-applies : (new : PackedInstance) (m : ℕ) (x : Refusal) → outcome ≡ refused x → Applies s d r (report_of d m (Err x) new)
  refused-applies new m x o = record { answer = rw o refl; instance = sym o; stored = λ n e. let z : ◌≡◌ {A = ℕ} 0 1 = cc in absurd (omega arith) }

  pub report-applies : (new : PackedInstance) (m : ℕ) → m ≡ length (matchings (unpack_rule r).pattern (unpack_instance d))
      → (changed : Result ⊤ Refusal) → Roomy d → Roomy new → Makes outcome changed new → Applies s d r (report_of d m changed new)
  report-applies new m all (Ok x) old_room new_room makes = done-applies old_room m all new new_room makes.fits (sym makes.makes)
  report-applies new m all (Err x) old_room new_room makes = refused-applies new m x (sym makes.makes)
