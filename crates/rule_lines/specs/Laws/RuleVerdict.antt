-- A line of a rule text, by a law for each way that a test of the code can go: where it may stand, and what is found of it.
use Rattle.std.specs.Prelude.{ℕ, ◌+◌, ◌≡◌, Bool, true, false, not, ◌&&◌, map, length, Result, Err}
use Rattle.std.specs.Bool.{⊤}
use Rattle.std.proofs.Common.{arith, sym, ap, ◌∙◌}
use Rattle.std.proofs.Math.Numerals.{add-one}
use Rattle.std.proofs.Math.ListN.{length-map}
use Rattle.std.proofs.Math.Seq.{length-take-le}
use Rattle.lists.specs.Order.{rising}
use Rattle.model.specs.Graph.{Scheme, row}
use Rattle.model.specs.Files.{full}
use Rattle.model.specs.Files.RuleText.{rule_form}
use Rattle.model.specs.declared.Refusal.TheVariants.{Malformed, TooMany}
use Rattle.model.specs.declared.Refusal.{Refusal}
use Rattle.graph.specs.Operations.{code_of}
use Rattle.forms.specs.Forms.{of_drawing, kind_of, rule_key}
use Rattle.forms.specs.declared.LineKind.{LineKind}
use Rattle.forms.specs.declared.LineKind.TheVariants.{Pnode, Pedge}
use Rattle.text.specs.Lines.{follows_last}
use Rattle.forms.specs.Laws.Kinds.{rule-form}
use Rattle.text.specs.declared.lines.Line.{Line}
use Rattle.text.specs.declared.lines.Last.{Last}
use Rattle.graph.specs.Packed.{unpack_triple, pattern_of, unpack_pattern}
use Rattle.graph.specs.declared.rule.PackedRule.{PackedRule}
use Rattle.verdicts.specs.Verdicts.{judged}
use Rattle.verdicts.proofs.Laws.Tests.{verdict-malformed, verdict-crowded, verdict-judged, failed, passed, first-failed, second-failed, both-passed}
use Rattle.rule_lines.specs.RuleLines.{line_checks, lines_above, placed, rule_verdict, nodes_in, edges_in, FitsRule, HeldRule, RowFits, Coming}
use Rattle.pattern_lines.specs.Laws.Patterns.{nodes-length}
use Rattle.rule_lines.specs.Laws.RuleKinds.{parts-above-kind}

-- # How many lines stand above
module _ (r : PackedRule) (f : FitsRule r) where
  pub pattern-order : length (unpack_pattern r.pattern).nodes ≡ r.pattern.order
  unfolding unpack_pattern
  pattern-order = nodes-length 0 (nodes_in r) ∙ length-take-le r.pattern.order r.pattern.nodes (omega (arith, f.nodes_room, f.order))

  pub pattern-size : length (unpack_pattern r.pattern).edges ≡ r.pattern.size
  unfolding unpack_pattern
  pattern-size = length-map (edges_in r) unpack_triple ∙ length-take-le r.pattern.size r.pattern.edges (omega (arith, f.edges_room, f.size))

  module _ (kind : LineKind) where
    pub nodes-above : kind ≡ Pnode → r.pattern.order ≡ lines_above (unpack_pattern r.pattern) r.action.count (rule_key kind)
    unfolding lines_above
    nodes-above e = rw e (sym pattern-order)

    pub edges-above : kind ≡ Pedge → r.pattern.size ≡ lines_above (unpack_pattern r.pattern) r.action.count (rule_key kind)
    unfolding lines_above
    edges-above e = rw e (sym pattern-size)

    pub parts-above : (kind ≡ Pnode → ⊥) → (kind ≡ Pedge → ⊥)
        → r.action.count ≡ lines_above (unpack_pattern r.pattern) r.action.count (rule_key kind)
    parts-above pnode pedge = sym (parts-above-kind (unpack_pattern r.pattern) r.action.count kind pnode pedge)

-- # What is found of a line
pub held-edges : (r : PackedRule) → HeldRule r → rising (map row (map unpack_triple (edges_in r))) ≡ true
unfolding unpack_pattern
held-edges r h = h.edges

module _ (r : PackedRule) (last : Last) (l : Line) {o p : Bool}
    (ordered : o ≡ follows_last last.line l) (made : p ≡ placed last.line (code_of r.action.operation) (rule_key l.kind) l.row) where
  -- a line in order is within its bounds
  pub in-place-fits : not o ≡ false → Coming r last l → RowFits r.action.head l
  in-place-fits e h = h.row (passed ordered e)

  module _ (s : Scheme) where
    pub out_of_order : not o ≡ true → Err (Malformed (last.lines + 1)) ≡ rule_verdict s r last l
    unfolding rule_verdict
    out_of_order e = rw add-one (sym (verdict-malformed _ _ _ _ (first-failed _ _ (failed ordered e))))

    module _ (in-order : not o ≡ false) where
      pub out-of-place : not p ≡ true → Err (Malformed (last.lines + 1)) ≡ rule_verdict s r last l
      unfolding rule_verdict
      out-of-place e = rw add-one (sym (verdict-malformed _ _ _ _ (second-failed _ _ (passed ordered in-order) (failed made e))))

      module _ (in_place : not p ≡ false) (h : of_drawing l.kind ≡ false)
          {n : ℕ} (above : n ≡ lines_above (unpack_pattern r.pattern) r.action.count (rule_key l.kind))
          {x : Bool} (crowded : x ≡ full (kind_of l.kind).form.most n) where
        crowded-so : full (rule_form (rule_key l.kind)).most (lines_above (unpack_pattern r.pattern) r.action.count (rule_key l.kind)) ≡ x
        crowded-so = sym (crowded ∙ ap (λ f. full f.most n) (rule-form l.kind h) ∙ ap (full (rule_form (rule_key l.kind)).most) above)

        all-passed : (follows_last last.line l && placed last.line (code_of r.action.operation) (rule_key l.kind) l.row) ≡ true
        all-passed = both-passed _ _ (passed ordered in-order) (passed made in_place)

        pub too_many : x ≡ true → Err (TooMany (last.lines + 1)) ≡ rule_verdict s r last l
        unfolding rule_verdict
        too_many e = rw add-one (sym (verdict-crowded _ _ _ _ all-passed (crowded-so ∙ e)))

        pub judged-so : x ≡ false → {v : Result ⊤ Refusal}
            → v ≡ judged (last.lines + 1) (line_checks s (pattern_of (nodes_in r) (edges_in r)) r.action.head (rule_key l.kind) l.row)
            → v ≡ rule_verdict s r last l
        unfolding rule_verdict unpack_pattern
        judged-so e {v} g = g ∙ rw add-one (sym (verdict-judged _ _ _ _ all-passed (crowded-so ∙ e)))
