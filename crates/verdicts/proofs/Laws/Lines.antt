-- The next line of a drawing file and of a rule text: as what is read of its bytes, or out of form.
use Rattle.std.specs.Prelude.{ℕ, ◌+◌, ◌<◌, ◌≡◌, List, length, Option, None, Some}
use Rattle.std.proofs.Common.{arith}
use Rattle.model.specs.Graph.{Scheme}
use Rattle.model.specs.Files.DrawingFile.{drawing_format}
use Rattle.model.specs.Files.RuleText.{rule_format}
use Rattle.text.specs.Lines.{drawing_line, rule_line, DrawingParsed, RuleParsed}
use Rattle.text.proofs.Laws.Read.{OfDrawing, OfRule}
use Rattle.text.specs.declared.lines.Line.{Line as PackedLine}
use Rattle.verdicts.specs.NextLine.{LineAt, NoLineAt, Unended, LineBytes}
use Rattle.verdicts.proofs.Laws.NextLine.{unended-no-line, next-line-read, no-line-read}

-- what is out of form is no line
pub not_line : {A : Type 0} {L : Type 0} (l : L) → None ≡ Some l → A
not_line l e = let z : ◌≡◌ {A = ℕ} 0 1 = cc in absurd (omega arith)

module _ (text : List ℕ) (at : ℕ) (h : at < length text) where
  pub drawing-unended : Unended text at → NoLineAt drawing_format text at
  drawing-unended = unended-no-line drawing_format text at h

  pub rule-unended : Unended text at → (s : Scheme) → NoLineAt (rule_format s) text at
  rule-unended u s = unended-no-line (rule_format s) text at h u

  module _ {line : List ℕ} (b : LineBytes text at line) {read : Option PackedLine} where
    module _ (r : DrawingParsed line read) where
      pub drawing-malformed : read ≡ None → NoLineAt drawing_format text at
      drawing-malformed = no-line-read drawing_format text at h b drawing_line r.line

      pub drawing-read : {l : PackedLine} → read ≡ Some l
          → LineAt drawing_format text at (drawing_line l) (at + length line + 1) × OfDrawing l
      drawing-read {l} e = (next-line-read drawing_format text at h b drawing_line r.line e, r.tabled l e)

    module _ (r : RuleParsed line read) where
      pub rule-malformed : read ≡ None → (s : Scheme) → NoLineAt (rule_format s) text at
      rule-malformed e s = no-line-read (rule_format s) text at h b rule_line (r.line s) e

      pub rule-read : {l : PackedLine} → read ≡ Some l
          → ((s : Scheme) → LineAt (rule_format s) text at (rule_line l) (at + length line + 1)) × OfRule l
      rule-read {l} e = ((λ s. next-line-read (rule_format s) text at h b rule_line (r.line s) e), r.tabled l e)
