-- Lines: their order by rows, and the lines of a text one after the other.
-- Rows divided by the room of the numbers that don't count are ordered as the first numbers are.
use Rattle.std.specs.Prelude.{ℕ, ◌+◌, ◌/◌, ◌<◌, ◌≤◌, ◌≡◌, refl, true, length, take, drop, eqb, ltb, Option, None, Some, option_map, false}
use Rattle.std.proofs.Common.{arith, ◌∙◌, sym, drop-cons}
use Rattle.std.proofs.Math.Path.{ap}
use Rattle.std.proofs.Math.Bool.{or-false}
use mathlib.Core.List.{List, [], ◌∷◌}
use Rattle.lists.specs.Lists.{last_of}
use borrow.Author.Tests.{eq-eqb, ne_eqb, le-ltb}
use Rattle.lists.specs.Text.{pieces}
use Rattle.lists.specs.Radix.{product, unrank}
use Rattle.lists.proofs.Laws.Lists.{less, equals, same_truth}
use Rattle.lists.proofs.Laws.Radix.{product-left, unrank-order}
use Rattle.lists.proofs.Laws.Text.{pieces-parted}
use Rattle.model.specs.Files.{Line, Form, Format, rises, follows, line_of, lines_of}
use Rattle.model.specs.Files.DrawingFile.{drawing_form}
use Rattle.model.specs.Files.RuleText.{rule_form}
use Rattle.numerals.specs.Scan.{up_to}
use Rattle.forms.specs.Forms.{of_drawing, turn_of, kind_of, rule_key, divisor, packed_form}
use Rattle.text.specs.Lines.{drawing_line, rule_line, Tabled, after_line, follows_last}
use Rattle.forms.specs.Laws.Kinds.{drawing-form, rule-form, drawing-turn, rule-turn}
use Rattle.text.specs.Laws.Rows.{next-piece, last-piece}
use Rattle.forms.specs.declared.Form.{Form as PackedForm}
use Rattle.text.specs.declared.lines.Line.{Line as PackedLine}

-- # Order
pub follows-first : (l : PackedLine) {last : Option PackedLine} → last ≡ None → true ≡ follows_last last l
unfolding follows_last
follows-first l e = rw e

module _ (l : PackedLine) {last : Option PackedLine} {a : PackedLine} (one : last ≡ Some a) where
  pub follows-turn : (turn_of a.kind ≡ turn_of l.kind → ⊥) → ltb (turn_of a.kind) (turn_of l.kind) ≡ follows_last last l
  unfolding follows_last after_line
  follows-turn d = rw (one, ne_eqb (turn_of a.kind) (turn_of l.kind) d) (sym (or-false (ltb (turn_of a.kind) (turn_of l.kind))))

  module _ (same : a.kind ≡ l.kind) where
    abbrev rooms : List ℕ
    rooms = (kind_of l.kind).rooms

    abbrev by : Option ℕ
    by = (kind_of l.kind).form.by

    follows_by : follows_last last l ≡ rises by (unrank rooms a.row) (unrank rooms l.row)
    unfolding follows_last after_line
    follows_by =
        rw (one, same, le-ltb (turn_of l.kind) (turn_of l.kind) (omega arith), eq-eqb (turn_of l.kind) (turn_of l.kind) refl)

    module _ (above : Tabled a) (b : Tabled l) {f : PackedForm} (made : f ≡ packed_form (kind_of l.kind)) where
      room : a.row < product rooms
      room = rw same at above.row

      made_by : f.by ≡ option_map (divisor rooms) by
      unfolding packed_form
      made_by = ap (λ g. g.by) made

      pub follows-free : f.by ≡ None → true ≡ follows_last last l
      follows-free e = go by (sym made_by ∙ e) ∙ sym follows_by
        where
          go : (o : Option ℕ) → option_map (divisor rooms) o ≡ None → true ≡ rises o (unrank rooms a.row) (unrank rooms l.row)
          go None n = refl
          go (Some k) n = let z : ◌≡◌ {A = ℕ} 0 1 = cc in absurd (omega arith)

      -- rows divided by the room of the numbers that don't count are ordered as the first numbers are
      module _ {d : ℕ} (e : f.by ≡ Some d) where
        pub divided : 0 < d
        divided = go by (sym made_by ∙ e)
          where
            go : (o : Option ℕ) → option_map (divisor rooms) o ≡ Some d → 0 < d
            go None n = let z : ◌≡◌ {A = ℕ} 0 1 = cc in absurd (omega arith)
            go (Some k) n = let same_room : divisor rooms k ≡ d = cc in omega (arith, product-left k l.row rooms b.row)

        pub follows-order : ltb (a.row / d) (l.row / d) ≡ follows_last last l
        follows-order = go by (sym made_by ∙ e) ∙ sym follows_by
          where
            go : (o : Option ℕ) → option_map (divisor rooms) o ≡ Some d → ltb (a.row / d) (l.row / d) ≡ rises o (unrank rooms a.row) (unrank rooms l.row)
            go None n = let z : ◌≡◌ {A = ℕ} 0 1 = cc in absurd (omega arith)
            go (Some k) n =
                let same_room : divisor rooms k ≡ d = cc in
                rw (← same_room) (sym (unrank-order rooms k a.row l.row room b.row))

-- the order of lines in the code is that of the lines that they stand for
pub drawing-follows : (a l : PackedLine) → of_drawing a.kind ≡ true → of_drawing l.kind ≡ true
    → follows drawing_form (Some (drawing_line a)) (drawing_line l) ≡ after_line a l
unfolding after_line
drawing-follows a l h k = rw (drawing-turn a.kind h, drawing-turn l.kind k, drawing-form l.kind k)

module _ (c m n : ℕ) where
  less-after : ltb (m + c) (n + c) ≡ ltb m n
  less-after =
      same_truth (ltb (m + c) (n + c)) (ltb m n) (
        (λ t. (less m n).1 (omega (arith, (less (m + c) (n + c)).0 t))),
        λ t. (less (m + c) (n + c)).1 (omega (arith, (less m n).0 t)),
      )

  equal-after : eqb (m + c) (n + c) ≡ eqb m n
  equal-after =
      same_truth (eqb (m + c) (n + c)) (eqb m n) (
        (λ t. (equals m n).1 (omega (arith, (equals (m + c) (n + c)).0 t))),
        λ t. (equals (m + c) (n + c)).1 (omega (arith, (equals m n).0 t)),
      )

pub rule-follows : (a l : PackedLine) → of_drawing a.kind ≡ false → of_drawing l.kind ≡ false
    → follows rule_form (Some (rule_line a)) (rule_line l) ≡ after_line a l
unfolding after_line
rule-follows a l h k =
    let m = (rule_form (rule_key a.kind)).turn in
    let n = (rule_form (rule_key l.kind)).turn in
    rw (← rule-turn a.kind h, ← rule-turn l.kind k, rule-form l.kind k, less-after 5 m n, equal-after 5 m n)

-- a line is in turn under the lines above it exactly if it follows the last one that was read
pub follows-above : {K : Type 0} (form_of : K → Form) (line : PackedLine → Line K) (above : List (Line K)) (last : Option PackedLine) (l : PackedLine)
    → option_map line last ≡ last_of above
    → ((a : PackedLine) → last ≡ Some a → follows form_of (Some (line a)) (line l) ≡ after_line a l)
    → follows_last last l ≡ follows form_of (last_of above) (line l)
unfolding follows_last
follows-above form_of line above None l final order = ap (λ o. follows form_of o (line l)) final
follows-above form_of line above (Some a) l final order = sym (order a refl) ∙ ap (λ o. follows form_of o (line l)) final

-- # The lines of a text
module _ {K : Type 0} (f : Format K) (text : List ℕ) (at n : ℕ) (h : at < length text) (found : n ≡ up_to 10 (drop at text)) where
  -- bytes up to a byte 10 are a line, and those after it are the lines that follow
  pub next-line : at + n < length text
      → lines_of f (pieces 10 (drop at text))
      ≡ line_of f (pieces 61 (take n (drop at text))) ∷ lines_of f (pieces 10 (drop (at + n + 1) text))
  next-line l =
      let p = pieces-parted 10 (drop (at + n + 1) text) in
      rw (next-piece 10 text at n (omega arith) found l, p.parted)

  -- bytes without a byte 10 are a line out of form
  pub unended-line : length text ≤ at + n → lines_of f (pieces 10 (drop at text)) ≡ None ∷ []
  unended-line l = rw (last-piece 10 text at n (omega arith) found l, drop-cons text at 0 h)
