-- The next line of a text, as a line of a format: it ends at the first byte 10 of what is left, and without one it is out of form.
use Rattle.std.specs.Prelude.{ℕ, ◌+◌, ◌<◌, ◌≡◌, List, [], ◌∷◌, length, take, drop, Option, None, Some, option_map}
use Rattle.std.proofs.Common.{arith, refl, ap, ◌∙◌, sym, length-drop, length-take-le}
use Rattle.lists.specs.Text.{pieces}
use Rattle.model.specs.Files.{Line, Format, line_of}
use Rattle.model.proofs.Laws.Lines.{line-spelled}
use Rattle.numerals.specs.Scan.{up_to}
use Rattle.numerals.specs.Laws.Scan.{up_to-bound}
use Rattle.text.specs.Laws.Lines.{next-line, unended-line}
use Rattle.verdicts.specs.NextLine.{lines_from, LineAt, NoLineAt, Unended, LineBytes}

module _ {K : Type 0} (f : Format K) (text : List ℕ) (at : ℕ) (h : at < length text) where
  pub unended-no-line : Unended text at → NoLineAt f text at
  unended-no-line u = record { rest = []; line = unended-line f text at (up_to 10 (drop at text)) h refl (omega (arith, u, length-drop at text)) }

  module _ {s : List ℕ} (b : LineBytes text at s) where
    size : length s ≡ up_to 10 (drop at text)
    size = ap length b.bytes ∙ length-take-le (up_to 10 (drop at text)) (drop at text) (up_to-bound 10 (drop at text))

    lines_next : lines_from f text at ≡ line_of f (pieces 61 s) ∷ lines_from f text (at + length s + 1)
    lines_next =
        next-line f text at (length s) h size b.ended
        ∙ ap (λ t. line_of f (pieces 61 t) ∷ lines_from f text (at + length s + 1)) (ap (λ n. take n (drop at text)) size ∙ sym b.bytes)

    pub out-of-form : None ≡ line_of f (pieces 61 s) → NoLineAt f text at
    out-of-form e =
        record { rest = lines_from f text (at + length s + 1); line = lines_next ∙ ap (λ o. o ∷ lines_from f text (at + length s + 1)) (sym e) }

    pub line-here : (l : Line K) → Some l ≡ line_of f (pieces 61 s) → LineAt f text at l (at + length s + 1)
    line-here l e =
        let ended = b.ended in
        record {
          line = lines_next ∙ ap (λ o. o ∷ lines_from f text (at + length s + 1)) (sym e);
          in-form = (line-spelled f s l (sym e)).1;
          later = omega arith;
          within = omega arith;
        }

    -- what code reads of these bytes as a line of the format: it stands there, and the next line begins after it; or the line there is out of form
    module _ {P : Type 0} (line_for : P → Line K) {read : Option P} (parsed : option_map line_for read ≡ line_of f (pieces 61 s)) where
      pub next-line-read : {l : P} → read ≡ Some l → LineAt f text at (line_for l) (at + length s + 1)
      next-line-read {l} is = line-here (line_for l) (ap (option_map line_for) (sym is) ∙ parsed)

      pub no-line-read : read ≡ None → NoLineAt f text at
      no-line-read none = out-of-form (ap (option_map line_for) (sym none) ∙ parsed)
