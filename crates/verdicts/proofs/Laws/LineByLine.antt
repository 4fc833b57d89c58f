-- Reading a text of any format line by line: how far a text is read, and what the next line does to that. The lines read so far all pass, and the
-- answer to the whole text is that to what is left of it under these lines.
use Rattle.std.specs.Prelude.{ℕ, suc, ◌≤◌, ◌≡◌, refl, List, [], ◌∷◌, ◌++◌, length, Ok, Err}
use Rattle.std.proofs.Common.{arith, ◌∙◌, sym, length-append, drop_of_length-le}
use Rattle.std.proofs.Math.Path.{ap}
use Rattle.std.proofs.Math.Bool.{cond}
use Rattle.lists.specs.Text.{pieces}
use Rattle.model.specs.Refusals.{accepted, refused}
use Rattle.model.specs.Files.{Line, Format, lines_of, reading, read}
use Rattle.model.proofs.Laws.Passing.{Passing, passing-none, passing-snoc}
use Rattle.model.specs.declared.Refusal.{Refusal}
use Rattle.model.specs.declared.Refusal.TheVariants.{Malformed}
use Rattle.verdicts.specs.NextLine.{lines_from, LineAt, NoLineAt}
use Rattle.verdicts.proofs.Laws.Verdicts.{after, verdict_of, reading-verdict, verdict-passes}

-- `count` lines of the text are read, up to a place
pub record Upto {K : Type 0} (f : Format K) (text : List ℕ) (at count : ℕ) (above : List (Line K)) : Type 0 where
  pub passing : Passing f above
  pub left : read f text ≡ reading f above (lines_from f text at)
  pub counted : count ≡ length above
  pub few : count ≤ at
  pub within : at ≤ length text

pub upto-none : {K : Type 0} (f : Format K) (text : List ℕ) {count : ℕ} → count ≡ 0 → Upto f text 0 count []
unfolding read
upto-none f text h = record { passing = passing-none f; left = refl; counted = h; few = omega arith; within = omega arith }

module _ {K : Type 0} {f : Format K} {text : List ℕ} {at count : ℕ} {above : List (Line K)} (u : Upto f text at count above) where
  pub out-of-form-read : NoLineAt f text at → read f text ≡ refused (Malformed (suc count))
  unfolding reading
  out-of-form-read n = u.left ∙ rw n.line (ap (λ m. refused (Malformed (suc m))) (sym u.counted))

  module _ {l : Line K} {next : ℕ} (stands : LineAt f text at l next) where
    read_here : read f text ≡ after (verdict_of f above l) (reading f (above ++ (l ∷ [])) (lines_from f text next))
    read_here = u.left ∙ ap (reading f above) stands.line ∙ reading-verdict f above l (lines_from f text next)

    -- a line that fails is refused as it fails
    pub failing-line-read : {x : Refusal} → verdict_of f above l ≡ Err x → read f text ≡ refused x
    failing-line-read e = read_here ∙ rw e

    -- a line that passes is read
    pub upto_next : verdict_of f above l ≡ Ok tt → Upto f text next (suc count) (above ++ (l ∷ []))
    upto_next e =
        let counted = u.counted in
        let few = u.few in
        let later = stands.later in
        record {
          passing = passing-snoc f above l u.passing stands.in-form ((verdict-passes f above l).0 e);
          left = read_here ∙ rw e;
          counted = rw length-append (omega arith);
          few = omega arith;
          within = stands.within;
        }

  -- at the end, no line is left
  pub whole-read : length text ≤ at → read f text ≡ cond (f.complete above) (accepted above) (refused (Malformed (suc count)))
  unfolding reading
  whole-read h =
      u.left
      ∙ ap (λ t. reading f above (lines_of f (pieces 10 t))) (drop_of_length-le text h)
      ∙ ap (λ n. cond (f.complete above) (accepted above) (refused (Malformed (suc n)))) (sym u.counted)
