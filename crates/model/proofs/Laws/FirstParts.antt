-- A call with a long text is answered as with the text's first part, and leaves the same: a program may read into a buffer of fixed length.
-- The text is read as its first part is, and nothing else of it counts.
use Rattle.std.specs.Prelude.{ℕ, ◌≤◌, ◌≡◌}
use Rattle.std.proofs.Math.Path.{refl}
use Rattle.model.specs.Record.{Record, shut, opened, Call, Open, Apply, Undo, Close, First, After, Save, accept, lent, step}
use Rattle.model.specs.Meaning.{cut_texts, enough_of_drawing, enough_of_rule}
use Rattle.model.proofs.Laws.Calls.{step_same}
use Rattle.model.proofs.Laws.DrawingFiles.{drawing-first-part}
use Rattle.model.proofs.Laws.RuleTexts.{rule-first-part}

module _ (m n : ℕ) (h : enough_of_drawing ≤ m) (k : enough_of_rule ≤ n) where
  lent_same : (c : Call) → lent c ≡ lent (cut_texts m n c)
  lent_same (Open file) = refl
  lent_same (Apply rule) = refl
  lent_same Undo = refl
  lent_same Close = refl
  lent_same (First rule) = refl
  lent_same (After rule list) = refl
  lent_same (Save buffer) = refl

  accept-same : (r : Record) (c : Call) → accept r c ≡ accept r (cut_texts m n c)
  unfolding accept
  accept-same shut (Open file) = rw (drawing-first-part m h file)
  accept-same shut (Apply rule) = refl
  accept-same (opened s d cs) (Open file) = refl
  accept-same (opened s d cs) (Apply rule) = rw (rule-first-part s n k rule)
  accept-same r Undo = refl
  accept-same r Close = refl
  accept-same shut (First rule) = refl
  accept-same (opened s d cs) (First rule) = rw (rule-first-part s n k rule)
  accept-same shut (After rule list) = refl
  accept-same (opened s d cs) (After rule list) = rw (rule-first-part s n k rule)
  accept-same r (Save buffer) = refl

  -- whatever the record, a call leaves and answers what it does with its text cut, at a fixed length or later
  pub first-part-decides : (r : Record) (c : Call) → step r c ≡ step r (cut_texts m n c)
  first-part-decides r c = step_same r c (cut_texts m n c) (lent_same c) (accept-same r c)
