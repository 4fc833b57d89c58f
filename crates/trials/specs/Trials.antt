-- The text that program trial prints: how long it can be, its parts as the code writes them, and the bytes of a file that decide it.
use Rattle.std.specs.Prelude.{ℕ, ◌+◌, ◌*◌, ◌≤◌, ◌≡◌, List, ◌++◌, take, Result, Ok, Err}
use Rattle.lists.specs.Decimal.{most_digits}
use Rattle.lists.specs.Text.{bytes}
use Rattle.model.specs.Refusals.{Outcome, accepted, refused, ◌>>=◌}
use Rattle.model.specs.Record.{Record, Apply, Report, counted, Left, report_numbers, accept}
use Rattle.model.specs.Files.{key_line}
use Rattle.model.specs.Meaning.{most_of_drawing, enough_of_drawing, enough_of_rule}
use Rattle.model.specs.Trial.{saved_file, outcome_text, trial}
use Rattle.model.specs.declared.Counts.{Counts}
use Rattle.model.specs.declared.Refusal.{Refusal}
use Rattle.session.specs.Sessions.{unpack_session, StoredSession}
use Rattle.session.specs.declared.Session.{Session}

-- no line done= has more bytes: its key, a byte =, and five numbers of 64 bits, each with what ends it. A line refused= has fewer
abbrev pub most_of_done : ℕ
most_of_done = 4 + 1 + 5 * (most_digits + 1)

-- no text has more bytes
abbrev pub most_of_trial : ℕ
most_of_trial = most_of_done + most_of_drawing

-- # Its parts
unfoldable pub refused_text : Refusal → List ℕ
refused_text x = outcome_text (refused x)

unfoldable pub counts_text : Counts → List ℕ
counts_text n = key_line (bytes "done") (report_numbers (counted n))

-- what is reported of an accepted apply, and the file of what it leaves
unfoldable pub applied_text : Counts → Record → List ℕ
applied_text n r = counts_text n ++ saved_file r

-- a rule text that is applied to a record
abbrev pub accepted-text : Left Report → Outcome (List ℕ)
accepted-text a = accepted (key_line (bytes "done") (report_numbers a.answer) ++ saved_file a.state)

unfoldable pub apply_text : Record → (rule : List ℕ) → List ℕ
apply_text r rule = outcome_text (accept r (Apply rule) >>= accepted-text)

-- what is told of an answer to apply, and of the session that it leaves
abbrev pub told_text : Result Counts Refusal → Record → List ℕ
told_text (Ok n) r = applied_text n r
told_text (Err x) r = refused_text x

-- a drawing file opened and a rule text applied: what is told of that is what is printed
pub record Tried (job rule : List ℕ) (answer : Result Counts Refusal) (after : Session) : Type 0 where
  pub text : told_text answer (unpack_session after) ≡ trial job rule
  pub stored : StoredSession after

-- # Long texts
-- files may be read into buffers of fixed length: what is printed of their first parts is what is printed of the whole. Theorem `long-texts`
-- (proofs/LongTexts.antt) is of this type.
abbrev pub LongTexts : Type 0
LongTexts = (job rule : List ℕ) (n m : ℕ) → enough_of_drawing ≤ n → enough_of_rule ≤ m → trial (take n job) (take m rule) ≡ trial job rule
