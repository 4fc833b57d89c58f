-- "The plain record": the calls, their answers, and what a list of calls makes of a record.
use Rattle.std.specs.Prelude.{ℕ, cond, List, [], ◌∷◌, length, take, eqb, leb, Option, None, Some}
use Rattle.lists.specs.Buffers.{at_front}
use Rattle.model.specs.Limits
use Rattle.model.specs.Graph.{Scheme, Instance}
use Rattle.model.specs.Matching.{matchings, smallest, smallest_after}
use Rattle.model.specs.Operations.{applied, counts}
use Rattle.model.specs.Refusals.{Outcome, accepted, refused, ◌>>=◌}
use Rattle.model.specs.Files.DrawingFile.{read_drawing, file_text}
use Rattle.model.specs.Files.RuleText.{read_rule}
use Rattle.model.specs.declared.Counts.{Counts}
use Rattle.model.specs.declared.Refusal.TheVariants.{NotOpen, AlreadyOpen, NoCopy, BufferShort, LengthDiffers}

-- "The record is shut, or open with scheme, drawing and a list of at most 8 earlier drawings, newest first."
pub data Record : Type 0 where
  shut : Record
  opened : Scheme → Instance → (copies : List Instance) → Record

-- the calls with their arguments: a file, a rule text, a list of numbers, the buffer that is lent, as it is before the call
pub data Call : Type 0 where
  Open : (file : List ℕ) → Call
  Apply : (rule : List ℕ) → Call
  Undo Close : Call
  First : (rule : List ℕ) → Call
  After : (rule list : List ℕ) → Call
  Save : (buffer : List ℕ) → Call

-- "the report named below, where undo and close have none"
pub data Report : Type 0 where
  nothing : Report
  declared : (classes names : ℕ) → Report
  counted : Counts → Report
  matching : Option (List ℕ) → Report
  saved : (length : ℕ) → Report

-- the numbers of a report, in the order in which document 01 names them
abbrev pub report_numbers : Report → List ℕ
report_numbers nothing = []
report_numbers (declared c n) = c ∷ n ∷ []
report_numbers (counted c) = c.matchings ∷ c.added.nodes ∷ c.added.edges ∷ c.removed.nodes ∷ c.removed.edges ∷ []
report_numbers (matching None) = []
report_numbers (matching (Some m)) = m
report_numbers (saved n) = n ∷ []

-- what a call leaves: the record, the answer, and the buffer that was lent, [] where none was
pub record Left (Answer : Type 0) : Type 0 where
  pub state : Record
  pub answer : Answer
  pub buffer : List ℕ

-- the record and the report after an accepted call that lends no buffer
abbrev leaves : Record → Report → Outcome (Left Report)
leaves r x = accepted (record { state = r; answer = x; buffer = [] })

-- "Order: 6 or 7; then the first bad line, tried 1 to 5; then 14, or 8, or 13", or 9 to 12
unfoldable pub accept : Record → Call → Outcome (Left Report)
-- "Open, on an accepted file, sets scheme and drawing, with no copies."
accept shut (Open file) = do
  f ← read_drawing file
  let s = f.scheme
  leaves (opened s f.instance []) (declared (length s.classes) (length s.names))
-- "any call but open while shut"
accept shut (Apply rule) = refused NotOpen
accept shut Undo = refused NotOpen
accept shut Close = refused NotOpen
accept shut (First rule) = refused NotOpen
accept shut (After rule list) = refused NotOpen
accept shut (Save buffer) = refused NotOpen
-- "open while open"
accept (opened s d cs) (Open file) = refused AlreadyOpen
-- "Apply puts the old drawing at the head of the copies, drops a ninth, and sets the new drawing, even if equal." "House: the scheme doesn't
-- grow after opening."
accept (opened s d cs) (Apply rule) = do
  r ← read_rule s rule
  new ← applied s r d
  leaves (opened s new (take Limits.copies (d ∷ cs))) (counted (counts r.pattern d new))
-- "Undo takes the head copy off the list and sets it as drawing."
accept (opened s d []) Undo = refused NoCopy
accept (opened s d (c ∷ cs)) Undo = leaves (opened s c cs) nothing
-- "Close makes it shut."
accept (opened s d cs) Close = leaves shut nothing
-- "first gives the smallest matching of an accepted pattern"
accept (opened s d cs) (First rule) = do
  r ← read_rule s rule
  leaves (opened s d cs) (matching (smallest (matchings r.pattern d)))
-- "after gives the smallest one greater than a given list (which need not be a matching), or none"
accept (opened s d cs) (After rule list) = do
  r ← read_rule s rule
  let k = length r.pattern.nodes
  cond (eqb (length list) k)
      (leaves (opened s d cs) (matching (smallest_after list (matchings r.pattern d))))
      (refused (LengthDiffers k))
-- "Save writes the file at the front of the buffer, leaves the rest and reports the file's length in bytes."
accept (opened s d cs) (Save buffer) =
    let file = file_text s d in
    let n = length file in
    cond (leb n (length buffer))
    (accepted (record { state = opened s d cs; answer = saved n; buffer = at_front file buffer }))
    (refused (BufferShort n))

-- the buffer that a call lends, as it is before the call
abbrev pub lent : Call → List ℕ
lent (Open file) = []
lent (Apply rule) = []
lent Undo = []
lent Close = []
lent (First rule) = []
lent (After rule list) = []
lent (Save buffer) = buffer

-- "A refused call changes nothing."
abbrev pub settle : Record → Call → Outcome (Left Report) → Left (Outcome Report)
settle r c (accepted a) = record { state = a.state; answer = accepted a.answer; buffer = a.buffer }
settle r c (refused x) = record { state = r; answer = refused x; buffer = lent c }

unfoldable pub step : Record → Call → Left (Outcome Report)
step r c = settle r c (accept r c)

-- the record after a list of calls, and "the answers of its calls in their order"
pub record Run : Type 0 where
  pub state : Record
  pub answers : List (Outcome Report)

unfoldable pub run : Record → List Call → Run
run r [] = record { state = r; answers = [] }
run r (c ∷ cs) =
    let now = step r c in
    let rest = run now.state cs in
    record { state = rest.state; answers = now.answer ∷ rest.answers }

-- "A listing is first, then after on each matching given, with the same rule text, until none."
pub data ListingFrom (next : List ℕ → Outcome Report) : Outcome Report → List (List ℕ) → Type 0 where
  ends : ListingFrom next (accepted (matching None)) []
  goes : {m : List ℕ} {ms : List (List ℕ)} → ListingFrom next (next m) ms → ListingFrom next (accepted (matching (Some m))) (m ∷ ms)

abbrev pub Listing : Record → (rule : List ℕ) → List (List ℕ) → Type 0
Listing r rule ms = ListingFrom (λ m. (step r (After rule m)).answer) (step r (First rule)).answer ms
