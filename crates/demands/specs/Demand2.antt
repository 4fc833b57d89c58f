-- Demand 2: an applied rule leaves exactly what the definitions say, with counts taken from them; a file that opens saves byte for byte, a saved
-- file opens as the same drawing. Proved in proofs/Demand2.
use Rattle.std.specs.Prelude.{ℕ, ◌<◌, ◌≤◌, ◌≡◌, List, [], length, take}
use Rattle.lists.specs.Buffers.{at_front}
use Rattle.model.specs.Graph.{Scheme, Instance}
use Rattle.model.specs.Refusals.{Outcome, accepted, refused}
use Rattle.model.specs.Record.{shut, opened, Open, Apply, Save, Report, declared, saved}
use Rattle.model.specs.Demands.{AppliedRule}
use Rattle.model.specs.declared.Refusal.TheVariants.{BufferShort}
use Rattle.session.specs.Sessions.{unpack_session, Stepped}
use Rattle.session.specs.declared.Session.{Session}
use Rattle.demands.specs.Reached.{Reached}

-- what save leaves where the drawing's file is `file`: the file at the front of a buffer that is long enough, and no other byte changed
pub record SavesFile (file before : List ℕ) (answer : Outcome Report) (after : List ℕ) : Type 0 where
  pub fits : length file ≤ length before → (answer ≡ accepted (saved (length file))) × (after ≡ at_front file before)
  pub short : length before < length file → (answer ≡ refused (BufferShort (length file))) × (after ≡ before)

-- a file that opens as this scheme and drawing, with no copies
pub record OpensAs (s : Scheme) (d : Instance) (answer : Outcome Report) (after : Session) : Type 0 where
  pub reports : answer ≡ accepted (declared (length s.classes) (length s.names))
  pub session : unpack_session after ≡ opened s d []

-- `demand-2-apply`: the drawing, its copies and the five counts after an accepted rule
abbrev pub Demand2Apply : Type 0
Demand2Apply = (s : Scheme) (d : Instance) (cs : List Instance) (rule buffer : List ℕ) (y : Report) (before after : Session) → Reached before
    → unpack_session before ≡ opened s d cs → Stepped (Apply rule) before (accepted y) buffer after → AppliedRule s d cs rule (unpack_session after) y

-- `demand-2-open`: a file that opens saves byte for byte, whatever the session was
abbrev pub Demand2Open : Type 0
Demand2Open = (file lent buffer written : List ℕ) (y : Report) (answer : Outcome Report) (before now after : Session)
    → Stepped (Open file) before (accepted y) lent now → Stepped (Save buffer) now answer written after → SavesFile file buffer answer written

-- `demand-2-save`: a saved file opens as the same drawing, in any session that is shut
abbrev pub Demand2Save : Type 0
Demand2Save = (s : Scheme) (d : Instance) (cs : List Instance) (buffer written lent : List ℕ) (n : ℕ) (answer : Outcome Report)
    (before after closed again : Session) → Reached before
    → unpack_session before ≡ opened s d cs → Stepped (Save buffer) before (accepted (saved n)) written after
    → unpack_session closed ≡ shut → Stepped (Open (take n written)) closed answer lent again → OpensAs s d answer again
