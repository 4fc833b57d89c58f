-- What a caller may conclude from a result alone, whatever language it is written in: the first two numbers are those of the record's own answer, and
-- where the first is not 0, session and buffer are as they were. It holds of every exported call, by the law of its result (`results`: `Laws/Numbers`): theorem `exported-told`, proofs/Callers.antt.
use Rattle.std.specs.Prelude.{ℕ, ◌≡◌, List}
use Rattle.model.specs.Record.{Call, lent, step}
use Rattle.session.specs.Sessions.{unpack_session}
use Rattle.session.specs.declared.Session.{Session}
use Rattle.results.specs.Results.{row_of}

pub record Told (call : Call) (before : Session) (refusal returned : ℕ) (buffer : List ℕ) (after : Session) : Type 0 where
  pub number : refusal ≡ (row_of (step (unpack_session before) call).answer).number
  pub returns : returned ≡ (row_of (step (unpack_session before) call).answer).returned
  pub unchanged : (refusal ≡ 0 → ⊥) → (after ≡ before) × (buffer ≡ lent call)
