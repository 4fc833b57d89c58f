-- What an exported call promises: what the call promises that it exports, and its result has the numbers of that call's answer.
use Rattle.std.specs.Prelude.{ℕ, ◌≡◌, List}
use Rattle.model.specs.Refusals.{Outcome}
use Rattle.model.specs.Record.{Call, Report}
use Rattle.session.specs.Sessions.{Stepped}
use Rattle.session.specs.declared.Session.{Session}

-- `told` is what an answer says to the record, `numbers` its numbers
pub record Exports {Answer Result : Type 0} (told : Answer → Outcome Report) (numbers : Answer → Result)
    (call : Call) (before : Session) (result : Result) (buffer : List ℕ) (after : Session) : Type 0 where
  pub answer : Answer
  pub stepped : Stepped call before (told answer) buffer after
  pub tells : result ≡ numbers answer
