-- The sessions that the demands speak of: whatever a list of calls, each held to its contract, leaves of a new session.
use Rattle.std.specs.Prelude.{List}
use Rattle.model.specs.Refusals.{Outcome}
use Rattle.model.specs.Record.{Call, Report}
use Rattle.session.specs.Sessions.{NewSession}
use Rattle.session.specs.Chains.{Chain}
use Rattle.session.specs.declared.Session.{Session}

pub data Reached (now : Session) : Type 0 where
  reached : {new : Session} {calls : List Call} {answers : List (Outcome Report)} → NewSession new → Chain new calls answers now → Reached now
