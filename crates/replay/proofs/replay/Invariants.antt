-- `replay::replay` meets its contract: the session stays stored as it should be. Assumes nothing.
use Rattle.session.specs.Sessions.{StoredSession}
use Rattle.replay.proofs.replay.Given as goal

abbrev pub invariant-loop-entry : goal.invariant-loop-entry
invariant-loop-entry g l = StoredSession l.session
