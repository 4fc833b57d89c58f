-- The session: the record that it stands for, its invariant, and the one relation that every call's contract cites.
use Rattle.std.specs.Prelude.{ℕ, ◌≤◌, ◌≡◌, cond, List, take}
use Rattle.lists.specs.Lists.{◌∈◌}
use Rattle.model.specs.Limits
use Rattle.model.specs.Refusals.{Outcome, refused}
use Rattle.model.specs.Record.{Record, shut, opened, Call, Report, step}
use Rattle.model.specs.declared.Refusal.{Refusal}
use Rattle.graph.specs.Packed.{unpack_scheme, unpack_instance, unpack_history, StoredScheme, StoredInstance}
use Rattle.graph.specs.declared.instance.PackedInstance.{PackedInstance}
use Rattle.session.specs.declared.Session.{Session}

-- "The record is shut, or open with scheme, drawing and a list of at most 8 earlier drawings, newest first."
unfoldable pub unpack_session : Session → Record
unpack_session s = cond s.opened (opened (unpack_scheme s.scheme) (unpack_instance s.instance) (unpack_history s.history)) shut

-- the session's invariant: scheme, instance and copies are stored as they should be. A session comes from `new` and the calls alone, which keep it.
pub record StoredSession (s : Session) : Type 0 where
  pub scheme : StoredScheme s.scheme
  pub instance : StoredInstance (unpack_scheme s.scheme) s.instance
  pub few : s.history.depth ≤ Limits.copies
  pub copies : (c : PackedInstance) → c ∈ take s.history.depth s.history.copies → StoredInstance (unpack_scheme s.scheme) c

-- "a new one is shut"
pub record NewSession (s : Session) : Type 0 where
  pub shut : unpack_session s ≡ shut
  pub stored : StoredSession s

-- what a call leaves is what the record's step leaves: the answer, the session, and the buffer that is lent ([] where none is). A refused call
-- leaves the session itself as it was, and every call leaves the invariant.
pub record Stepped (call : Call) (before : Session) (answer : Outcome Report) (buffer : List ℕ) (after : Session) : Type 0 where
  pub answers : answer ≡ (step (unpack_session before) call).answer
  pub session : unpack_session after ≡ (step (unpack_session before) call).state
  pub lent : buffer ≡ (step (unpack_session before) call).buffer
  pub unchanged : (x : Refusal) → answer ≡ refused x → after ≡ before
  pub stored : StoredSession after
