-- What a session stands for when it is shut and when it is open, and when a call has stepped: from what the record accepts or refuses.
use Rattle.std.specs.Prelude.{ℕ, ◌≡◌, true, false, List}
use Rattle.std.proofs.Math.Path.{refl}
use Rattle.std.proofs.Common.{ap, sym}
use Rattle.model.specs.Refusals.{Outcome, accepted, refused}
use Rattle.model.specs.Record.{shut, opened, Call, Report, Left, lent, accept, settle, step}
use Rattle.model.proofs.Laws.Outcomes.{refused-not-accepted}
use Rattle.model.specs.declared.Refusal.{Refusal}
use Rattle.graph.specs.Packed.{unpack_scheme, unpack_instance, unpack_history}
use Rattle.session.specs.declared.Session.{Session}
use Rattle.session.specs.Sessions.{unpack_session, StoredSession, Stepped}

module _ (s : Session) where
  pub shut-is : s.opened ≡ false → unpack_session s ≡ shut
  unfolding unpack_session
  shut-is h = rw h refl

  pub open_is : s.opened ≡ true → unpack_session s ≡ opened (unpack_scheme s.scheme) (unpack_instance s.instance) (unpack_history s.history)
  unfolding unpack_session
  open_is h = rw h refl

-- what equals the record's step has stepped
pub as_step : {call : Call} {s after : Session} {answer : Outcome Report} {buffer : List ℕ}
    → record { state = unpack_session after; answer = answer; buffer = buffer } ≡ step (unpack_session s) call
    → ((x : Refusal) → answer ≡ refused x → after ≡ s) → StoredSession after → Stepped call s answer buffer after
as_step e unchanged stored =
    record {
      answers = ap (λ (l : Left (Outcome Report)). l.answer) e;
      session = ap (λ (l : Left (Outcome Report)). l.state) e;
      lent = ap (λ (l : Left (Outcome Report)). l.buffer) e;
      unchanged = unchanged;
      stored = stored;
    }

-- "A refused call changes nothing."
pub refused-steps : {call : Call} {s : Session} {x : Refusal} → StoredSession s → accept (unpack_session s) call ≡ refused x
    → Stepped call s (refused x) (lent call) s
unfolding step
refused-steps {call = call} {s = s} stored h = as_step (sym (ap (settle (unpack_session s) call) h)) (λ x _. refl) stored

pub accepted-steps : {call : Call} {s after : Session} {y : Report} {buffer : List ℕ}
    → accept (unpack_session s) call ≡ accepted (record { state = unpack_session after; answer = y; buffer = buffer }) → StoredSession after
    → Stepped call s (accepted y) buffer after
unfolding step
accepted-steps {call = call} {s = s} h stored =
    as_step (sym (ap (settle (unpack_session s) call) h)) (λ x r. absurd (refused-not-accepted (sym r))) stored
