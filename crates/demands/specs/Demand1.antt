-- Demand 1: any file, rule or call, in any order, gets a finished answer or a numbered refusal, and a refusal changes nothing, neither session nor
-- lent buffers. That each call ends is part of its proof; what it answers, and what a refusal leaves, is said here, and proved in proofs/Demand1.
use Rattle.std.specs.Prelude.{ℕ, ◌≤◌, ◌≡◌, ◌↔◌, List}
use Rattle.model.specs.Refusals.{Outcome, refused, table_row}
use Rattle.model.specs.Record.{Call, Report, lent}
use Rattle.model.specs.Causes.{Cause}
use Rattle.model.specs.declared.Refusal.{Refusal}
use Rattle.session.specs.Sessions.{unpack_session, StoredSession, Stepped}
use Rattle.session.specs.declared.Session.{Session}
use Rattle.demands.specs.Reached.{Reached}

-- one of the table's fourteen refusals; session and buffer are as they were
pub record Declined (call : Call) (before : Session) (x : Refusal) (buffer : List ℕ) (after : Session) : Type 0 where
  pub numbered : (1 ≤ (table_row x).number) × ((table_row x).number ≤ 14)
  pub session : after ≡ before
  pub buffers : buffer ≡ lent call

-- a report, or such a refusal: "Each is returned if its cause holds and no earlier one does, never otherwise."
pub record Demand1 (call : Call) (before : Session) (answer : Outcome Report) (buffer : List ℕ) (after : Session) : Type 0 where
  pub exactly : (x : Refusal) → (answer ≡ refused x) ↔ Cause (unpack_session before) call x
  pub declined : (x : Refusal) → answer ≡ refused x → Declined call before x buffer after

-- `demand-1-order`, in any order: whatever calls were made, the next one's `requires` holds
abbrev pub Demand1Order : Type 0
Demand1Order = (now : Session) → Reached now → StoredSession now

-- `demand-1`: so does each call, in every session that calls can leave
abbrev pub Demand1Promise : Type 0
Demand1Promise = (call : Call) (before : Session) (answer : Outcome Report) (buffer : List ℕ) (after : Session)
    → Reached before → Stepped call before answer buffer after → Demand1 call before answer buffer after
