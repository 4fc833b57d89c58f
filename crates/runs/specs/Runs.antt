-- What running a list of calls promises: demand 3 for that list.
use Rattle.std.specs.Prelude.{ℕ, ◌+◌, ◌/◌, ◌≤◌, ◌≡◌, Bool, ◌&&◌, List, [], ◌++◌, length, get_or, drop, ltb, Result}
use Rattle.lists.specs.Lists.{each}
use Rattle.lists.specs.Buffers.{at_front, WritesFrom}
use Rattle.model.specs.Refusals.{Outcome}
use Rattle.model.specs.Record.{Call, Report, run}
use Rattle.model.specs.declared.Refusal.{Refusal}
use Rattle.session.specs.Sessions.{unpack_session, StoredSession, NewSession, Stepped}
use Rattle.session.specs.Chains.{Chain}
use Rattle.session.specs.declared.Session.{Session}
use Rattle.demands.specs.Demand3.{Demand3}
use Rattle.runs.specs.Handed.{is_call, calls_from, in_six, six_numbers, answer_room}

-- one call of a list: the answer, told by the numbers of its report or as a refusal, and the session
pub record Makes (call : Call) (before : Session) (r : Result (List ℕ) Refusal) (after : Session) : Type 0 where
  pub answer : Outcome Report
  pub stepped : Stepped call before answer [] after
  pub numbers : in_six r ≡ six_numbers answer

-- the answer as its numbers
pub record Performs (call : Call) (before : Session) (told : List ℕ) (after : Session) : Type 0 where
  pub answer : Outcome Report
  pub stepped : Stepped call before answer [] after
  pub numbers : told ≡ six_numbers answer

-- session and answers are the record's, from whatever record the session begins with; from a new session they are what demand 3 says
pub record Runs (s : Session) (calls : List Call) (before : List ℕ) (run_count : ℕ) (left : Session) (after : List ℕ) : Type 0 where
  pub answers : List (Outcome Report)
  pub equals : record { state = unpack_session left; answers = answers } ≡ run (unpack_session s) calls
  pub numbers : after ≡ at_front (each answers six_numbers) before
  pub count : run_count ≡ length calls
  pub chain : Chain s calls answers left
  pub demand : NewSession s → Demand3 calls answers left
  pub stored : StoredSession left

-- # Within the crate
-- entry i is a call, whose text begins at `from`, and there is room for its answer
unfoldable pub goes_on : (kinds bounds : List ℕ) (texts room from i : ℕ) → Bool
goes_on kinds bounds texts room from i =
    ltb i (length kinds) && ltb i (length bounds) && ltb i room && is_call (get_or kinds i 0) from (get_or bounds i 0) texts

-- one call of a list, whose answer is written from a place on
pub record Answered (call : Call) (s : Session) (from : ℕ) (before : List ℕ) (t : Session) (after : List ℕ) : Type 0 where
  pub answer : Outcome Report
  pub stepped : Stepped call s answer [] t
  pub written : WritesFrom (six_numbers answer) from before (from + answer_room) after

-- part of a list has been run: what is left of it begins at entry i, and its text at `from`
pub record Running (s : Session) (kinds bounds texts before : List ℕ) (i from : ℕ) (current : Session) (numbers : List ℕ) : Type 0 where
  pub done : List Call
  pub given : List (Outcome Report)
  pub chain : Chain s done given current
  pub count : length done ≡ i
  pub rest : calls_from 0 kinds bounds texts ≡ done ++ calls_from from (drop i kinds) (drop i bounds) texts
  pub room : i ≤ length before / answer_room
  pub written : numbers ≡ at_front (each given six_numbers) before
  pub stored : StoredSession current
