-- The code's answers as the record's answers: the report of an accepted call, or the refusal.
use Rattle.std.specs.Prelude.{ℕ, Result, Ok, Err}
use Rattle.std.specs.Bool.{⊤}
use Rattle.model.specs.Refusals.{Outcome, accepted, refused}
use Rattle.model.specs.Record.{Report, nothing, declared, counted, saved}
use Rattle.model.specs.declared.Refusal.{Refusal}
use Rattle.model.specs.declared.Opened.{Opened}
use Rattle.model.specs.declared.Counts.{Counts}

-- a result in the code as an outcome, with what its value stands for
abbrev pub outcome : {A B : Type 0} → (A → B) → Result A Refusal → Outcome B
outcome f (Ok a) = accepted (f a)
outcome f (Err r) = refused r

abbrev pub open_answer : Result Opened Refusal → Outcome Report
open_answer = outcome (λ o. declared o.classes o.names)

abbrev pub apply_answer : Result Counts Refusal → Outcome Report
apply_answer = outcome counted

-- of undo and close
abbrev pub step_answer : Result ⊤ Refusal → Outcome Report
step_answer = outcome (λ _. nothing)

abbrev pub save_answer : Result ℕ Refusal → Outcome Report
save_answer = outcome saved
