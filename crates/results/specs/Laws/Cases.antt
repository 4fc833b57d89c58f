-- The result of each case of an answer, for a caller who knows the case: what is reported after 0 and 0, or the refusal's row before zeros.
use Rattle.std.specs.Prelude.{ℕ, ◌≡◌, [], ◌∷◌, Option, Some, None, Result, Ok, Err}
use Rattle.std.specs.Bool.{⊤}
use Rattle.model.specs.Refusals.{table_row}
use Rattle.model.specs.declared.Counts.{Counts}
use Rattle.model.specs.declared.Opened.{Opened}
use Rattle.model.specs.declared.Refusal.{Refusal}
use Rattle.matcher.specs.declared.listing.Matching.{Matching}
use Rattle.results.specs.Results.{open_result, apply_result, step_result, matching_result, save_result, refused_step}
use Rattle.results.specs.declared.StepResult.{StepResult}

pub opened-case : {a : Result Opened Refusal} {c n : ℕ} → a ≡ Ok (record { classes = c; names = n })
    → record { refusal = 0; returned = 0; classes = c; names = n } ≡ open_result a
opened-case e = rw e

pub open-refused : {a : Result Opened Refusal} {x : Refusal} {r : StepResult} → a ≡ Err x → r ≡ refused_step x
    → record { refusal = r.refusal; returned = r.returned; classes = 0; names = 0 } ≡ open_result a
open-refused e f = rw (e, f)

pub applied-case : {a : Result Counts Refusal} {c : Counts} → a ≡ Ok c
    → record {
      refusal = 0;
      returned = 0;
      matchings = c.matchings;
      nodes_added = c.added.nodes;
      edges_added = c.added.edges;
      nodes_removed = c.removed.nodes;
      edges_removed = c.removed.edges;
    } ≡ apply_result a
applied-case e = rw e

pub apply-refused : {a : Result Counts Refusal} {x : Refusal} {r : StepResult} → a ≡ Err x → r ≡ refused_step x
    → record {
      refusal = r.refusal;
      returned = r.returned;
      matchings = 0;
      nodes_added = 0;
      edges_added = 0;
      nodes_removed = 0;
      edges_removed = 0;
    } ≡ apply_result a
apply-refused e f = rw (e, f)

pub step-refused : (x : Refusal) {n m : ℕ} → n ≡ (table_row x).number → m ≡ (table_row x).returned
    → record { refusal = n; returned = m } ≡ refused_step x
step-refused x f g = rw (f, g)

-- of undo and close
pub stepped-case : {a : Result ⊤ Refusal} → a ≡ Ok tt → record { refusal = 0; returned = 0 } ≡ step_result a
stepped-case e = rw e

pub refused-case : {a : Result ⊤ Refusal} {x : Refusal} {r : StepResult} → a ≡ Err x → r ≡ refused_step x → r ≡ step_result a
refused-case e f = rw (e, f)

pub found-case : {a : Result (Option Matching) Refusal} {m : Matching} → a ≡ Ok (Some m)
    → record { refusal = 0; returned = 0; found = 1; length = m.length; numbers = m.numbers } ≡ matching_result a
found-case e = rw e

pub nothing-case : (a : Result (Option Matching) Refusal) → a ≡ Ok None
    → record { refusal = 0; returned = 0; found = 0; length = 0; numbers = 0 ∷ 0 ∷ 0 ∷ 0 ∷ 0 ∷ 0 ∷ [] } ≡ matching_result a
nothing-case a e = rw e

pub matching-refused : (a : Result (Option Matching) Refusal) {x : Refusal} {r : StepResult} → a ≡ Err x → r ≡ refused_step x
    → record { refusal = r.refusal; returned = r.returned; found = 0; length = 0; numbers = 0 ∷ 0 ∷ 0 ∷ 0 ∷ 0 ∷ 0 ∷ [] } ≡ matching_result a
matching-refused a e f = rw (e, f)

pub saved-case : {a : Result ℕ Refusal} {n : ℕ} → a ≡ Ok n → record { refusal = 0; returned = 0; length = n } ≡ save_result a
saved-case e = rw e

pub save-refused : {a : Result ℕ Refusal} {x : Refusal} {r : StepResult} → a ≡ Err x → r ≡ refused_step x
    → record { refusal = r.refusal; returned = r.returned; length = 0 } ≡ save_result a
save-refused e f = rw (e, f)
