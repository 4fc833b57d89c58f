-- What a result tells of an answer, case by case: 0 and 0, then what is reported; or the row of the table of refusals, and zeros.
use Rattle.std.specs.Prelude.{ℕ, [], ◌∷◌, ◌≡◌, Option, Some, None, Result, Ok, Err}
use Rattle.std.specs.Bool.{⊤}
use Rattle.model.specs.Refusals.{Outcome, accepted, refused, table_row}
use Rattle.model.specs.Record.{Report}
use Rattle.model.specs.declared.Counts.{Counts}
use Rattle.model.specs.declared.Opened.{Opened}
use Rattle.model.specs.declared.Refusal.{Refusal}
use Rattle.model.specs.declared.Row.{Row}
use Rattle.matcher.specs.declared.listing.Matching.{Matching}
use Rattle.results.specs.declared.StepResult.{StepResult}
use Rattle.results.specs.declared.OpenResult.{OpenResult}
use Rattle.results.specs.declared.ApplyResult.{ApplyResult}
use Rattle.results.specs.declared.MatchingResult.{MatchingResult}
use Rattle.results.specs.declared.SaveResult.{SaveResult}

abbrev pub open_result : Result Opened Refusal → OpenResult
open_result (Ok o) = record { refusal = 0; returned = 0; classes = o.classes; names = o.names }
open_result (Err x) = record { refusal = (table_row x).number; returned = (table_row x).returned; classes = 0; names = 0 }

abbrev pub apply_result : Result Counts Refusal → ApplyResult
apply_result (Ok c) = record {
  refusal = 0;
  returned = 0;
  matchings = c.matchings;
  nodes_added = c.added.nodes;
  edges_added = c.added.edges;
  nodes_removed = c.removed.nodes;
  edges_removed = c.removed.edges;
}
apply_result (Err x) = record {
  refusal = (table_row x).number;
  returned = (table_row x).returned;
  matchings = 0;
  nodes_added = 0;
  edges_added = 0;
  nodes_removed = 0;
  edges_removed = 0;
}

-- undo and close report nothing
abbrev pub refused_step : Refusal → StepResult
refused_step x = record { refusal = (table_row x).number; returned = (table_row x).returned }

abbrev pub step_result : Result ⊤ Refusal → StepResult
step_result (Ok _) = record { refusal = 0; returned = 0 }
step_result (Err x) = refused_step x

-- no matching: none is found, or the call is refused
abbrev unmatched : (refusal returned : ℕ) → MatchingResult
unmatched n m = record { refusal = n; returned = m; found = 0; length = 0; numbers = 0 ∷ 0 ∷ 0 ∷ 0 ∷ 0 ∷ 0 ∷ [] }

abbrev pub matching_result : Result (Option Matching) Refusal → MatchingResult
matching_result (Ok (Some m)) = record { refusal = 0; returned = 0; found = 1; length = m.length; numbers = m.numbers }
matching_result (Ok None) = unmatched 0 0
matching_result (Err x) = unmatched (table_row x).number (table_row x).returned

abbrev pub save_result : Result ℕ Refusal → SaveResult
save_result (Ok n) = record { refusal = 0; returned = 0; length = n }
save_result (Err x) = record { refusal = (table_row x).number; returned = (table_row x).returned; length = 0 }

-- # The first two numbers
abbrev done : Row
done = record { number = 0; returned = 0 }

-- 0 and 0 where the call was done, or the refusal's row
abbrev pub row_of : Outcome Report → Row
row_of (accepted y) = done
row_of (refused x) = table_row x

-- they tell of every answer whether it is a refusal, and which
abbrev pub Numbered : {Answer Numbers : Type 0} → (Answer → Outcome Report) → (Answer → Numbers) → (refusal returned : Numbers → ℕ) → Type 0
Numbered {Answer} tell numbers refusal returned =
    (a : Answer) → (refusal (numbers a) ≡ (row_of (tell a)).number) × (returned (numbers a) ≡ (row_of (tell a)).returned)

-- within the crate: they, and what is reported, or what stands for no report
abbrev pub told : {A : Type 0} → Result A Refusal → (nothing : A) → Row × A
told (Ok a) nothing = (done, a)
told (Err x) nothing = (table_row x, nothing)
