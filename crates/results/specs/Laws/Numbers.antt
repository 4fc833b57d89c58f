-- Each result tells by its first two numbers whether its answer is a refusal, and which (`row_of`). By cases of the answer, as antt computes.
use Rattle.std.specs.Prelude.{refl, Some, None, Ok, Err}
use Rattle.model.specs.Answers.{open_answer, apply_answer, step_answer, save_answer}
use Rattle.matcher.specs.Matchers.{given}
use Rattle.results.specs.Results.{open_result, apply_result, step_result, matching_result, save_result, Numbered}

pub open-numbered : Numbered open_answer open_result (λ r. r.refusal) (λ r. r.returned)
open-numbered (Ok o) = (refl, refl)
open-numbered (Err x) = (refl, refl)

pub apply-numbered : Numbered apply_answer apply_result (λ r. r.refusal) (λ r. r.returned)
apply-numbered (Ok c) = (refl, refl)
apply-numbered (Err x) = (refl, refl)

-- of undo and close
pub step-numbered : Numbered step_answer step_result (λ r. r.refusal) (λ r. r.returned)
step-numbered (Ok _) = (refl, refl)
step-numbered (Err x) = (refl, refl)

pub matching-numbered : Numbered given matching_result (λ r. r.refusal) (λ r. r.returned)
matching-numbered (Ok (Some m)) = (refl, refl)
matching-numbered (Ok None) = (refl, refl)
matching-numbered (Err x) = (refl, refl)

pub save-numbered : Numbered save_answer save_result (λ r. r.refusal) (λ r. r.returned)
save-numbered (Ok n) = (refl, refl)
save-numbered (Err x) = (refl, refl)
