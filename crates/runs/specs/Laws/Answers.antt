-- How long the numbers of each answer are. By cases of the answer.
use Rattle.std.specs.Prelude.{ℕ, ◌≡◌, refl, List, [], ◌∷◌, ◌++◌, length}
use Rattle.std.proofs.Common.{arith, length-append, length-take-le}
use Rattle.model.specs.Refusals.{Outcome, accepted, refused}
use Rattle.model.specs.Record.{Report, report_numbers}
use Rattle.runs.specs.Handed.{six_numbers, answer_room}

-- six, whatever the answer is
pub six-long : (a : Outcome Report) → length (six_numbers a) ≡ answer_room
unfolding six_numbers
six-long (accepted y) =
    length-take-le answer_room (0 ∷ (report_numbers y ++ zeros)) (omega (arith, length-append (report_numbers y) zeros))
  where
    zeros : List ℕ
    zeros = 0 ∷ 0 ∷ 0 ∷ 0 ∷ 0 ∷ []
six-long (refused x) = refl
