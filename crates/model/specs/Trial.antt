-- "Program `trial` reads job.txt and rule.txt, opens, applies, and prints `done=` with the five counts and the saved file, or `refused=` with
-- number and returned number."
use Rattle.std.specs.Prelude.{ℕ, List, [], ◌∷◌, ◌++◌}
use Rattle.lists.specs.Text.{bytes}
use Rattle.model.specs.Files.{key_line}
use Rattle.model.specs.Files.DrawingFile.{file_text}
use Rattle.model.specs.Refusals.{Outcome, accepted, refused, ◌>>=◌, table_row}
use Rattle.model.specs.Record.{Record, shut, opened, Open, Apply, report_numbers, accept}

-- the file that save writes; a shut record has none
abbrev pub saved_file : Record → List ℕ
saved_file shut = []
saved_file (opened s d cs) = file_text s d

abbrev pub outcome_text : Outcome (List ℕ) → List ℕ
outcome_text (accepted text) = text
outcome_text (refused r) = let row = table_row r in key_line (bytes "refused") (row.number ∷ row.returned ∷ [])

unfoldable pub trial : (job rule : List ℕ) → List ℕ
trial job rule =
    let done = do
      o ← accept shut (Open job)
      a ← accept o.state (Apply rule)
      accepted (key_line (bytes "done") (report_numbers a.answer) ++ saved_file a.state)
    in
    outcome_text done
