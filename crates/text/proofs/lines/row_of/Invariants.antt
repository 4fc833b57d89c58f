-- `text::lines::row_of` meets its contract: the numbers that are read and the pieces that are left give the row of the whole text. The row stays
-- below 2 ^ 54, since each number stays below its room. Assumes nothing.
use Rattle.text.specs.Laws.Rows.{Rowed}
use Rattle.text.proofs.lines.row_of.Given as goal

abbrev pub invariant-loop-place : goal.invariant-loop-place
invariant-loop-place l = Rowed l.fn.kind l.form l.s l.row l.at l.place
