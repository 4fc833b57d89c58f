-- `writing::save::write_rows` meets its contract: what is written, and the lines that are left, are all lines. Assumes nothing.
use Rattle.writing.proofs.Laws.Lines.{Lined}
use Rattle.writing.proofs.save.write_rows.Given as goal

abbrev pub invariant-loop-row : goal.invariant-loop-row
invariant-loop-row l = Lined l.kind l.rows l.fn.from l.initial.buf l.at l.row-index l.buf
