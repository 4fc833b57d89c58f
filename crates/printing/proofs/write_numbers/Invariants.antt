-- `printing::write_numbers` meets its contract: what is written, and the numbers that are left, are all. Assumes nothing.
use Rattle.printing.specs.Laws.Written.{Printing}
use Rattle.printing.proofs.write_numbers.Given as goal

abbrev pub invariant-loop-place : goal.invariant-loop-place
invariant-loop-place l = Printing l.numbers l.initial.buf l.at l.place l.buf
