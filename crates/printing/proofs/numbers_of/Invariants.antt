-- `printing::numbers_of` meets its contract: the numbers of what is left of the row, then those that were got, are all numbers. Assumes nothing.
use Rattle.printing.specs.Laws.Numbers.{Divided}
use Rattle.printing.proofs.numbers_of.Given as goal

abbrev pub invariant-loop-place : goal.invariant-loop-place
invariant-loop-place l = Divided l.fn.kind l.fn.row l.form l.numbers l.rest l.place
