-- `numerals::scan::numeral_below` meets its contract: the digits that are read and the bytes that are left give the numeral that the whole text is.
-- Assumes nothing.
use Rattle.numerals.specs.Laws.Scan.{Reads}
use Rattle.numerals.proofs.scan.numeral_below.Given as goal

abbrev pub invariant-loop-b : goal.invariant-loop-b
invariant-loop-b l = Reads l.below l.s l.value l.b-index
