-- the goals that are left of `numeral_below`
use native.Mathlib.Omega.{arith}
use borrow.Author.Rules.{rules}
use Rattle.numerals.specs.Laws.Scan.{reads_none, reads_more, numeral-empty, numeral-leading-zero}
use Rattle.numerals.specs.Laws.Scan.{numeral-other, numeral-large, numeral-read}
use Rattle.numerals.proofs.scan.numeral_below.Goals as goal
use Rattle.numerals.proofs.scan.numeral_below.Goals.{else-s-gt1-via-then-s-gt1+else-s-eq48, else-s-gt1-via-else-s-gt1}

pub returns-then-is_empty : goal.returns-then-is_empty
returns-then-is_empty c = search (numeral-empty, rules)

pub returns-then-s-eq48 : goal.returns-then-s-eq48
returns-then-s-eq48 c = search (numeral-leading-zero, rules)

pub loop-b-init : goal.loop-b-init
loop-b-init c =
    reads_none _ _ (search rules)
    (elim c.else-s-gt1.branch [ else-s-gt1-via-then-s-gt1+else-s-eq48 w ↦ λ l. w.if-s-eq48.false | else-s-gt1-via-else-s-gt1 w ↦ λ l. absurd (omega arith) ])

pub returns-then-not-is_ascii_digit : goal.returns-then-not-is_ascii_digit
returns-then-not-is_ascii_digit c = search (numeral-other, rules)

pub returns-then-below-value : goal.returns-then-below-value
returns-then-below-value c = search (numeral-large, rules)

pub loop-b-preserved : goal.loop-b-preserved
loop-b-preserved c = search (reads_more, rules)

pub returns : goal.returns
returns c = search (numeral-read, rules)
