-- the goals that are left of `row_of`
use native.Mathlib.Omega.{arith}
use borrow.Author.Rules.{rules}
use Rattle.text.specs.Laws.Rows.{rowed-none, rowed-next, row_small, row-short, row-not, row-end, row_more, piece-within}
use Rattle.text.proofs.lines.row_of.Goals as goal

pub loop-place-init : goal.loop-place-init
loop-place-init c = search (rowed-none, rules)

pub returns-then-s-at : goal.returns-then-s-at
returns-then-s-at c = search (row-short, rules)

pub overflow_add-end : goal.overflow_add-end
overflow_add-end c = let within = piece-within c.loop-place.invariant c.if-s-at.false c.find.ensures in omega arith

pub slice_bounds-numeral_below-end : goal.slice_bounds-numeral_below-end
slice_bounds-numeral_below-end c = search (piece-within, rules)

pub returns-in_default : goal.returns-in_default
returns-in_default c = search (row-not, rules)

pub loop-place-preserved : goal.loop-place-preserved
loop-place-preserved c =
    rowed-next c.loop-place.invariant
    c.if-s-at.false
    c.find.ensures
    c.loop-place-test.true
    c.numeral_below.ensures c.in-Some.is

pub overflow_mul-row : goal.overflow_mul-row
overflow_mul-row c = let small = row_small ((rowed-next c.loop-place.invariant
    c.if-s-at.false
    c.find.ensures
    c.loop-place-test.true
    c.numeral_below.ensures c.in-Some.is)) in omega arith

pub overflow_add-row : goal.overflow_add-row
overflow_add-row c = let small = row_small ((rowed-next c.loop-place.invariant
    c.if-s-at.false
    c.find.ensures
    c.loop-place-test.true
    c.numeral_below.ensures c.in-Some.is)) in omega arith

pub returns-then-at-s : goal.returns-then-at-s
returns-then-at-s c = search (row-end, rules)

pub returns-else-at-s : goal.returns-else-at-s
returns-else-at-s c = search (row_more, rules)
