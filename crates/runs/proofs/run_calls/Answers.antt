-- the goals that are left of `run_calls`: a turn of the loop, by what it goes on for
use native.Mathlib.Omega.{arith}
use borrow.Author.Rules.{rules}
use Rattle.runs.specs.Laws.Entries.{running-start, running-long, going, running-next, ran}
use Rattle.runs.proofs.run_calls.Goals as goal

pub loop-end-init : goal.loop-end-init
loop-end-init c = search (running-start, rules)

pub bounds-bounds-i : goal.bounds-bounds-i
bounds-bounds-i c = (going _ _ _ _ _ _ c.goes_on.ensures c.loop-end-test.true).bound

pub bounds-kinds-i : goal.bounds-kinds-i
bounds-kinds-i c = (going _ _ _ _ _ _ c.goes_on.ensures c.loop-end-test.true).kind

pub slice_bounds-answer_call-count : goal.slice_bounds-answer_call-count
slice_bounds-answer_call-count c = (going _ _ _ _ _ _ c.goes_on.ensures c.loop-end-test.true).starts

pub slice_bounds-answer_call-start : goal.slice_bounds-answer_call-start
slice_bounds-answer_call-start c = (going _ _ _ _ _ _ c.goes_on.ensures c.loop-end-test.true).starts

pub slice_bounds-answer_call-end : goal.slice_bounds-answer_call-end
slice_bounds-answer_call-end c = (going _ _ _ _ _ _ c.goes_on.ensures c.loop-end-test.true).stops

pub overflow_mul-i : goal.overflow_mul-i
overflow_mul-i c = let g = going _ _ _ _ _ _ c.goes_on.ensures c.loop-end-test.true in omega (arith, g.fits)

pub answer_call-requires : goal.answer_call-requires
answer_call-requires c =
    let g = going _ _ _ _ _ _ c.goes_on.ensures c.loop-end-test.true in
    record { stored_session = c.loop-end.invariant.stored; answer_room_in_bounds = omega (arith, g.fits) }

pub overflow_add-i : goal.overflow_add-i
overflow_add-i c = let g = going _ _ _ _ _ _ c.goes_on.ensures c.loop-end-test.true in omega (arith, g.kind)

pub loop-end-smaller : goal.loop-end-smaller
loop-end-smaller c = let g = going _ _ _ _ _ _ c.goes_on.ensures c.loop-end-test.true in omega (arith, g.kind)

pub loop-end-preserved : goal.loop-end-preserved
loop-end-preserved c =
    running-next c.loop-end.invariant (going _ _ _ _ _ _ c.goes_on.ensures c.loop-end-test.true) c.answer_call.ensures

pub shape_of-answers : goal.shape_of-answers
shape_of-answers c = search (running-long, rules)

pub returns : goal.returns
returns c = search (ran, rules)
