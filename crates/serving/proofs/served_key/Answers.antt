-- the goals that are left of `served_key`
use borrow.Author.Rules.{rules}
use Rattle.serving.specs.Laws.Serving.{name-small, shifted_fits, joined-fits, gathered-more, gathered-missed, gathered-all}
use Rattle.serving.proofs.served_key.Goals as goal

pub overflow_mul-key : goal.overflow_mul-key
overflow_mul-key c = search (shifted_fits, rules)

pub first_target-requires : goal.first_target-requires
first_target-requires c = search (name-small, rules)

pub returns-in_err-key : goal.returns-in_err-key
returns-in_err-key c = search (gathered-missed, rules)

pub overflow_add-key : goal.overflow_add-key
overflow_add-key c = search (joined-fits, rules)

pub loop-arm-preserved : goal.loop-arm-preserved
loop-arm-preserved c = gathered-more _ _ _ _ _ c.loop-arm.invariant c.loop-arm-test.true _ c.in_ok-key.ensures

pub returns : goal.returns
returns c = search (gathered-all, rules)
