-- the goals that are left of `numbers_of`
use borrow.Author.Rules.{rules}
use Rattle.printing.specs.Laws.Numbers.{divided-none, room-some, divided-next}
use Rattle.printing.proofs.numbers_of.Goals as goal

pub loop-place-init : goal.loop-place-init
loop-place-init c = search (divided-none, rules)

pub nonzero_rem-numbers : goal.nonzero_rem-numbers
nonzero_rem-numbers c = search (room-some, rules)

pub nonzero_div-rest : goal.nonzero_div-rest
nonzero_div-rest c = search (room-some, rules)

pub loop-place-preserved : goal.loop-place-preserved
loop-place-preserved c = search (divided-next, rules)
