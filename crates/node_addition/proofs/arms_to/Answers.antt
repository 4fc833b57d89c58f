-- the goals that are left of `arms_to`
use borrow.Author.Rules.{rules}
use Rattle.node_addition.specs.Laws.Adding.{arms-left-fewer, arms-left-none}
use Rattle.node_addition.proofs.arms_to.Goals as goal

pub loop-i-preserved : goal.loop-i-preserved
loop-i-preserved c = search (arms-left-fewer, rules)

pub returns : goal.returns
returns c = search (arms-left-none, rules)
