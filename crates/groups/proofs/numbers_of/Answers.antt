-- the goals that are left of `numbers_of`
use Rattle.groups.proofs.Laws.Grouping.{numbering-none}
use borrow.Author.Rules.{rules}
use Rattle.groups.proofs.numbers_of.Goals as goal

pub loop-node-init : goal.loop-node-init
loop-node-init c = search (numbering-none, rules)
