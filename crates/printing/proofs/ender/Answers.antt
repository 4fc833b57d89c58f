-- `printing::ender` meets its contract, by a law for each way out. Assumes nothing.
use borrow.Author.Rules.{rules}
use Rattle.printing.specs.Laws.Written.{ender-last, ender-other}
use Rattle.printing.proofs.ender.Goals as goal

pub returns-then-left-eq0 : goal.returns-then-left-eq0
returns-then-left-eq0 c = search (ender-last, rules)

pub returns-else-left-eq0 : goal.returns-else-left-eq0
returns-else-left-eq0 c = search (ender-other, rules)
