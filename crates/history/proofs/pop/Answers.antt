-- `history::pop` meets its contract: the copies after the newest move down by one. Assumes nothing.
use borrow.Author.Rules.{rules}
use Rattle.history.specs.Laws.Copies.{popped-off}
use Rattle.history.proofs.pop.Goals as goal

pub returns : goal.returns
returns c = rw c.copy_within.ensures.after (search (popped-off, rules))
