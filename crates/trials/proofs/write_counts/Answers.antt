-- `trials::write_counts` meets its contract, by the law of the line done=. Assumes nothing.
use Rattle.trials.proofs.Laws.Lengths.{done-fits, done-written, done-few}
use borrow.Author.Rules.{rules}
use Rattle.trials.proofs.write_counts.Goals as goal

pub write_line-requires : goal.write_line-requires
write_line-requires c = search (done-fits, rules)

pub returns : goal.returns
returns c = search (done-written, done-few, rules)
