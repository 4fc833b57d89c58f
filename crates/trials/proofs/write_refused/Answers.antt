-- `trials::write_refused` meets its contract, by the law of the line refused=. Assumes nothing.
use Rattle.trials.proofs.Laws.Lengths.{refused-fits, refused-written}
use borrow.Author.Rules.{rules}
use Rattle.trials.proofs.write_refused.Goals as goal

pub write_line-requires : goal.write_line-requires
write_line-requires c = search (refused-fits, rules)

pub returns : goal.returns
returns c = search (refused-written, rules)
