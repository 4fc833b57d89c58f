-- `trials::open_and_apply` meets its contract: the file is refused, or apply answers. Assumes nothing.
use borrow.Author.Rules.{rules}
use Rattle.trials.proofs.Laws.Parts.{open-tried, apply-tried}
use Rattle.trials.proofs.open_and_apply.Goals as goal

pub returns-in_err-open : goal.returns-in_err-open
returns-in_err-open c = search (open-tried, rules)

pub returns : goal.returns
returns c = search (apply-tried, rules)
