-- `runs::answer_call` meets its contract: what is written are the numbers of the answer. Assumes nothing.
use borrow.Author.Rules.{rules}
use Rattle.runs.specs.Laws.Entries.{answered}
use Rattle.runs.proofs.answer_call.Goals as goal

pub returns : goal.returns
returns c = search (answered, rules)
