-- `deletion::Marked::has` meets its contract: no number is marked but those of nodes. Assumes nothing.
use borrow.Author.Rules.{rules}
use Rattle.deletion.specs.Laws.Marked.{marked-low, marked-high}
use Rattle.deletion.proofs.Marked.has.Goals as goal

pub returns-then-n-lt-NODE_NUMBERS : goal.returns-then-n-lt-NODE_NUMBERS
returns-then-n-lt-NODE_NUMBERS c = search (marked-low, rules)

pub returns-else-n-lt-NODE_NUMBERS : goal.returns-else-n-lt-NODE_NUMBERS
returns-else-n-lt-NODE_NUMBERS c = search (marked-high, rules)
