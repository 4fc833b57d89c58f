-- `queries::first` meets its contract: the rule text is refused, or the matcher answers. Assumes nothing.
use borrow.Author.Rules.{rules}
use Rattle.queries.specs.Laws.Listing.{first-refused, first-given}
use Rattle.queries.proofs.first.Goals as goal

pub returns-in_err-pattern : goal.returns-in_err-pattern
returns-in_err-pattern c = search (first-refused, rules)

pub returns : goal.returns
returns c = search (first-given, rules)
