-- `queries::after` meets its contract: the rule text is refused, or the matcher answers. Assumes nothing.
use borrow.Author.Rules.{rules}
use Rattle.queries.specs.Laws.Listing.{after-refused, after-given}
use Rattle.queries.proofs.after.Goals as goal

pub returns-in_err-pattern : goal.returns-in_err-pattern
returns-in_err-pattern c = search (after-refused, rules)

pub returns : goal.returns
returns c = search (after-given, rules)
