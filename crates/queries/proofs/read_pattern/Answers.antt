-- `queries::read_pattern` meets its contract: shut, or the text is refused, or read. Assumes nothing.
use borrow.Author.Rules.{rules}
use borrow.Author.Tests.{not-true, not-false}
use Rattle.queries.specs.Laws.Listing.{pattern-while-shut, pattern-refused, pattern-read}
use Rattle.queries.proofs.read_pattern.Goals as goal

pub returns-then-not-session : goal.returns-then-not-session
returns-then-not-session c = search (pattern-while-shut, not-true, rules)

pub returns-in_err-read : goal.returns-in_err-read
returns-in_err-read c = search (pattern-refused, not-false, rules)

pub returns : goal.returns
returns c = pattern-read c.requires (search (not-false, rules)) c.in_ok-read.ensures
