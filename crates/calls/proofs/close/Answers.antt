-- `calls::close` meets its contract, outcome by outcome. Assumes nothing.
use borrow.Author.Rules.{rules}
use Rattle.calls.specs.Laws.Opening.{close-while-shut, closed}
use Rattle.calls.proofs.close.Goals as goal

pub returns-then-session : goal.returns-then-session
returns-then-session c = search (closed, rules)

pub returns-else-session : goal.returns-else-session
returns-else-session c = search (close-while-shut, rules)
