-- `calls::undo` meets its contract: shut, or no copy, or the newest copy. Assumes nothing.
use borrow.Author.Rules.{rules}
use Rattle.calls.specs.Laws.Applying.{undo-shut, undo-none, undo-done}
use Rattle.calls.proofs.undo.Goals as goal

pub returns-then-not-session : goal.returns-then-not-session
returns-then-not-session c = search (undo-shut, rules)

pub returns-then-session-eq0 : goal.returns-then-session-eq0
returns-then-session-eq0 c = search (undo-none, rules)

pub returns : goal.returns
returns c = search (undo-done, rules)
