-- `queries::save` meets its contract: saved in an open session, refused in one that is shut. Assumes nothing.
use borrow.Author.Rules.{rules}
use Rattle.queries.specs.Laws.Saving.{save-while-shut, saved-or-refused}
use Rattle.queries.proofs.save.Goals as goal

pub returns-then-session : goal.returns-then-session
returns-then-session c = search (saved-or-refused, rules)

pub returns-else-session : goal.returns-else-session
returns-else-session c = search (save-while-shut, rules)
