-- `rules::is_complete` meets its contract: its tests are the definition's. Assumes nothing.
use borrow.Author.Rules.{rules}
use Rattle.rules.specs.Rules.{is_complete}
use Rattle.rules.proofs.is_complete.Goals as goal

pub returns-then-eq : goal.returns-then-eq
unfolding is_complete
returns-then-eq c = search rules

pub returns-else-eq : goal.returns-else-eq
unfolding is_complete
returns-else-eq c = search rules

pub returns-else-is_some : goal.returns-else-is_some
unfolding is_complete
returns-else-is_some c = search rules
