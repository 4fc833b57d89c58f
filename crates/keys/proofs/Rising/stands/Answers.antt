-- `keys::Rising::stands` meets its contract: a key stands at its place or nowhere. Assumes nothing.
use borrow.Author.Rules.{rules}
use Rattle.keys.specs.Laws.Keys.{member-at, member-past}
use Rattle.keys.proofs.Rising.stands.Goals as goal

pub returns-then-at-self : goal.returns-then-at-self
returns-then-at-self c = search (member-at, rules)

pub returns-else-at-self : goal.returns-else-at-self
returns-else-at-self c = search (member-past, rules)
