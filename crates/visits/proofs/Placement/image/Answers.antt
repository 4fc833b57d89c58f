-- `visits::Placement::image` meets its contract: the place back to the pattern node is its place in the placement. Assumes nothing.
use borrow.Author.Rules.{rules}
use Rattle.visits.specs.Laws.Visits.{sent-beyond, sent-inside, sent-outside}
use Rattle.visits.proofs.Placement.image.Goals as goal

pub returns-then-at-self : goal.returns-then-at-self
returns-then-at-self c = search (sent-inside, rules)

pub returns-else-at-self : goal.returns-else-at-self
returns-else-at-self c = search (sent-outside, rules)

pub returns-else-node-self : goal.returns-else-node-self
returns-else-node-self c = search (sent-beyond, rules)
