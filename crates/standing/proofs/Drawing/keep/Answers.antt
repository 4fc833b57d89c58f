-- `standing::Drawing::keep` meets its contract: a line declares a number above all others, or puts a key after those that stand. Assumes nothing.
use borrow.Author.Rules.{rules}
use Rattle.standing.specs.Laws.Kept.{is-edge, kept-class, kept-name, kept-may, kept-node, kept-edge}
use Rattle.standing.proofs.Drawing.keep.Goals as goal

pub returns-in-Class : goal.returns-in-Class
returns-in-Class c = search (kept-class, rules)

pub returns-in-Name : goal.returns-in-Name
returns-in-Name c = search (kept-name, rules)

pub returns-in-May : goal.returns-in-May
returns-in-May c = search (kept-may, rules)

pub returns-in-Node : goal.returns-in-Node
returns-in-Node c = search (kept-node, rules)

pub returns-in_default : goal.returns-in_default
returns-in_default c = search (kept-edge, is-edge, rules)
