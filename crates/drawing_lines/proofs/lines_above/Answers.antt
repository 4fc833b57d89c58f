-- `lines_above`: what stands in each array is as long as its count says. Assumes nothing.
use borrow.Author.Rules.{rules}
use Rattle.drawing_lines.specs.Laws.DrawingVerdict.{triples-above, nodes-above, edges-above, none_above}
use Rattle.drawing_lines.proofs.lines_above.Goals as goal

pub returns-in-May : goal.returns-in-May
returns-in-May c = search (triples-above, rules)

pub returns-in-Node : goal.returns-in-Node
returns-in-Node c = search (nodes-above, rules)

pub returns-in-Edge : goal.returns-in-Edge
returns-in-Edge c = search (edges-above, rules)

pub returns-in_default : goal.returns-in_default
returns-in_default c = search (none_above, rules)
