-- `check_row`: a line of each kind is looked at by the check of its kind, and class and name lines have nothing to be looked at. Assumes nothing.
use borrow.Author.Rules.{rules}
use Rattle.drawing_lines.specs.DrawingLines.{line_checks, may_checks, node_checks, edge_checks}
use Rattle.drawing_lines.specs.Laws.DrawingVerdict.{may-classes, edge-source, declaring-row}
use Rattle.drawing_lines.proofs.check_row.Goals as goal

pub check_may-requires : goal.check_may-requires
check_may-requires c = let given = c.requires.in_form in may-classes _ given.0 given.1 c.in-May.is

pub check_edge-requires : goal.check_edge-requires
check_edge-requires c = search (edge-source, rules)

pub returns-in-May : goal.returns-in-May
unfolding line_checks may_checks
returns-in-May c = rw c.in-May.is c.check_may.ensures

pub returns-in-Node : goal.returns-in-Node
unfolding line_checks node_checks
returns-in-Node c = rw c.in-Node.is c.check_node.ensures

pub returns-in-Edge : goal.returns-in-Edge
unfolding line_checks edge_checks
returns-in-Edge c = rw c.in-Edge.is c.check_edge.ensures

pub returns-in_default : goal.returns-in_default
returns-in_default c = search (declaring-row, rules)
