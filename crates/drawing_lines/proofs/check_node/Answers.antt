-- `drawing_lines::check_node` meets its contract: its tests are those of a node line, in their order. Assumes nothing.
use borrow.Author.Rules.{rules}
use Rattle.verdicts.proofs.Laws.Tests.{Judging}
use Rattle.drawing_lines.specs.DrawingLines.{node_checks}
use Rattle.drawing_lines.specs.Laws.DrawingChecks.{object-with-value, object-without-value, value-shared, value-apart}
use Rattle.drawing_lines.proofs.check_node.Goals as goal

pub returns-then-not-declares : goal.returns-then-not-declares
unfolding node_checks
returns-then-not-declares c = search (Judging, rules)

pub returns-then-node-ne0 : goal.returns-then-node-ne0
unfolding node_checks
returns-then-node-ne0 c = search (Judging, object-with-value, rules)

pub returns-then-shares : goal.returns-then-shares
unfolding node_checks
returns-then-shares c = search (Judging, value-shared, rules)

pub returns-else-node-ne0 : goal.returns-else-node-ne0
unfolding node_checks
returns-else-node-ne0 c = search (Judging, object-without-value, rules)

pub returns-else-shares : goal.returns-else-shares
unfolding node_checks
returns-else-shares c = search (Judging, value-apart, rules)
