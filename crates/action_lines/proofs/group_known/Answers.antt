-- `action_lines::group_known` meets its contract: a pattern node stands if its number is below their count. Assumes nothing.
use borrow.Author.Rules.{rules}
use Rattle.pattern_lines.specs.Laws.PatternChecks.{place_stands}
use Rattle.action_lines.proofs.group_known.Goals as goal

pub returns-then-declares-2 : goal.returns-then-declares-2
returns-then-declares-2 c = rw (← place_stands c.args.above.now.nodes.now c.args.above.now.edges.now c.args.node) (search rules)

pub returns-else-declares-2 : goal.returns-else-declares-2
returns-else-declares-2 c = rw (← place_stands c.args.above.now.nodes.now c.args.above.now.edges.now c.args.node) (search rules)
