-- `rule_lines::lines_above` meets its contract: the pattern's lists are as long as their counts say. Assumes nothing.
use borrow.Author.Rules.{rules}
use Rattle.rule_lines.specs.Laws.RuleVerdict.{nodes-above, edges-above, parts-above}
use Rattle.rule_lines.proofs.lines_above.Goals as goal

pub returns-in-Pnode : goal.returns-in-Pnode
returns-in-Pnode c = search (nodes-above, rules)

pub returns-in-Pedge : goal.returns-in-Pedge
returns-in-Pedge c = search (edges-above, rules)

pub returns-in_default : goal.returns-in_default
returns-in_default c = search (parts-above, rules)
