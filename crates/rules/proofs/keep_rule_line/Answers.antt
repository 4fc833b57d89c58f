-- `rules::keep_rule_line` meets its contract, by a law for each kind: its row goes to the end of the rows that stand. Assumes nothing.
use borrow.Author.Rules.{rules}
use Rattle.rules.specs.Rules.{with}
use Rattle.rules.specs.Laws.RuleKept.{kept_op, kept-node, kept-edge, kept-part, kept-head}
use Rattle.rules.proofs.keep_rule_line.Goals as goal

pub returns-in-Ok : goal.returns-in-Ok
unfolding with
returns-in-Ok c = search (kept_op, rules)

pub returns-in-Pnode : goal.returns-in-Pnode
returns-in-Pnode c = search (kept-node, rules)

pub returns-in-Pedge : goal.returns-in-Pedge
returns-in-Pedge c = search (kept-edge, rules)

pub returns-in-Arm : goal.returns-in-Arm
returns-in-Arm c = search (kept-part, rules)

pub returns-in_default : goal.returns-in_default
returns-in_default c = search (kept-head, rules)
