-- `rule_lines::check_row` meets its contract: a line of each kind is looked at by the check of its kind, and an op line has nothing to be looked
-- at. Assumes nothing.
use borrow.Author.Rules.{rules}
use Rattle.pattern_lines.specs.PatternLines.{pedge_checks}
use Rattle.action_lines.specs.ActionLines.{make_checks, arm_checks, put_checks, drop_checks, cut_checks, group_checks}
use Rattle.rule_lines.specs.RuleLines.{line_checks}
use Rattle.rule_lines.specs.Laws.RuleRows.{pnode-row, make-row, arm-head, arm-name, op_row}
use Rattle.rule_lines.proofs.check_row.Goals as goal

pub check_make-requires : goal.check_make-requires
check_make-requires c = search (make-row, rules)

pub check_arm-requires : goal.check_arm-requires
check_arm-requires c = search (arm-head, arm-name, rules)

pub returns-in-Pnode : goal.returns-in-Pnode
returns-in-Pnode c = search (pnode-row, rules)

pub returns-in-Pedge : goal.returns-in-Pedge
unfolding line_checks pedge_checks
returns-in-Pedge c = rw c.in-Pedge.is c.check_pedge.ensures

pub returns-in-Make : goal.returns-in-Make
unfolding line_checks make_checks
returns-in-Make c = rw c.in-Make.is c.check_make.ensures

pub returns-in-Arm : goal.returns-in-Arm
unfolding line_checks arm_checks
returns-in-Arm c = rw c.in-Arm.is c.check_arm.ensures

pub returns-in-Put : goal.returns-in-Put
unfolding line_checks put_checks
returns-in-Put c = rw c.in-Put.is c.check_put.ensures

pub returns-in-Drop : goal.returns-in-Drop
unfolding line_checks drop_checks
returns-in-Drop c = rw c.in-Drop.is c.check_drop.ensures

pub returns-in-Cut : goal.returns-in-Cut
unfolding line_checks cut_checks
returns-in-Cut c = rw c.in-Cut.is c.check_cut.ensures

pub returns-in-Group : goal.returns-in-Group
unfolding line_checks group_checks
returns-in-Group c = rw c.in-Group.is c.check_group.ensures

pub returns-in_default : goal.returns-in_default
returns-in_default c = search (op_row, rules)
