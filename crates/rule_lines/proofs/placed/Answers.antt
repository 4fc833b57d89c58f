-- `placed`: at each kind that the match names by computation, and at the others by a law of kinds. Assumes nothing.
use borrow.Author.Rules.{rules}
use Rattle.graph.specs.Operations.{code_of}
use Rattle.rule_lines.specs.RuleLines.{placed}
use Rattle.rule_lines.specs.Laws.RuleKinds.{placed-action}
use Rattle.rule_lines.proofs.placed.Goals as goal

pub returns-in-Op : goal.returns-in-Op
unfolding placed
returns-in-Op c = rw c.in-Op.is

pub returns-then-l-eq1 : goal.returns-then-l-eq1
unfolding placed
returns-then-l-eq1 c = rw c.in-Pnode.is (search rules)

pub returns-else-l-eq1 : goal.returns-else-l-eq1
unfolding placed
returns-else-l-eq1 c = rw c.in-Pnode.is (search rules)

pub returns-else-is_some : goal.returns-else-is_some
unfolding placed
returns-else-is_some c = rw c.in-Pnode.is (search rules)

pub returns-in-Pedge : goal.returns-in-Pedge
unfolding placed
returns-in-Pedge c = rw c.in-Pedge.is (search rules)

pub returns-in-Arm : goal.returns-in-Arm
unfolding placed
returns-in-Arm c = rw c.in-Arm.is (search rules)

pub returns-then-is_some-2 : goal.returns-then-is_some-2
returns-then-is_some-2 c =
    rw (
      placed-action c.args.last (code_of c.args.operation) c.args.l.row c.args.l.kind c.requires c.in_default.not-Op c.in_default.not-Pnode
          c.in_default.not-Pedge c.in_default.not-Arm,
      ← c.operation_of.ensures,
      ← c.if-is_some-2.ensures,
    )
    (search rules)

pub returns-else-is_some-2 : goal.returns-else-is_some-2
returns-else-is_some-2 c =
    rw (placed-action c.args.last (code_of c.args.operation) c.args.l.row c.args.l.kind c.requires c.in_default.not-Op c.in_default.not-Pnode
    c.in_default.not-Pedge c.in_default.not-Arm)
    (search rules)
