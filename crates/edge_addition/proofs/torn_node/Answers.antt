-- `edge_addition::torn_node` meets its contract: of the keys that are left, the first two clash, or the first is passed. Assumes nothing.
use mathlib.Core.Path.{◌∙◌}
use Rattle.edge_addition.specs.Laws.Joining.{none-left, tears-here, whole-apart, whole-many}
use Rattle.edge_addition.proofs.torn_node.Goals as goal
use Rattle.edge_addition.proofs.torn_node.Goals.{else-last-run-via-then-last-run+else-of_kind, else-last-run-via-else-last-run}

pub returns-then-of_kind : goal.returns-then-of_kind
returns-then-of_kind c =
    let now = c.loop-last.invariant in
    let step = c.in-Some.ensures.steps.1 in
    tears-here _ _ _ now.left _ _ now.pairs step.0 step.1 c.if-last-run.true _ c.of_kind.ensures c.if-of_kind.true

pub loop-last-preserved : goal.loop-last-preserved
loop-last-preserved c =
    let now = c.loop-last.invariant in
    let step = c.in-Some.ensures.steps in
    record {
      pairs = step.0 ∙ now.pairs;
      left = rw step.1.2 (elim c.else-last-run.branch [
        | else-last-run-via-then-last-run+else-of_kind w ↦
            whole-many _ _ _ now.left _ _ now.pairs step.1.0 step.1.1 w.if-last-run.true _ w.of_kind.ensures w.if-of_kind.false
        | else-last-run-via-else-last-run w ↦ whole-apart _ _ _ now.left _ _ now.pairs step.1.0 step.1.1 w.if-last-run.false
      ]);
    }

pub returns : goal.returns
returns c = let now = c.loop-last.invariant in none-left _ _ _ now.left _ now.pairs c.in-None.ensures.steps.1.0
