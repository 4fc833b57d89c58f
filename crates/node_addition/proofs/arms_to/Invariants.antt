-- `node_addition::arms_to` meets its contract: the arms from `i` on are there, the numbers of the others are left. Assumes nothing.
use Rattle.node_addition.specs.Laws.Adding.{ArmsLeft}
use Rattle.node_addition.proofs.arms_to.Given as goal

abbrev pub invariant-loop-i : goal.invariant-loop-i
invariant-loop-i l = ArmsLeft l.arms l.key l.i l.left l.to
