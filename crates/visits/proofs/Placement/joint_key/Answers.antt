-- the goals that are left of `joint_key`
use native.Mathlib.Omega.{arith}
use borrow.Author.Rules.{rules}
use Rattle.visits.specs.Laws.Visits.{image-small, joining-none, joining-small, joining-next}
use Rattle.visits.proofs.Placement.joint_key.Goals as goal

pub loop-part-init : goal.loop-part-init
loop-part-init c = search (joining-none, rules)

pub overflow_mul-key : goal.overflow_mul-key
overflow_mul-key c = omega (arith, joining-small _ _ c.loop-part.invariant c.loop-part-test.true c.args.arms.few)

pub overflow_add-key : goal.overflow_add-key
overflow_add-key c =
    omega (
      arith,
      joining-small _ _ c.loop-part.invariant c.loop-part-test.true c.args.arms.few,
      image-small _ _ _ _ c.args.self.below c.image.result c.image.ensures,
    )

pub loop-part-preserved : goal.loop-part-preserved
loop-part-preserved c = search (joining-next, image-small, rules)
