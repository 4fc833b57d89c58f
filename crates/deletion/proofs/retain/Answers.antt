-- the goals that are left of `retain`
use Rattle.std.proofs.Common.{arith}
use Rattle.deletion.specs.Laws.Retained.{retaining-gone, retaining-kept}
use Rattle.deletion.proofs.retain.Goals as goal
use Rattle.deletion.proofs.retain.Goals.{then-stays, else-stays}

pub loop-next-preserved : goal.loop-next-preserved
loop-next-preserved g c =
    elim c.if-stays.branch [
      | then-stays w ↦ (
        omega (arith, w.kept-is, c.loop-next.invariant.0),
        λ stays tells.
            rw (w.keys-is, w.kept-is)
            (retaining-kept (c.loop-next.invariant.1 stays tells) c.loop-next-test.true _ (tells _ _ c.stays.ensures) w.if-stays.true),
      )
      | else-stays w ↦ (
        omega (arith, w.kept-is, c.loop-next.invariant.0),
        λ stays tells.
            rw (w.keys-is, w.kept-is)
            (retaining-gone (c.loop-next.invariant.1 stays tells) c.loop-next-test.true _ (tells _ _ c.stays.ensures) w.if-stays.false),
      )
    ]
