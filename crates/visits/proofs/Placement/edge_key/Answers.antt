-- `visits::Placement::edge_key` meets its contract: the numbers of nodes are small enough for a key. Assumes nothing.
use native.Mathlib.Omega.{arith}
use Rattle.visits.specs.Laws.Visits.{image-small}
use Rattle.visits.proofs.Placement.edge_key.Goals as goal

pub overflow_mul-result : goal.overflow_mul-result
overflow_mul-result c = omega (arith, image-small _ _ _ _ c.args.self.below c.image-source.result c.image-source.ensures)

pub overflow_add-result : goal.overflow_add-result
overflow_add-result c = omega (arith, image-small _ _ _ _ c.args.self.below c.image-source.result c.image-source.ensures)

pub overflow_add-result-2 : goal.overflow_add-result-2
overflow_add-result-2 c =
    omega (
      arith,
      image-small _ _ _ _ c.args.self.below c.image-source.result c.image-source.ensures,
      image-small _ _ _ _ c.args.self.below c.image-target.result c.image-target.ensures,
    )
