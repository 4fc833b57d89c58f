-- `growth::next_number` meets its contract: rising keys have the largest number last. Assumes nothing.
use native.Mathlib.Omega.{arith}
use Rattle.growth.specs.Laws.Growing.{next_last}
use Rattle.growth.proofs.next_number.Goals as goal

pub returns-in-Some : goal.returns-in-Some
returns-in-Some c = rw (c.in-Some.ensures.item.3.1 0) (next_last _ c.args.nodes.rise (λ e. omega (arith, c.in-Some.ensures.item.3.0)))
