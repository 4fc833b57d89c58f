-- `graph::declarations::Declarations::count` meets its contract: a number of 64 digits has as many set as numbers are declared. Assumes nothing.
use native.Mathlib.Nat.{lt_of_le_of_lt}
use native.Mathlib.Omega.{arith}
use lib.Count.{ones-le}
use Rattle.graph.proofs.Laws.Sets.{count-declared}
use Rattle.graph.proofs.declarations.Declarations.count.Goals as goal

pub overflow_cast-result : goal.overflow_cast-result
overflow_cast-result c = record { fits = lt_of_le_of_lt (ones-le 64 _ (omega (arith, c.struct_known-1.given))) (omega arith) }

pub returns : goal.returns
returns c = count-declared c.args.self (omega (arith, c.struct_known-1.given.0))
