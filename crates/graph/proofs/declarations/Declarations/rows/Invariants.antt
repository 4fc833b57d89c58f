-- `graph::declarations::Declarations::rows` meets its contract: the rows of the declared numbers below `n` are listed. Assumes nothing.
use Rattle.graph.proofs.Laws.Sets.{Listed}
use Rattle.graph.proofs.declarations.Declarations.rows.Given as goal

abbrev pub invariant-loop-n : goal.invariant-loop-n
invariant-loop-n l = Listed l.self l.initial.rows l.count l.n l.rows
