-- `growth::put_edges` meets its contract: edges of the first `i` arms are put. Assumes nothing.
use Rattle.growth.specs.Laws.Growing.{PutEdges}
use Rattle.growth.proofs.put_edges.Given as goal

abbrev pub invariant-loop-i : goal.invariant-loop-i
invariant-loop-i l = PutEdges l.initial.edges l.size l.number l.arms l.i l.edges
