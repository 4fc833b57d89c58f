-- `groups::numbers_of` meets its contract: the front has the numbers of the nodes so far. Assumes nothing.
use Rattle.groups.proofs.Laws.Grouping.{Numbering}
use Rattle.groups.proofs.numbers_of.Given as goal

abbrev pub invariant-loop-node : goal.invariant-loop-node
invariant-loop-node l = Numbering l.nodes l.class l.initial.numbers l.count l.node-index l.numbers
