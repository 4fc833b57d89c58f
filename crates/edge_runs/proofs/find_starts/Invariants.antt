-- `edge_runs::find_starts` meets its contract: the first `i` places are found. Assumes nothing.
use Rattle.edge_runs.specs.Laws.Running.{Finding}
use Rattle.edge_runs.proofs.find_starts.Given as goal

abbrev pub invariant-loop-i : goal.invariant-loop-i
invariant-loop-i l = Finding l.edges.keys.now l.numbers l.name l.initial.starts l.starts l.i
