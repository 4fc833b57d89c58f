-- `edge_runs::targets_are` meets its contract: what is left of the run is compared with what is left of the keys. Assumes nothing.
use Rattle.std.specs.Slice.Iter.{iter_rest}
use Rattle.edge_runs.specs.Laws.Running.{Compares}
use Rattle.edge_runs.proofs.targets_are.Given as goal

abbrev pub invariant-loop-key : goal.invariant-loop-key
invariant-loop-key l = Compares l.edges.keys.now l.run l.keys (iter_rest l.rest) l.key-index
