-- `edge_runs::Runs::any_has` meets its contract: one of the nodes has the targets exactly if one from `i` on has. Assumes nothing.
use Rattle.std.specs.Prelude.{◌≡◌, drop}
use Rattle.lists.specs.Lists.{any}
use Rattle.edge_runs.specs.Runs.{has_targets}
use Rattle.edge_runs.proofs.Runs.any_has.Given as goal

abbrev pub invariant-loop-i : goal.invariant-loop-i
invariant-loop-i l =
    any (has_targets l.self.edges.keys.now l.self.name l.keys) l.self.numbers.now
    ≡ any (has_targets l.self.edges.keys.now l.self.name l.keys) (drop l.i l.self.numbers.now)
