-- the goals that are left of `Runs::has`
use Rattle.edge_runs.specs.Laws.Running.{number_fits, run_fits, run-below, start-at}
use borrow.Author.Rules.{rules}
use Rattle.edge_runs.proofs.Runs.has.Goals as goal

pub overflow_mul-self : goal.overflow_mul-self
overflow_mul-self c = search (number_fits, c.args.self.now.lookup.below, rules)

pub overflow_add-self : goal.overflow_add-self
overflow_add-self c = search (run_fits, c.args.self.now.lookup.below, rules)

pub targets_are-requires : goal.targets_are-requires
targets_are-requires c = search (run-below, start-at, c.args.self.now.lookup.below, rules)
