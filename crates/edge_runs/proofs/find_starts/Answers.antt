-- the goals that are left of `find_starts`
use Rattle.edge_runs.specs.Laws.Running.{number_fits, run_fits, start_fits}
use borrow.Author.Rules.{rules}
use Rattle.edge_runs.proofs.find_starts.Goals as goal

pub overflow_mul-number : goal.overflow_mul-number
overflow_mul-number c = search (number_fits, rules)

pub overflow_add-number : goal.overflow_add-number
overflow_add-number c = search (run_fits, rules)

pub overflow_mul-number-in-loop-i : goal.overflow_mul-number-in-loop-i
overflow_mul-number-in-loop-i c = search (start_fits, rules)
