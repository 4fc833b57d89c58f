-- the goals that are left of `Runs::run`
use Rattle.edge_runs.specs.Laws.Running.{number_fits, run_fits, next_fits, end_fits, part-starts, part-ends, part-targets}
use native.Mathlib.Omega.{arith}
use lib.ListN.{length, get_or}
use Prim.Native.Nat.{◌≤◌}
use borrow.Author.Rules.{rules}
use Rattle.edge_runs.proofs.Runs.run.Goals as goal

pub overflow_mul-self : goal.overflow_mul-self
overflow_mul-self c = search (number_fits, c.args.self.now.lookup.below, rules)

pub overflow_add-self : goal.overflow_add-self
overflow_add-self c = search (run_fits, c.args.self.now.lookup.below, rules)

pub overflow_add-self-2 : goal.overflow_add-self-2
overflow_add-self-2 c = search (next_fits, c.args.self.now.lookup.below, rules)

pub overflow_mul-self-2 : goal.overflow_mul-self-2
overflow_mul-self-2 c = search (end_fits, c.args.self.now.lookup.below, rules)

pub offset_bounds-self-self : goal.offset_bounds-self-self
offset_bounds-self-self c =
    let self = c.args.self.now in
    let starts : get_or self.starts.now c.args.i 0 ≤ c.place-next.result = search (part-starts, rules) in
    let ends : c.place-next.result ≤ length self.edges.keys.now = search (part-ends, rules) in
    omega arith

pub slice_bounds-result-count : goal.slice_bounds-result-count
slice_bounds-result-count c = search (part-starts, rules)

pub slice_bounds-result-start : goal.slice_bounds-result-start
slice_bounds-result-start c = search (part-starts, rules)

pub slice_bounds-result-end : goal.slice_bounds-result-end
slice_bounds-result-end c = search (part-ends, rules)

pub returns : goal.returns
returns c = search (part-targets, rules)
