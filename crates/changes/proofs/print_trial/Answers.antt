-- `changes::print_trial` meets its contract: what is written is not longer than its buffer. Assumes nothing.
use Rattle.trials.proofs.Laws.Lengths.{text-inside, text-part}
use borrow.Author.Rules.{rules}
use Rattle.changes.proofs.print_trial.Goals as goal

pub slice_bounds-text-end : goal.slice_bounds-text-end
slice_bounds-text-end g c = search (text-inside, rules)

pub slice_bounds-write_all-end : goal.slice_bounds-write_all-end
slice_bounds-write_all-end g c = search (text-part, rules)
