-- `trial::main` meets its contract: what is read of a file, and what is written, is not longer than its buffer. Assumes nothing.
use native.Mathlib.Omega.{arith}
use mathlib.Core.Path.{sym}
use lib.Seq.{length-take-le}
use Rattle.trials.proofs.Laws.Lengths.{text-inside, text-part}
use borrow.Author.Rules.{rules}
use Rattle.trial.proofs.main.Goals as goal

pub slice_bounds-write_trial-end : goal.slice_bounds-write_trial-end
slice_bounds-write_trial-end c = sym (length-take-le _ _ (omega arith))

pub slice_bounds-write_trial-end-2 : goal.slice_bounds-write_trial-end-2
slice_bounds-write_trial-end-2 c = sym (length-take-le _ _ (omega arith))

pub slice_bounds-text-end : goal.slice_bounds-text-end
slice_bounds-text-end c = search (text-inside, rules)

pub slice_bounds-write_all-end : goal.slice_bounds-write_all-end
slice_bounds-write_all-end c = search (text-part, rules)
