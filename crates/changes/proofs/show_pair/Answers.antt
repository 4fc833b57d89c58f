-- `changes::show_pair` meets its contract: what is read of a file is not longer than its buffer. Assumes nothing.
use native.Mathlib.Omega.{arith}
use mathlib.Core.Path.{sym}
use lib.Seq.{length-take-le}
use Rattle.changes.proofs.show_pair.Goals as goal

pub slice_bounds-print_trial-end : goal.slice_bounds-print_trial-end
slice_bounds-print_trial-end g c = sym (length-take-le _ _ (omega arith))

pub slice_bounds-print_trial-end-2 : goal.slice_bounds-print_trial-end-2
slice_bounds-print_trial-end-2 g c = sym (length-take-le _ _ (omega arith))
