-- `runs::run_calls` meets its contract: what is done of the list, and what is left of it, are the list. Assumes nothing.
use Prim.Native.Nat.{◌-◌}
use lib.ListN.{length}
use Rattle.runs.specs.Runs.{Running}
use Rattle.runs.proofs.run_calls.Given as goal

abbrev pub invariant-loop-end : goal.invariant-loop-end
invariant-loop-end l =
    Running l.initial.session l.kinds l.bounds l.texts l.initial.answers l.i l.from l.session l.answers

abbrev pub decreases-loop-end : goal.decreases-loop-end
decreases-loop-end l = length l.kinds - l.i
