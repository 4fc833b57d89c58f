-- `inspect::same` meets its contract: the first i bytes are the same in both. Assumes nothing.
use Rattle.std.specs.Prelude.{◌≡◌, take}
use Rattle.inspect.proofs.same.Given as goal

abbrev pub invariant-loop-i : goal.invariant-loop-i
invariant-loop-i l = take l.i l.a ≡ take l.i l.b
