-- `deletion::Marked::of` meets its contract: the numbers looked at are marked. Assumes nothing.
use Rattle.deletion.specs.Laws.Marked.{Marking}
use Rattle.deletion.proofs.Marked.of.Given as goal

abbrev pub invariant-loop-n : goal.invariant-loop-n
invariant-loop-n l = Marking l.numbers l.n-index l.words
