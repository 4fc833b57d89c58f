-- `forms::key_of` meets its contract: the number of the bytes that are read and the bytes that are left give the key's number, and at most four
-- bytes are read before another, so that there is room for it. Assumes nothing.
use Rattle.forms.specs.Laws.KeyNumbers.{Keyed}
use Rattle.forms.proofs.key_of.Given as goal

abbrev pub invariant-loop-byte : goal.invariant-loop-byte
invariant-loop-byte l = Keyed l.s l.key l.byte-index
