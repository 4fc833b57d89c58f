-- the goals that are left of `key_of`
use native.Mathlib.Omega.{arith}
use borrow.Author.Rules.{rules}
use Rattle.forms.specs.Laws.KeyNumbers.{key-long, keyed-none, keyed-room}
use Rattle.forms.proofs.key_of.Goals as goal

pub returns-then-s-gt-KEY_BYTES : goal.returns-then-s-gt-KEY_BYTES
returns-then-s-gt-KEY_BYTES c = search (key-long, rules)

pub loop-byte-init : goal.loop-byte-init
loop-byte-init c = search (keyed-none, rules)

pub overflow_mul-key : goal.overflow_mul-key
overflow_mul-key c = omega (arith, keyed-room c.loop-byte.invariant c.loop-byte-test.true)
