-- the goals that are left of `write_digits`
use borrow.Author.Rules.{rules}
use Rattle.numerals.specs.Laws.Digits.{left-next, left-none}
use Rattle.numerals.proofs.digits.write_digits.Goals as goal

pub loop-place-preserved : goal.loop-place-preserved
loop-place-preserved c = search (left-next, rules)

pub returns : goal.returns
returns c = search (left-none, rules)
