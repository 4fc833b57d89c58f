-- `numerals::digits::numeral_length` meets its contract: one more than the power of ten that the number reaches. Assumes nothing.
use borrow.Author.Rules.{rules}
use Rattle.numerals.specs.Laws.Digits.{numeral-many}
use Rattle.numerals.proofs.digits.numeral_length.Goals as goal

pub returns-in-Some : goal.returns-in-Some
returns-in-Some c = search (numeral-many, rules)
