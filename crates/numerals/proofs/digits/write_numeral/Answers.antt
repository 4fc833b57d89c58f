-- `numerals::digits::write_numeral` meets its contract: a numeral is as many of its number's lowest digits as it has. Assumes nothing.
use borrow.Author.Rules.{rules}
use Rattle.numerals.specs.Laws.Digits.{numeral-written}
use Rattle.numerals.proofs.digits.write_numeral.Goals as goal

pub returns : goal.returns
returns c = search (numeral-written, rules)
