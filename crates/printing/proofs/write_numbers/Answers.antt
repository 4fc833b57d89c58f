-- the goals that are left of `write_numbers`
use Rattle.printing.specs.Laws.Written.{number_fits, end_fits, printing-next, printing-all}
use borrow.Author.Rules.{rules}
use Rattle.printing.proofs.write_numbers.Goals as goal

pub write_numeral-at-requires : goal.write_numeral-at-requires
write_numeral-at-requires c = search (number_fits, rules)

pub bounds-buf-at : goal.bounds-buf-at
bounds-buf-at c = search (end_fits, rules)

pub loop-place-preserved : goal.loop-place-preserved
loop-place-preserved c = search (printing-next, rules)

pub returns : goal.returns
returns c = search (printing-all, rules)
