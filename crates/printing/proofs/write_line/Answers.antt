-- `printing::write_line` meets its contract: the key, a byte =, and the numbers are written, each where the last ended. Assumes nothing.
use Rattle.printing.specs.Laws.Written.{key_fits, equals-fits, numbers-start, numbers_fit, line-written}
use borrow.Author.Rules.{rules}
use Rattle.printing.proofs.write_line.Goals as goal

pub write_key-at-requires : goal.write_key-at-requires
write_key-at-requires c = search (key_fits, rules)

pub bounds-buf-at : goal.bounds-buf-at
bounds-buf-at c = search (equals-fits, rules)

pub slice_bounds-write_numbers-count : goal.slice_bounds-write_numbers-count
slice_bounds-write_numbers-count c = search (numbers-start, rules)

pub slice_bounds-write_numbers-start : goal.slice_bounds-write_numbers-start
slice_bounds-write_numbers-start c = search (numbers-start, rules)

pub write_numbers-requires : goal.write_numbers-requires
write_numbers-requires c = search (numbers_fit, rules)

pub returns : goal.returns
returns c = search (line-written, rules)
