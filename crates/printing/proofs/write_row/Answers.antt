-- `printing::write_row` meets its contract: its key is spelled, and the line of the key and the numbers is the row's. Assumes nothing.
use Rattle.printing.specs.Laws.Written.{letters-few, key-inside, key-part, numbers-inside, numbers-part, line-some, line-fits, row_written}
use borrow.Author.Rules.{rules}
use Rattle.printing.proofs.write_row.Goals as goal

pub write_digits-requires : goal.write_digits-requires
write_digits-requires c = search (letters-few, rules)

pub slice_bounds-key-end : goal.slice_bounds-key-end
slice_bounds-key-end c = search (key-inside, rules)

pub slice_bounds-write_line-end : goal.slice_bounds-write_line-end
slice_bounds-write_line-end c = search (key-part, rules)

pub slice_bounds-numbers-end : goal.slice_bounds-numbers-end
slice_bounds-numbers-end c = search (numbers-inside, rules)

pub slice_bounds-write_line-end-2 : goal.slice_bounds-write_line-end-2
slice_bounds-write_line-end-2 c = search (numbers-part, rules)

pub write_line-requires : goal.write_line-requires
write_line-requires c = search (line-some, line-fits, rules)

pub returns : goal.returns
returns c = search (row_written, rules)
