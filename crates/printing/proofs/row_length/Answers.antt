-- `printing::row_length` meets its contract: a line is its key, a byte =, and its numbers. Assumes nothing.
use native.Mathlib.Omega.{arith}
use Rattle.printing.specs.Laws.Written.{letters-few, letters-room, numbers-inside, numbers-part, row-counted}
use borrow.Author.Rules.{rules}
use Rattle.printing.proofs.row_length.Goals as goal

pub overflow_add-result : goal.overflow_add-result
overflow_add-result c = search (letters-room, rules)

pub slice_bounds-numbers-end : goal.slice_bounds-numbers-end
slice_bounds-numbers-end c = search (numbers-inside, rules)

pub slice_bounds-numbers_length-end : goal.slice_bounds-numbers_length-end
slice_bounds-numbers_length-end c = search (numbers-part, rules)

pub overflow_add-result-2 : goal.overflow_add-result-2
overflow_add-result-2 c =
    let few = letters-few _ _ c.form-form.ensures c.numbers_of-numbers.ensures in
    omega arith

pub returns : goal.returns
returns c = search (row-counted, rules)
