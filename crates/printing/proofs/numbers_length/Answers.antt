-- `printing::numbers_length` meets its contract: the bytes of each number, summed, are those of all. Assumes nothing.
use Rattle.std.specs.Prelude.{◌+◌, ◌≡◌, length, sum_by}
use Rattle.std.proofs.Common.{rules, ◌∙◌}
use Rattle.lists.specs.Decimal.{decimal}
use Rattle.printing.specs.Laws.Written.{numbers-counted, numbers-short}
use Rattle.printing.proofs.numbers_length.Goals as goal

pub returns : goal.returns
returns c =
    let summed : c.sum.result ≡ sum_by (λ n. length (decimal n) + 1) c.args.numbers.now = search rules in
    (summed ∙ numbers-counted c.args.numbers.now, rw summed (numbers-short c.args.numbers.now c.requires (λ i. (c.type_inv.numbers i).fits)))
