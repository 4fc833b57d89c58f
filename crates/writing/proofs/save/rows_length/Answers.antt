-- `writing::save::rows_length` meets its contract: the bytes of each line, summed, are those of all. Assumes nothing.
use Rattle.std.specs.Prelude.{◌^◌, ◌<◌, ◌≡◌, length, sum_by}
use Rattle.std.proofs.Common.{arith, rules, ◌∙◌}
use Rattle.std.proofs.iter.runs.Sources.{sums}
use Rattle.printing.specs.Written.{row_text}
use Rattle.writing.proofs.Laws.Lines.{rows-summed}
use Rattle.writing.proofs.save.rows_length.Goals as goal

pub sum-requires-clause-fits : goal.sum-requires-clause-fits
sum-requires-clause-fits c =
    let few : sum_by (λ row. length (row_text c.args.kind row)) c.args.rows.now < 2 ^ 64 =
    omega (arith, c.requires, rows-summed c.args.kind c.args.rows.now) in
    search (rules, sums)

pub returns : goal.returns
returns c =
    let summed : c.sum.result ≡ sum_by (λ row. length (row_text c.args.kind row)) c.args.rows.now = search rules in
    let all = summed ∙ rows-summed c.args.kind c.args.rows.now in
    (all, omega (arith, all, c.requires))
