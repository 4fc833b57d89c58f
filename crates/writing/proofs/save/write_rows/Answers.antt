-- the goals that are left of `write_rows`
use Rattle.writing.proofs.Laws.Lines.{line-fits, lined-next, lined-all}
use borrow.Author.Rules.{rules}
use Rattle.writing.proofs.save.write_rows.Goals as goal

pub write_row-at-requires : goal.write_row-at-requires
write_row-at-requires c = search (line-fits, rules)

pub loop-row-preserved : goal.loop-row-preserved
loop-row-preserved c = search (lined-next, rules)

pub returns : goal.returns
returns c = search (lined-all, rules)
