-- `writing::save::Rows::file_length` meets its contract: a file's bytes are those of the five kinds of line. Assumes nothing.
use Rattle.writing.proofs.Laws.Lines.{classes-short, names-short, permitted-short, nodes-short, edges-short, file-counted}
use borrow.Author.Rules.{rules}
use Rattle.writing.proofs.save.Rows.file_length.Goals as goal

pub rows_length-requires : goal.rows_length-requires
rows_length-requires c = search (classes-short, rules)

pub rows_length-requires-2 : goal.rows_length-requires-2
rows_length-requires-2 c = search (names-short, rules)

pub rows_length-requires-3 : goal.rows_length-requires-3
rows_length-requires-3 c = search (permitted-short, rules)

pub rows_length-requires-4 : goal.rows_length-requires-4
rows_length-requires-4 c = search (nodes-short, rules)

pub rows_length-requires-5 : goal.rows_length-requires-5
rows_length-requires-5 c = search (edges-short, rules)

pub returns : goal.returns
returns c = search (file-counted, rules)
