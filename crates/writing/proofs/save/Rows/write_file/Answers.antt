-- `writing::save::Rows::write_file` meets its contract: the lines of each kind start where those of the kind before ended. Assumes nothing.
use Rattle.writing.proofs.Laws.Lines.{classes-fit, names-fit, permitted-fit, nodes-fit, edges_fit, file-written}
use borrow.Author.Rules.{rules}
use Rattle.writing.proofs.save.Rows.write_file.Goals as goal

pub write_rows-at-requires : goal.write_rows-at-requires
write_rows-at-requires c = search (classes-fit, rules)

pub write_rows-at-requires-2 : goal.write_rows-at-requires-2
write_rows-at-requires-2 c = search (names-fit, rules)

pub write_rows-at-requires-3 : goal.write_rows-at-requires-3
write_rows-at-requires-3 c = search (permitted-fit, rules)

pub write_rows-at-requires-4 : goal.write_rows-at-requires-4
write_rows-at-requires-4 c = search (nodes-fit, rules)

pub write_rows-requires : goal.write_rows-requires
write_rows-requires c = search (edges_fit, rules)

pub returns : goal.returns
returns c = search (file-written, rules)
