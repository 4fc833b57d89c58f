-- `edge_addition::with_edges` meets its contract: neighbours that clash tell the smallest node that is torn. Assumes nothing.
use borrow.Author.Rules.{rules}
use Rattle.edge_addition.specs.Laws.Joining.{makes-full, makes-torn, makes-whole}
use Rattle.edge_addition.proofs.with_edges.Goals as goal

pub returns-then-size-gt-EDGES : goal.returns-then-size-gt-EDGES
returns-then-size-gt-EDGES c = search (makes-full, rules)

pub returns-in-Some : goal.returns-in-Some
returns-in-Some c = search (makes-torn, c.requires.sources_in, rules)

pub returns : goal.returns
returns c = rw c.copy_from_slice.ensures.after (search (makes-whole, rules))
