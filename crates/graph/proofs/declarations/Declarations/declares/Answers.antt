-- `graph::declarations::Declarations::declares` meets its contract: a number is declared exactly if its bit is set. Assumes nothing.
use borrow.Author.Rules.{rules}
use Rattle.graph.proofs.Laws.Sets.{declares-bit}
use Rattle.graph.proofs.declarations.Declarations.declares.Goals as goal

pub returns : goal.returns
returns c = search (declares-bit, rules)
