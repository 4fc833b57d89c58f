-- `graph::declarations::Declarations::of_kind` meets its contract: a number is of a kind exactly if its bit is set among the declared, and its
-- bit among the second is the kind. Assumes nothing.
use borrow.Author.Rules.{rules}
use Rattle.graph.proofs.Laws.Sets.{of_kind-declared, of_kind-undeclared}
use Rattle.graph.proofs.declarations.Declarations.of_kind.Goals as goal

pub returns-then-declares : goal.returns-then-declares
returns-then-declares c = search (of_kind-declared, rules)

pub returns-else-declares : goal.returns-else-declares
returns-else-declares c = search (of_kind-undeclared, rules)
