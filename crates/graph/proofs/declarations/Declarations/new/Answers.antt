-- `graph::declarations::Declarations::new` meets its contract: the empty set has no number. Assumes nothing.
use Rattle.graph.proofs.Laws.Sets.{none-declared}
use Rattle.graph.proofs.declarations.Declarations.new.Goals as goal

pub returns : goal.returns
returns c = none-declared
