-- `graph::history::History::new` meets its contract: a history of depth 0 has no copy, and its array has the limit's length. Assumes nothing.
use mathlib.Core.Path.{refl}
use Rattle.graph.specs.Packed.{unpack_history}
use Rattle.graph.proofs.history.History.new.Goals as goal

pub returns : goal.returns
unfolding unpack_history
returns c = record { empty = refl; room = refl }
