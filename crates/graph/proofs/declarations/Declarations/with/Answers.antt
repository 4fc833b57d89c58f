-- `graph::declarations::Declarations::with` meets its contract: its bit is above all that are set, so that it is the last number of the new
-- set. Assumes nothing.
use Rattle.graph.proofs.Laws.Sets.{declared-with, kind-below}
use Rattle.graph.proofs.declarations.Declarations.with.Goals as goal

pub returns : goal.returns
returns c = let r = c.requires in rw c.from.ensures (declared-with c.args.self c.args.n _ r.n_bound (kind-below c.args.kind) r.snug r.self_value)
