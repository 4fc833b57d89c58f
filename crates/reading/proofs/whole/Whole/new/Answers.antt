-- `reading::whole::Whole::new` meets its contract: a fresh scheme and a fresh instance are stored as they should be. Assumes nothing.
use Rattle.graph.proofs.Laws.Fresh.{fresh-stored, fresh-instance-stored}
use Rattle.reading.proofs.whole.Whole.new.Goals as goal

pub invariant_of-result : goal.invariant_of-result
invariant_of-result c =
    let stored = fresh-stored c.new.ensures in
    record { scheme_stored = stored; instance_stored = fresh-instance-stored stored.listed c.new-2.ensures }
