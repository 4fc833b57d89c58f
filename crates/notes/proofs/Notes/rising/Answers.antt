-- `notes::Notes::rising` meets its contract: keys that are kept rise. Assumes nothing.
use Rattle.notes.specs.Laws.Kept.{rising-rises}
use Rattle.notes.proofs.Notes.rising.Goals as goal

pub invariant_of-result : goal.invariant_of-result
invariant_of-result c = record { rise = rising-rises c.self.invariant }
