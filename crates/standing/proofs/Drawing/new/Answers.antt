-- `standing::Drawing::new` meets its contract: a fresh scheme and a fresh instance. Assumes nothing.
use Rattle.standing.specs.Laws.Kept.{fresh}
use Rattle.standing.proofs.Drawing.new.Goals as goal

pub returns : goal.returns
returns c = fresh c.new.ensures c.new-2.ensures
