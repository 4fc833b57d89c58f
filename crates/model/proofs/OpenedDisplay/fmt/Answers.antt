-- `Opened`'s `Display` writes what its `output` says: its two numerals with a comma between. Assumes nothing.
use native.Mathlib.Omega.{arith}
use Rattle.model.proofs.Laws.Printed.{numeral-printed}
use Rattle.model.proofs.OpenedDisplay.fmt.Goals as goal

pub returns-clause-writes : goal.returns-clause-writes
returns-clause-writes g c p ok =
    rw (numeral-printed c.args.self.now.classes (omega arith), numeral-printed c.args.self.now.names (omega arith)) (c.write.ensures.writes p ok)
