-- `Counts`' `Display` writes what its `output` says: its five numerals with commas between. Assumes nothing.
use native.Mathlib.Omega.{arith}
use Rattle.model.proofs.Laws.Printed.{numeral-printed}
use Rattle.model.proofs.CountsDisplay.fmt.Goals as goal

pub returns-clause-writes : goal.returns-clause-writes
returns-clause-writes g c p ok =
    let n = c.args.self.now in
    rw (
      numeral-printed n.matchings (omega arith),
      numeral-printed n.added.nodes (omega arith),
      numeral-printed n.added.edges (omega arith),
      numeral-printed n.removed.nodes (omega arith),
      numeral-printed n.removed.edges (omega arith),
    ) (c.write.ensures.writes p ok)
