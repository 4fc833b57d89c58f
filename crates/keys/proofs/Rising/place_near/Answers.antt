-- `keys::Rising::place_near` meets its contract: the key stands where those before are below it and that one is not. Assumes nothing.
use Rattle.std.proofs.Common.{rules}
use Rattle.keys.specs.Laws.Keys.{place-first, place_here}
use Rattle.keys.proofs.Rising.place_near.Goals as goal
use Rattle.keys.proofs.Rising.place_near.Goals.{then-at-eq0, else-at-eq0}

pub returns-then-keys-at : goal.returns-then-keys-at
returns-then-keys-at c = elim c.if-at-eq0.branch [ then-at-eq0 w ↦ search (place-first, rules) | else-at-eq0 w ↦ search (place_here, rules) ]
