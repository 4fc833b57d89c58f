-- A placement as the matching that it stands for.
use Rattle.std.specs.Prelude.{ℕ, List}
use Rattle.places.specs.Placements.{numbers_at}
use Rattle.visits.specs.declared.Placement.{Placement}

-- the numbers of the nodes to which the pattern nodes are sent
abbrev pub numbers : Placement → List ℕ
numbers p = numbers_at p.nodes.now p.order p.placed
