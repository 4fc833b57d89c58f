-- `graph::pattern::PackedPattern::new` meets its contract: of no keys nothing is unpacked, and the arrays have the limits' lengths. Assumes nothing.
use mathlib.Core.Path.{refl}
use Rattle.graph.specs.Packed.{unpack_pattern}
use Rattle.graph.proofs.pattern.PackedPattern.new.Goals as goal

pub returns : goal.returns
unfolding unpack_pattern
returns c = record { empty = refl; order = refl; size = refl; nodes_room = refl; edges_room = refl }
