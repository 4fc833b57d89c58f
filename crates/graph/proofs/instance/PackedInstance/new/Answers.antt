-- `graph::instance::PackedInstance::new` meets its contract: of no keys nothing is unpacked, and the arrays have the limits' lengths. Assumes nothing.
use mathlib.Core.Path.{refl}
use Rattle.graph.specs.Packed.{unpack_instance}
use Rattle.graph.proofs.instance.PackedInstance.new.Goals as goal

pub returns : goal.returns
unfolding unpack_instance
returns c = record { empty = refl; nodes_room = refl; edges_room = refl }
