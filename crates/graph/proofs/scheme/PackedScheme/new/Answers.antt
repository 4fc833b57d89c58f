-- `graph::scheme::PackedScheme::new` meets its contract: nothing is declared, of no keys nothing is unpacked, and the array has the limit's
-- length. Assumes nothing.
use mathlib.Core.Path.{refl}
use Rattle.graph.specs.Packed.{unpack_scheme}
use Rattle.graph.proofs.scheme.PackedScheme.new.Goals as goal

pub returns : goal.returns
unfolding unpack_scheme
returns c =
    record {
      empty = rw (c.new.ensures.empty, c.new-2.ensures.empty) refl;
      snug = (c.new.ensures.snug, c.new-2.ensures.snug);
      none = refl;
      room = refl;
    }
