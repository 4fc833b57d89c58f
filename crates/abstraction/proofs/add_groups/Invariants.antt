-- `abstraction::add_groups` meets its contract: what is to come of the images from `i` on is the whole. Assumes nothing.
use Rattle.std.specs.Prelude.{◌≡◌, length}
use Rattle.model.specs.Limits
use Rattle.model.specs.Refusals.{in_turn}
use Rattle.graph.specs.Packed.{unpack_instance}
use Rattle.abstraction.specs.Grouped.{added_at}
use Rattle.abstraction.specs.Laws.Adding.{Adding}
use Rattle.abstraction.proofs.add_groups.Given as goal

abbrev pub invariant-loop-i : goal.invariant-loop-i
invariant-loop-i l =
    let images = l.images.runs.numbers.now in
    let old = l.old in
    record {
      room : length l.arms ≡ Limits.nodes;
      adding : Adding l.class images l.images.runs.name old.edges.keys.now old.numbers.now old.name
          (in_turn images (added_at l.class images l.images.runs.name old.edges.keys.now old.numbers.now old.name) (unpack_instance l.initial.instance))
          l.instance l.i;
    }
