-- `abstraction::with_groups` meets its contract: new nodes for the groups in turn are what abstraction makes. Assumes nothing.
use Rattle.std.proofs.Common.{arith, length-take}
use Rattle.abstraction.specs.Laws.Leading.{numbers-below, groups-made}
use Rattle.abstraction.proofs.with_groups.Goals as goal

pub new-old-requires : goal.new-old-requires
new-old-requires c =
    let given = c.requires in
    record {
      below = numbers-below _ _ _ given.addable.nodes_below c.numbers_of-count.ensures.front;
      name_bound = given.class_bound.2;
      numbers_in_bounds = simp length-take (omega arith);
    }

pub returns : goal.returns
returns c =
    let given = c.requires in
    let groups = c.new-runs.ensures in
    let old = c.new-old.ensures in
    groups-made _ _ _ _ _ _ c.numbers_of-count.ensures.front given.edges_value c.args.images.rise given.below given.class_bound.1 given.class_bound.2
    _ _ _ _ _ groups.numbers groups.name old.edges old.numbers old.name _ _ c.add_groups.ensures
