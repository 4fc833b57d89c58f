-- the goals that are left of `add_groups`
use Rattle.abstraction.specs.Laws.Adding.{arms-below}
use Rattle.abstraction.proofs.add_groups.Goals as goal

pub add_group-requires : goal.add_group-requires
add_group-requires c = record {
  addable = c.loop-i.invariant.adding.addable;
  class_bound = c.requires.class_bound;
  below = arms-below _ _ _ _ _ _ c.args.old.now.lookup.named c.args.images.now.runs.lookup.below c.arms_led_by-count.ensures.front;
}
