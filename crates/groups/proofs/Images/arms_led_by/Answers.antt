-- the goals that are left of `Images::arms_led_by`
use Rattle.groups.proofs.Laws.Grouping.{led-before, led-all, arm-fits}
use mathlib.Core.Path.{◌∙◌}
use Rattle.std.proofs.Math.Path.{sym}
use native.Mathlib.Omega.{arith}
use borrow.Author.Rules.{rules}
use Rattle.groups.proofs.Images.arms_led_by.Goals as goal

pub returns-then-j-i : goal.returns-then-j-i
returns-then-j-i c =
    record {
      few = omega arith;
      front = led-before _ _ _ _ _ c.args.self.now.rise c.requires.i_in_bounds _ c.run-keys.ensures _ c.if-j-i.true (sym c.has.ensures ∙ c.if-has.true);
    }

pub overflow_add-arms : goal.overflow_add-arms
overflow_add-arms c = search (arm-fits, c.args.self.now.runs.lookup.below, rules)

pub returns : goal.returns
returns c =
    record {
      few = c.loop-j.invariant.filling.few;
      front = led-all _ _ _ _ _ c.args.self.now.rise c.requires.i_in_bounds _ c.run-keys.ensures _ _ _ _ c.loop-j.invariant c.loop-j-test.false;
    }
