-- `groups::Images::arms_led_by` meets its contract: the front has arms to the images before `j` that have the targets, none of which stands before `i`.
-- Assumes nothing.
use Rattle.groups.proofs.Laws.Grouping.{Leading}
use Rattle.groups.proofs.Images.arms_led_by.Given as goal

abbrev pub invariant-loop-j : goal.invariant-loop-j
invariant-loop-j l = Leading l.self.runs.edges.keys.now l.self.runs.name l.b l.self.runs.numbers.now l.i l.keys l.initial.arms l.count l.j l.arms
