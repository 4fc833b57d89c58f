-- `visits::Placement::joint_key` meets its contract: the key of the parts before the index is made. Assumes nothing.
use Rattle.visits.specs.Placed.{numbers}
use Rattle.visits.specs.Laws.Visits.{Joining}
use Rattle.visits.proofs.Placement.joint_key.Given as goal

abbrev pub invariant-loop-part : goal.invariant-loop-part
invariant-loop-part l = Joining (numbers l.self) l.arms.parts.now l.part-index l.key
