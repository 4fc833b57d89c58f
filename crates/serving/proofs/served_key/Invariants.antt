-- `serving::served_key` meets its contract: the key holds the targets by the arms before the index. Assumes nothing.
use Rattle.serving.specs.Laws.Serving.{Gathered}
use Rattle.serving.proofs.served_key.Given as goal

abbrev pub invariant-loop-arm : goal.invariant-loop-arm
invariant-loop-arm l = Gathered l.edges.keys.now l.number l.arms.parts.now l.arm-index l.key
