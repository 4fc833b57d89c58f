-- `node_addition::with_nodes` meets its contract: new nodes for the keys that are left make what new nodes for all keys do. Assumes nothing.
use Rattle.node_addition.specs.Laws.Adding.{Adding}
use Rattle.node_addition.proofs.with_nodes.Given as goal

abbrev pub invariant-loop-key : goal.invariant-loop-key
invariant-loop-key l = Adding l.class l.arms.parts.now l.keys l.initial.instance l.key-index l.instance
