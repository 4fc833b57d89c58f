-- `serving::note_served` meets its contract: to note what the nodes that are left serve gives what noting all does. Assumes nothing.
use Rattle.serving.specs.Laws.Serving.{Serving}
use Rattle.serving.proofs.note_served.Given as goal

abbrev pub invariant-loop-node : goal.invariant-loop-node
invariant-loop-node l = Serving l.class l.arms.parts.now l.edges.keys.now l.nodes l.initial.notes l.node-index l.notes
