-- the goals that are left of `put_edges`
use borrow.Author.Rules.{rules}
use Rattle.growth.specs.Laws.Growing.{edges_more, edge-key}
use Rattle.growth.proofs.put_edges.Goals as goal

pub overflow_add-edges : goal.overflow_add-edges
overflow_add-edges c = search (edge-key, rules)

pub loop-i-preserved : goal.loop-i-preserved
loop-i-preserved c = search (edges_more, rules)
