-- the goals that are left of `with_nodes`
use borrow.Author.Rules.{rules}
use Rattle.node_addition.specs.Laws.Adding.{arms-below, adding-refused, adding-next, adding-all}
use Rattle.node_addition.proofs.with_nodes.Goals as goal

pub add_node-requires-clause-below : goal.add_node-requires-clause-below
add_node-requires-clause-below c = search (arms-below, rules)

pub returns-in_err-add_node : goal.returns-in_err-add_node
returns-in_err-add_node c = search (adding-refused, rules)

pub loop-key-preserved : goal.loop-key-preserved
loop-key-preserved c = search (adding-next, rules)

pub returns : goal.returns
returns c = search (adding-all, rules)
