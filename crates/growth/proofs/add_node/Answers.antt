-- `growth::add_node` meets its contract: with room, the new key stands last, and so do the new edges. Assumes nothing.
use borrow.Author.Rules.{rules}
use Rattle.growth.specs.Laws.Growing.{node-within, number-below, number_fits, key_fits, edges_fit}
use Rattle.growth.specs.Laws.Growing.{grows-refused, grows-done}
use Rattle.growth.proofs.add_node.Goals as goal

pub returns-in_err-room_for : goal.returns-in_err-room_for
returns-in_err-room_for c = search (grows-refused, rules)

pub overflow_mul-instance : goal.overflow_mul-instance
overflow_mul-instance c = search (number_fits, rules)

pub overflow_add-instance : goal.overflow_add-instance
overflow_add-instance c = search (key_fits, rules)

pub bounds-instance-order : goal.bounds-instance-order
bounds-instance-order c = search (node-within, rules)

pub put_edges-requires : goal.put_edges-requires
put_edges-requires c = search (edges_fit, number-below, rules)

pub returns : goal.returns
returns c = grows-done _ _ _ c.requires.addable (search rules) (search rules) _ c.next_number-number.ensures c.in_ok-room_for.ensures c.requires.class_bound c.requires.below _ c.put_edges.ensures (search rules)
