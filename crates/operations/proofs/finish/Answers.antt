-- `operations::finish` meets its contract: by the operation, the notes are what it asks, and it makes of them what is to be made. Assumes nothing.
use Rattle.std.proofs.Common.{refl}
use borrow.Author.Rules.{part_to_end, rules}
use Rattle.operations.specs.Laws.Performed.{walked-able, walked-addable, walked-first, rising-sources, rising-numbers, rising-images, rising-few}
use Rattle.operations.specs.Laws.Performed.{finish-nothing, finish-number, finish-nodes, finish-edges, finish-without-nodes, finish-without-edges, finish-groups}
use Rattle.operations.proofs.finish.Goals as goal

pub offset_bounds-coming-begun : goal.offset_bounds-coming-begun
offset_bounds-coming-begun c = search (walked-first, rules)

pub slice_bounds-with_nodes-count : goal.slice_bounds-with_nodes-count
slice_bounds-with_nodes-count c = search (walked-first, rules)

pub slice_bounds-with_nodes-start : goal.slice_bounds-with_nodes-start
slice_bounds-with_nodes-start c = search (walked-first, rules)

pub with_nodes-requires-clause-addable : goal.with_nodes-requires-clause-addable
with_nodes-requires-clause-addable c = search (walked-addable, rules)

pub with_nodes-requires-clause-class_bound : goal.with_nodes-requires-clause-class_bound
with_nodes-requires-clause-class_bound c = (walked-able c.requires).class c.in-NodeAddition.is

pub with_nodes-requires-clause-below : goal.with_nodes-requires-clause-below
with_nodes-requires-clause-below c = (walked-able c.requires).arms c.in-NodeAddition.is

pub with_edges-requires-clause-sources_in : goal.with_edges-requires-clause-sources_in
with_edges-requires-clause-sources_in c = search (rising-sources, rules)

pub without_nodes-requires-clause-below : goal.without_nodes-requires-clause-below
without_nodes-requires-clause-below c = search (rising-numbers, rules)

pub with_groups-requires-clause-addable : goal.with_groups-requires-clause-addable
with_groups-requires-clause-addable c = search (walked-addable, rules)

pub with_groups-requires-clause-edges_value : goal.with_groups-requires-clause-edges_value
with_groups-requires-clause-edges_value c = (walked-able c.requires).edges_rise

pub with_groups-requires-clause-below : goal.with_groups-requires-clause-below
with_groups-requires-clause-below c = search (rising-images, rules)

pub with_groups-requires-clause-images_len_bound : goal.with_groups-requires-clause-images_len_bound
with_groups-requires-clause-images_len_bound c = search (rising-few, rules)

pub returns-in-PatternOnly : goal.returns-in-PatternOnly
returns-in-PatternOnly c = search (finish-nothing, finish-number, rules)

pub returns-in-NodeAddition : goal.returns-in-NodeAddition
returns-in-NodeAddition c =
    finish-nodes c.requires _ (rw (part_to_end, c.coming.ensures) refl) _ _ c.in-NodeAddition.is c.with_nodes.ensures

pub returns-in-EdgeAddition : goal.returns-in-EdgeAddition
returns-in-EdgeAddition c = search (finish-edges, rules)

pub returns-in-NodeDeletion : goal.returns-in-NodeDeletion
returns-in-NodeDeletion c = search (finish-without-nodes, rules)

pub returns-in-EdgeDeletion : goal.returns-in-EdgeDeletion
returns-in-EdgeDeletion c = search (finish-without-edges, rules)

pub returns-in-Abstraction : goal.returns-in-Abstraction
returns-in-Abstraction c = search (finish-groups, rules)
