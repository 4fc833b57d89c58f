-- `graph::instance::node_at` meets its contract: the node of a number stands where the least key of that number would stand, or nowhere. Assumes
-- nothing.
use mathlib.Core.Path.{◌∙◌, ap}
use native.Mathlib.Omega.{arith}
use borrow.Author.Rules.{rules}
use Rattle.std.specs.Prelude.{option_map}
use Rattle.graph.specs.Packed.{unpack_node}
use Rattle.graph.proofs.Laws.Keys.{rising-numbers, node-tested, node-missed}
use Rattle.graph.proofs.instance.node_at.Goals as goal

pub invariant_of-place_dense : goal.invariant_of-place_dense
invariant_of-place_dense c = search (rising-numbers, rules)

pub returns-in_err-node : goal.returns-in_err-node
returns-in_err-node c =
    ap (option_map unpack_node) c.from_residual.ensures
    ∙ node-missed _ _ c.requires.nodes_value _ c.place_dense-at.ensures (λ l. absurd (omega (arith, c.in_err-node.ensures.lookup.3)))

pub returns : goal.returns
returns c =
    let there = c.in_ok-node.ensures.lookup.3 in
    ap (option_map unpack_node) c.then_some.ensures
    ∙ node-tested _ _ c.requires.nodes_value _ c.place_dense-at.ensures there.0 (there.1 0)
