-- `deletion::without_nodes` meets its contract: keys that stay are those of the nodes and edges that stay. Assumes nothing.
use borrow.Author.Rules.{rules}
use Rattle.deletion.specs.Laws.Retained.{without-nodes-left}
use Rattle.deletion.proofs.without_nodes.Goals as goal

pub returns : goal.returns
returns c =
    without-nodes-left c.requires.fits c.of-marked.ensures (c.retain-instance.ensures _ (λ k r post. search rules)) (c.retain-instance-2.ensures _ (λ k r post. search rules))
