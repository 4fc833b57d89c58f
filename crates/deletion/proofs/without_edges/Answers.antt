-- `deletion::without_edges` meets its contract: keys that stay are those of the edges that stay. Assumes nothing.
use Rattle.std.proofs.Math.Bool.{not}
use borrow.Author.Rules.{rules}
use Rattle.lists.specs.Lists.{member}
use Rattle.deletion.specs.Laws.Retained.{without-edges-left}
use Rattle.deletion.proofs.without_edges.Goals as goal

pub returns : goal.returns
returns c = without-edges-left c.requires.fits (c.retain-instance.ensures (λ k. not (member c.args.gone.keys.now k)) (λ k r post. search rules))
