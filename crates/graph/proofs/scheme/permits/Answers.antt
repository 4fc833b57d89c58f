-- `graph::scheme::permits` meets its contract: a triple is among triples exactly if its key is among the keys. Assumes nothing.
use mathlib.Core.Path.{◌∙◌}
use Rattle.graph.proofs.Laws.Triples.{has-packed}
use Rattle.graph.proofs.scheme.permits.Goals as goal

pub returns : goal.returns
returns c = c.has.ensures ∙ has-packed c.args.permitted.keys.now c.args.source c.args.name _ c.requires.1 c.requires.2
