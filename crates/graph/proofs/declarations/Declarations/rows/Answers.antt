-- the goals that are left of `rows`
use borrow.Author.Rules.{rules}
use Rattle.graph.proofs.Laws.Sets.{listed-none, listed_more, listed_same, listed-all}
use Rattle.graph.proofs.declarations.Declarations.rows.Goals as goal
use Rattle.graph.proofs.declarations.Declarations.rows.Goals.{then-declares, else-declares}

pub loop-n-init : goal.loop-n-init
loop-n-init c = search (listed-none, rules)

pub loop-n-preserved : goal.loop-n-preserved
loop-n-preserved c =
    elim c.if-declares.branch [ then-declares w ↦ search (listed_more, rules) | else-declares w ↦ search (listed_same, rules) ]

pub returns : goal.returns
returns c = search (listed-all, rules)
