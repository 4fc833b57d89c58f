-- `runs::perform` meets its contract: the kind has the number, or the number is past the last. Assumes nothing.
use Rattle.runs.specs.Laws.Entries.{kind-call, made-performs}
use Rattle.runs.proofs.perform.Goals as goal

pub returns : goal.returns
returns c =
    rw (← kind-call c.args.kind c.args.text.now c.try_from.result c.try_from.ensures, ← c.unwrap_or.ensures)
    (made-performs c.make.ensures c.in_six.ensures)
