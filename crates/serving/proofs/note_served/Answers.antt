-- the goals that are left of `note_served`
use borrow.Author.Rules.{rules}
use Rattle.serving.specs.Laws.Serving.{number_small, serving-other, serving-nothing, serving-key, serving-all}
use Rattle.serving.proofs.note_served.Goals as goal
use Rattle.serving.proofs.note_served.Goals.{then-node-class+in-Some, then-node-class+in_default, else-node-class}

pub served_key-requires-clause-number_bound : goal.served_key-requires-clause-number_bound
served_key-requires-clause-number_bound c = search (number_small, rules)

pub loop-node-preserved : goal.loop-node-preserved
loop-node-preserved c =
    elim c.if-node-class.branch [
      | then-node-class+in-Some w ↦ search (serving-key, rules)
      | then-node-class+in_default w ↦ search (serving-nothing, rules)
      | else-node-class w ↦ search (serving-other, rules)
    ]

pub returns : goal.returns
returns c = search (serving-all, rules)
