-- `calls::open` meets its contract, outcome by outcome. Assumes nothing.
use borrow.Author.Rules.{rules}
use Rattle.calls.specs.Laws.Opening.{open-while-open, open-accepted, open-refused}
use Rattle.calls.proofs.open.Goals as goal

pub returns-then-session : goal.returns-then-session
returns-then-session c = search (open-while-open, rules)

pub returns-in_err-drawing : goal.returns-in_err-drawing
returns-in_err-drawing c = search (open-refused, rules)

pub returns : goal.returns
returns c = open-accepted c.requires (search rules) c.in_ok-drawing.drawing c.in_ok-drawing.ensures (search rules) (search rules)
