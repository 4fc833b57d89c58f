-- `text::lines::follows` meets its contract, by a law for each way out: no line above, another kind, a kind in any order, and rows in order. Assumes
-- nothing.
use borrow.Author.Rules.{rules}
use Rattle.std.proofs.Common.{◌≡◌, ◌∙◌, ltb}
use Rattle.forms.specs.Forms.{turn_of}
use Rattle.forms.specs.Laws.Kinds.{turns-apart}
use Rattle.text.specs.Laws.Lines.{follows-first, follows-turn, follows-free, divided, follows-order}
use Rattle.text.proofs.lines.follows.Goals as goal

pub returns-in_default : goal.returns-in_default
returns-in_default c = search (follows-first, rules)

pub returns-then-ne : goal.returns-then-ne
returns-then-ne c =
    let turn : c.lt.result ≡ ltb (turn_of c.in-Some.above.kind) (turn_of c.args.line.kind) = search rules in
    let apart : turn_of c.in-Some.above.kind ≡ turn_of c.args.line.kind → ⊥ = search (turns-apart, rules) in
    turn ∙ follows-turn c.args.line c.in-Some.is apart

pub nonzero_div-result : goal.nonzero_div-result
nonzero_div-result c =
    let same : c.in-Some.above.kind ≡ c.args.line.kind = search rules in
    divided c.args.line c.in-Some.is same (search rules) c.requires.1 c.form.ensures c.in-Some-by.is

pub nonzero_div-result-in-Some-by : goal.nonzero_div-result-in-Some-by
nonzero_div-result-in-Some-by c =
    let same : c.in-Some.above.kind ≡ c.args.line.kind = search rules in
    divided c.args.line c.in-Some.is same (search rules) c.requires.1 c.form.ensures c.in-Some-by.is

pub returns-in-Some-by : goal.returns-in-Some-by
returns-in-Some-by c =
    let same : c.in-Some.above.kind ≡ c.args.line.kind = search rules in
    follows-order c.args.line c.in-Some.is same (search rules) c.requires.1 c.form.ensures c.in-Some-by.is

pub returns-in-None : goal.returns-in-None
returns-in-None c =
    let same : c.in-Some.above.kind ≡ c.args.line.kind = search rules in
    follows-free c.args.line c.in-Some.is same (search rules) c.requires.1 c.form.ensures c.in-None.is
