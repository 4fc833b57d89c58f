-- `calls::apply` meets its contract: shut, or the text is refused, or the rule is refused, or applied. Assumes nothing.
use borrow.Author.Rules.{rules}
use borrow.Author.Tests.{not-false}
use Rattle.calls.specs.Laws.Applying.{apply-shut, text-refused, text-stored, rule-refused, rule-applied}
use Rattle.calls.proofs.apply.Goals as goal

pub returns-then-not-session : goal.returns-then-not-session
returns-then-not-session c = search (apply-shut, rules)

pub returns-in_err-accepted : goal.returns-in_err-accepted
returns-in_err-accepted c = search (text-refused, not-false, rules)

pub apply-requires-clause-stored_rule : goal.apply-requires-clause-stored_rule
apply-requires-clause-stored_rule c = text-stored c.args.session.now c.requires c.in_ok-accepted.ensures

pub returns-in_err-applied : goal.returns-in_err-applied
returns-in_err-applied c = search (rule-refused, not-false, rules)

pub returns : goal.returns
returns c =
    rule-applied c.args.session.now c.requires c.in_ok-accepted.ensures (search (not-false, rules)) {a = c.in_ok-applied.applied} c.in_ok-applied.ensures
    (search rules)
