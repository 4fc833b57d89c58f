-- `benchmark::applying::apply_rule` meets its contract: by what the two readers answer, one of three laws gives the answer. Assumes nothing.
use borrow.Author.Rules.{rules}
use Rattle.benchmark.specs.ApplicationLaws.{drawing-unapplied, rule-stored}
use Rattle.benchmark.proofs.applying.apply_rule.Goals as goal

pub apply_over-requires : goal.apply_over-requires
apply_over-requires c = rule-stored c.in-Ok-read_rule.ensures

pub returns-in-Err : goal.returns-in-Err
returns-in-Err c = search (drawing-unapplied, rules)
