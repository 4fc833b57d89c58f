-- `text::lines::rule_line` meets its contract: the table's last kinds are the keys of a rule text. Assumes nothing.
use borrow.Author.Rules.{rules}
use Rattle.text.specs.Laws.Parsing.{rule-parsed}
use Rattle.text.proofs.lines.rule_line.Goals as goal

pub returns : goal.returns
returns c = search (rule-parsed, rules)
