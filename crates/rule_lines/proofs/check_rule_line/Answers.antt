-- `check_rule_line`: by a law for each outcome of its tests; what is left is the checks of the line's row. Assumes nothing.
use mathlib.Core.Path.{sym, ◌∙◌}
use borrow.Author.Rules.{rules}
use Rattle.graph.proofs.Laws.Keys.{rising-triples}
use Rattle.rule_lines.specs.Laws.RuleVerdict.{held-edges, in-place-fits, out_of_order, out-of-place, too_many, judged-so}
use Rattle.rule_lines.proofs.check_rule_line.Goals.{then-not-follows-via-then-not-follows, then-not-follows-via-else-not-follows+then-not-placed}
use Rattle.rule_lines.proofs.check_rule_line.Goals as goal

pub returns-then-not-follows : goal.returns-then-not-follows
returns-then-not-follows c =
    elim c.then-not-follows.branch [
      | then-not-follows-via-then-not-follows w ↦ search (out_of_order, rules)
      | then-not-follows-via-else-not-follows+then-not-placed w ↦ search (out-of-place, rules)
    ]

pub returns-then-crowded : goal.returns-then-crowded
returns-then-crowded c = search (too_many, c.lines_above.ensures, rules)

pub check_row-requires-clause-edges_value : goal.check_row-requires-clause-edges_value
check_row-requires-clause-edges_value c = sym (rising-triples _) ∙ held-edges _ c.requires.held_rule

pub check_row-requires-clause-row_fits : goal.check_row-requires-clause-row_fits
check_row-requires-clause-row_fits c = search (in-place-fits, rules)

pub returns : goal.returns
returns c = search (judged-so, c.lines_above.ensures, rules)
