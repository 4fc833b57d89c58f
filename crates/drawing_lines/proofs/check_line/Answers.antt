-- `check_line`: by a law for each outcome of its tests; what is left is the checks of the line's row. Assumes nothing.
use mathlib.Core.Path.{sym, ◌∙◌}
use borrow.Author.Rules.{rules}
use Rattle.graph.proofs.Laws.Keys.{rising-triples}
use Rattle.graph.specs.Packed.{unpack_scheme, unpack_instance}
use Rattle.drawing_lines.specs.Laws.DrawingVerdict.{out_of_order, too_many, judged-so}
use Rattle.drawing_lines.proofs.check_line.Goals as goal

pub returns-then-not-follows : goal.returns-then-not-follows
returns-then-not-follows c = search (out_of_order, rules)

pub returns-then-crowded : goal.returns-then-crowded
returns-then-crowded c = search (too_many, c.lines_above.ensures, rules)

pub invariant_of-above : goal.invariant_of-above
unfolding unpack_scheme
invariant_of-above c = record { rise = sym (rising-triples _) ∙ c.requires.held.triples }

pub check_row-requires-clause-nodes_value : goal.check_row-requires-clause-nodes_value
unfolding unpack_instance
check_row-requires-clause-nodes_value c = c.requires.held.numbers

pub returns : goal.returns
unfolding unpack_scheme unpack_instance
returns c = search (judged-so, c.lines_above.ensures, rules)
