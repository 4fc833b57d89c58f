-- `pattern_lines::check_pedge`: an edge conforms by the classes of its ends, or does not. Assumes nothing.
use borrow.Author.Rules.{rules}
use Rattle.verdicts.proofs.Laws.Tests.{Judging}
use Rattle.pattern_lines.specs.PatternLines.{pedge_checks}
use Rattle.pattern_lines.specs.Laws.PatternChecks.{source-below, target_below, conforms-made}
use Rattle.pattern_lines.proofs.check_pedge.Goals as goal

pub returns-then-not-edge_conforms : goal.returns-then-not-edge_conforms
unfolding pedge_checks
returns-then-not-edge_conforms c = search (Judging, source-below, target_below, conforms-made, rules)

pub returns : goal.returns
unfolding pedge_checks
returns c = search (Judging, source-below, target_below, conforms-made, rules)
