-- `action_lines::check_put`: the triple of the classes of an edge's ends is permitted, or not. Assumes nothing.
use borrow.Author.Rules.{rules}
use Rattle.verdicts.proofs.Laws.Tests.{Judging}
use Rattle.action_lines.specs.ActionLines.{put_checks}
use Rattle.pattern_lines.specs.Laws.PatternChecks.{source-below, target_below, permits-made}
use Rattle.action_lines.proofs.check_put.Goals as goal

pub returns-then-not-permits : goal.returns-then-not-permits
unfolding put_checks
returns-then-not-permits c = search (Judging, source-below, target_below, permits-made, rules)

pub returns : goal.returns
unfolding put_checks
returns c = search (Judging, source-below, target_below, permits-made, rules)
