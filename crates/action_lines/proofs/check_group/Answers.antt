-- `action_lines::check_group` meets its contract: its tests are those of a group line, in their order. Assumes nothing.
use borrow.Author.Rules.{rules}
use Rattle.verdicts.proofs.Laws.Tests.{Judging}
use Rattle.action_lines.specs.ActionLines.{group_checks}
use Rattle.pattern_lines.specs.Laws.PatternChecks.{stands-first, joins-made}
use Rattle.action_lines.proofs.check_group.Goals.{then-not-group_suits-via-then-not-group_suits, then-not-group_suits-via-else-not-group_suits+then-not-permits}
use Rattle.action_lines.proofs.check_group.Goals as goal

pub returns-then-not-group_suits : goal.returns-then-not-group_suits
unfolding group_checks
returns-then-not-group_suits c =
    elim c.then-not-group_suits.branch [
      | then-not-group_suits-via-then-not-group_suits w ↦ search (Judging, rules)
      | then-not-group_suits-via-else-not-group_suits+then-not-permits w ↦ search (Judging, stands-first, joins-made, rules)
    ]

pub returns : goal.returns
unfolding group_checks
returns c = search (Judging, stands-first, joins-made, rules)
