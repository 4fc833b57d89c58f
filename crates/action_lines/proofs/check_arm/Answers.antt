-- `action_lines::check_arm` meets its contract: its tests are those of an arm line, in their order. Assumes nothing.
use borrow.Author.Rules.{rules}
use Rattle.verdicts.proofs.Laws.Tests.{Judging}
use Rattle.action_lines.specs.ActionLines.{arm_checks}
use Rattle.pattern_lines.specs.Laws.PatternChecks.{stands-below, joins-made}
use Rattle.action_lines.proofs.check_arm.Goals.{then-not-of_kind-via-then-not-of_kind, then-not-of_kind-via-else-not-of_kind+then-not-permits}
use Rattle.action_lines.proofs.check_arm.Goals as goal

pub returns-then-not-of_kind : goal.returns-then-not-of_kind
unfolding arm_checks
returns-then-not-of_kind c =
    elim c.then-not-of_kind.branch [
      | then-not-of_kind-via-then-not-of_kind w ↦ search (Judging, stands-below, rules)
      | then-not-of_kind-via-else-not-of_kind+then-not-permits w ↦ search (Judging, stands-below, joins-made, rules)
    ]

pub returns : goal.returns
unfolding arm_checks
returns c = search (Judging, stands-below, joins-made, rules)
