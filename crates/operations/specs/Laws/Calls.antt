-- What apply's calls ask and give, with premises as the code leaves them. Assumes nothing.
use Rattle.std.specs.Prelude.{ℕ, ◌≡◌, List, length, Result}
use Rattle.std.proofs.Common.{◌∙◌, ap}
use Rattle.std.specs.Bool.{⊤}
use Rattle.model.specs.Operations.{applied}
use Rattle.model.specs.declared.Refusal.{Refusal}
use Rattle.graph.specs.Packed.{unpack_scheme, unpack_instance, unpack_rule, StoredInstance, StoredRule}
use Rattle.graph.specs.declared.instance.PackedInstance.{PackedInstance}
use Rattle.graph.specs.declared.rule.PackedRule.{PackedRule}
use Rattle.graph.specs.declared.scheme.PackedScheme.{PackedScheme}
use Rattle.notes.specs.Visits.{keys_of}
use Rattle.notes.specs.declared.noting.Noting.{Noting}
use Rattle.matcher.specs.Matchers.{VisitsAll}
use Rattle.growth.specs.Growth.{Makes}
use Rattle.operations.specs.Applies.{Applies}
use Rattle.rule_notes.specs.Noted.{noting_of, begun}
use Rattle.reports.specs.Reported.{Reports}
use Rattle.operations.specs.Walked.{walked, Walked}
use Rattle.operations.specs.Laws.Counted.{report-applies}
use Rattle.reports.specs.declared.Applied.{Applied}

module _ (s : PackedScheme) (d : PackedInstance) (r : PackedRule) (h : StoredInstance (unpack_scheme s) d) (k : StoredRule (unpack_scheme s) r) where
  pub all-walked : (what : Noting) (first m : ℕ) (before after : List ℕ) → before ≡ begun d r.action → first ≡ length before
      → keys_of what ≡ noting_of r.action → VisitsAll d r.pattern what before m after → Walked s d r first after
  unfolding walked
  all-walked what first m before after b f l v = record { instance = h; rule = k; before = f ∙ ap length b; notes = rw (← l, ← b) v.notes }

  pub report-is : (a : Result Applied Refusal) (m : ℕ) (c : Result ⊤ Refusal) (new : PackedInstance) (what : Noting) (before after : List ℕ)
      → VisitsAll d r.pattern what before m after
      → Makes (applied (unpack_scheme s) (unpack_rule r) (unpack_instance d)) c new → Reports d m c new a → Applies s d r a
  unfolding unpack_rule
  report-is a m c new what before after v makes e = rw e.report (report-applies s d r h k new m v.counted c e.old-room e.new-room makes)
