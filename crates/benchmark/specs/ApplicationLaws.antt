-- Applying a rule some times: what the last application answers, and which of the answers it is, by what the readers and apply answered.
use Rattle.std.specs.Prelude.{ℕ, ◌+◌, ◌≡◌, refl, List, Result, Ok, Err}
use Rattle.std.proofs.Common.{add-one}
use Rattle.model.specs.Graph.{Scheme}
use Rattle.model.specs.Operations.{counts}
use Rattle.model.specs.declared.Refusal.{Refusal}
use Rattle.graph.specs.Packed.{unpack_scheme, unpack_instance, unpack_rule, StoredRule, FreshInstance}
use Rattle.graph.specs.declared.instance.PackedInstance.{PackedInstance}
use Rattle.graph.specs.declared.rule.PackedRule.{PackedRule}
use Rattle.graph.specs.declared.scheme.PackedScheme.{PackedScheme}
use Rattle.reading.specs.Readers.{ReadDrawing}
use Rattle.reading.specs.declared.whole.Whole.{Whole}
use Rattle.rules.specs.Readers.{ReadRule}
use Rattle.operations.specs.Applies.{Applies}
use Rattle.reports.specs.declared.Applied.{Applied}
use Rattle.benchmark.specs.Applications.{no_counts, told, AppliesOver, AppliesFiles}
use Rattle.benchmark.specs.declared.applying.AppliedOver.{AppliedOver}

-- # Applications
module _ (s : PackedScheme) (d : PackedInstance) (r : PackedRule) where
  -- of no application
  pub applied-none : AppliesOver 0 (unpack_scheme s) (unpack_rule r) (unpack_instance d) (told d (Ok (record { counts = no_counts; instance = d })))
  applied-none = record { reply = refl; instance = refl }

  -- one more
  pub applied-next : (i : ℕ) (a : Result Applied Refusal) → Applies s d r a
      → AppliesOver (i + 1) (unpack_scheme s) (unpack_rule r) (unpack_instance d) (told d a)
  applied-next i (Ok a) applies =
      let answer = rw (← applies.instance) at applies.answer in
      let same : a.counts ≡ counts (unpack_rule r).pattern (unpack_instance d) (unpack_instance a.instance) = cc in
      record { reply = rw (add-one i, ← applies.instance, same) refl; instance = rw (add-one i, ← applies.instance) refl }
  applied-next i (Err x) applies =
      record { reply = rw (add-one i, ← applies.instance) refl; instance = rw (add-one i, ← applies.instance) refl }

-- # Files
pub rule-stored : {s : Scheme} {text : List ℕ} {r : PackedRule} → ReadRule s text (Ok r) → StoredRule s r
rule-stored {r = r} read = read.rule r refl

module _ (times : ℕ) {file : List ℕ} (rule : List ℕ) where
  pub drawing-unapplied : {x : Refusal} → ReadDrawing file (Err x) → {empty : PackedInstance} → FreshInstance empty
      → {a : AppliedOver} → a ≡ told empty (Err x) → AppliesFiles times file rule a
  drawing-unapplied read fresh e = rw e (record { reply = rw (← read) refl; instance = rw (← read) fresh.empty })

  module _ (w : Whole) (opened : ReadDrawing file (Ok w)) where
    pub rule-unapplied : {x : Refusal} → ReadRule (unpack_scheme w.scheme) rule (Err x) → {a : AppliedOver} → a ≡ told w.instance (Err x)
        → AppliesFiles times file rule a
    rule-unapplied read e =
        rw e (record { reply = rw (← opened, ← read.answer) refl; instance = rw (← opened, ← read.answer) refl })

    pub all-applied : {r : PackedRule} → ReadRule (unpack_scheme w.scheme) rule (Ok r) → {a : AppliedOver}
        → AppliesOver times (unpack_scheme w.scheme) (unpack_rule r) (unpack_instance w.instance) a → AppliesFiles times file rule a
    all-applied read h =
        record { reply = rw (← opened, ← read.answer) h.reply; instance = rw (← opened, ← read.answer) h.instance }
