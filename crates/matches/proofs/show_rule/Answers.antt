-- `matches::show_rule` meets its contract: an accepted rule has a pattern that is stored under the scheme of the instance. Assumes nothing.
use Rattle.std.specs.Prelude.{List, ℕ, Ok, refl}
use Rattle.graph.specs.Packed.{unpack_scheme}
use Rattle.graph.specs.declared.rule.PackedRule.{PackedRule}
use Rattle.reading.specs.declared.whole.Whole.{Whole}
use Rattle.rules.specs.Readers.{ReadRule}
use Rattle.matcher.specs.Matchers.{Stored}
use Rattle.matches.proofs.show_rule.Goals as goal

stored-together : (w : Whole) {text : List ℕ} {r : PackedRule} → ReadRule (unpack_scheme w.scheme) text (Ok r) → Stored w.instance r.pattern
stored-together w {r = r} read =
    record { scheme = unpack_scheme w.scheme; instance = w.instance_stored; pattern = (read.rule r refl).pattern }

pub invariant_of-show_matchings : goal.invariant_of-show_matchings
invariant_of-show_matchings g c = record { stored = ∣ stored-together c.args.whole.now c.in-Ok.ensures ∣₁ }
