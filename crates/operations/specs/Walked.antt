-- What is noted for a rule when all matchings are visited.
use Rattle.std.specs.Prelude.{ℕ, ◌≡◌, length}
use mathlib.Core.List.{List, foldl}
use Rattle.model.specs.Matching.{matchings}
use Rattle.graph.specs.Packed.{unpack_scheme, unpack_instance, unpack_pattern, StoredInstance, StoredRule}
use Rattle.graph.specs.declared.instance.PackedInstance.{PackedInstance}
use Rattle.graph.specs.declared.rule.PackedRule.{PackedRule}
use Rattle.graph.specs.declared.scheme.PackedScheme.{PackedScheme}
use Rattle.notes.specs.Visits.{visited}
use Rattle.rule_notes.specs.Noted.{noting_of, begun}

-- what is noted after a walk
unfoldable pub walked : PackedInstance → PackedRule → List ℕ
walked d r = foldl (visited (noting_of r.action)) (begun d r.action) (matchings (unpack_pattern r.pattern) (unpack_instance d))

-- all matchings are visited, and the first keys were noted before
pub record Walked (s : PackedScheme) (d : PackedInstance) (r : PackedRule) (first : ℕ) (log : List ℕ) : Type 0 where
  pub instance : StoredInstance (unpack_scheme s) d
  pub rule : StoredRule (unpack_scheme s) r
  pub before : first ≡ length (begun d r.action)
  pub notes : log ≡ walked d r
