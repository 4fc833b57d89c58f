-- What apply promises, in the words of document 01's definitions.
use Rattle.std.specs.Prelude.{◌≡◌, Result, Ok}
use Rattle.model.specs.Answers.{outcome}
use Rattle.model.specs.Graph.{Instance, Pattern}
use Rattle.model.specs.Operations.{applied, counts}
use Rattle.model.specs.Refusals.{Outcome, accepted, refused, ◌>>=◌}
use Rattle.model.specs.Record.{Report, counted}
use Rattle.model.specs.declared.Refusal.{Refusal}
use Rattle.graph.specs.Packed.{unpack_scheme, unpack_instance, unpack_rule, StoredInstance}
use Rattle.graph.specs.declared.instance.PackedInstance.{PackedInstance}
use Rattle.graph.specs.declared.rule.PackedRule.{PackedRule}
use Rattle.graph.specs.declared.scheme.PackedScheme.{PackedScheme}
use Rattle.reports.specs.declared.Applied.{Applied}

-- "Apply reports matchings, nodes added, edges added, nodes removed, edges removed", or it is refused
abbrev pub reported : Pattern → Instance → Outcome Instance → Outcome Report
reported p old o = o >>= λ new. accepted (counted (counts p old new))

-- the instance afterwards: "A refused call changes nothing."
abbrev pub afterwards : Instance → Outcome Instance → Instance
afterwards old (accepted new) = new
afterwards old (refused r) = old

-- an applied rule: the answer and the instance are those of the definition, and what is stored is sound again
pub record Applies (s : PackedScheme) (d : PackedInstance) (r : PackedRule) (a : Result Applied Refusal) : Type 0 where
  pub answer : outcome (λ a. counted a.counts) a
      ≡ reported (unpack_rule r).pattern (unpack_instance d) (applied (unpack_scheme s) (unpack_rule r) (unpack_instance d))
  pub instance : outcome (λ a. unpack_instance a.instance) a ≡ applied (unpack_scheme s) (unpack_rule r) (unpack_instance d)
  pub stored : (n : Applied) → a ≡ Ok n → StoredInstance (unpack_scheme s) n.instance
