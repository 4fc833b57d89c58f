-- What the reader of rule texts promises: of every text, in the open scheme, the answer that document 01's definition gives, accepted or refused,
-- with the line; and that what is accepted is stored as it should be.
use Rattle.std.specs.Prelude.{ℕ, ◌≡◌, List, Result, Ok}
use Rattle.model.specs.Graph.{Scheme}
use Rattle.model.specs.Files.RuleText.{read_rule}
use Rattle.graph.specs.Packed.{unpack_rule, StoredRule}
use Rattle.graph.specs.declared.rule.PackedRule.{PackedRule}
use Rattle.model.specs.Answers.{outcome}
use Rattle.model.specs.declared.Refusal.{Refusal}

pub record ReadRule (s : Scheme) (text : List ℕ) (r : Result PackedRule Refusal) : Type 0 where
  pub answer : outcome unpack_rule r ≡ read_rule s text
  pub rule : (k : PackedRule) → r ≡ Ok k → StoredRule s k
