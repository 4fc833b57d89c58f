-- The pattern that first and after list.
use Rattle.std.specs.Prelude.{ℕ, ◌≡◌, true, List, Result, IfOk}
use Rattle.model.specs.Answers.{outcome}
use Rattle.model.specs.Graph.{Pattern}
use Rattle.model.specs.Refusals.{Outcome, accepted, refused, ◌>>=◌}
use Rattle.model.specs.Record.{Record, shut, opened}
use Rattle.model.specs.Files.RuleText.{read_rule}
use Rattle.model.specs.declared.Refusal.{Refusal}
use Rattle.model.specs.declared.Refusal.TheVariants.{NotOpen}
use Rattle.graph.specs.Packed.{unpack_pattern}
use Rattle.graph.specs.declared.pattern.PackedPattern.{PackedPattern}
use Rattle.matcher.specs.Matchers.{Stored}
use Rattle.session.specs.declared.Session.{Session}
use Rattle.session.specs.Sessions.{unpack_session}

-- that of a rule text, in the record's scheme
abbrev pub pattern_in : Record → (rule : List ℕ) → Outcome Pattern
pattern_in shut rule = refused NotOpen
pattern_in (opened s d cs) rule = do
  r ← read_rule s rule
  accepted r.pattern

-- what is accepted is stored as it should be, in a session that is open
pub record ReadsPattern (s : Session) (rule : List ℕ) (r : Result PackedPattern Refusal) : Type 0 where
  pub pattern : outcome unpack_pattern r ≡ pattern_in (unpack_session s) rule
  pub stored : IfOk r (λ p. Stored s.instance p)
  pub opened : IfOk r (λ _. s.opened ≡ true)
