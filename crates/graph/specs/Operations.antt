-- The operations of actions, and their codes.
use Rattle.std.specs.Prelude.{ℕ, ◌≡◌, ◌<◌, ◌≤◌, max, Result, MatchResult}
use Rattle.graph.specs.declared.rule.Operation.{Operation}
use Rattle.graph.specs.declared.rule.Operation.TheVariants.{PatternOnly, NodeAddition, EdgeAddition, NodeDeletion, EdgeDeletion, Abstraction, Other}
use Rattle.graph.specs.declared.rule.UnknownOperation.{UnknownOperation}

-- the code of an operation in a rule text, and a number that none has there
abbrev pub code_of : Operation → ℕ
code_of PatternOnly = 0
code_of NodeAddition = 1
code_of EdgeAddition = 2
code_of NodeDeletion = 3
code_of EdgeDeletion = 4
code_of Abstraction = 5
code_of (Other number) = max number 6

-- the operation that has the code, or an error with a number that is no code
abbrev pub Decodes : ℕ → Result Operation UnknownOperation → Type 0
Decodes code r = MatchResult r (λ o. (code_of o ≡ code) × (code ≤ 5)) (λ e. (e.0 ≡ code) × (5 < code))
