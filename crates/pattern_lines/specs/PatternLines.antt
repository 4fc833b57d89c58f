-- A line of a pattern: what it must meet, told from the pattern above it.
use Rattle.std.specs.Prelude.{ℕ, Bool, true, not, ◌&&◌, eqb, Option, None, Some}
use Rattle.lists.specs.Lists.{any}
use Rattle.model.specs.Graph.{Triple, Scheme, Node, Pattern, declares, is_object, is_functional, stands, permits, both_given}
use Rattle.model.specs.Files.{Checks, checks}
use Rattle.verdicts.specs.Verdicts.{last_shares}

-- the pattern nodes above are apart already, and no edge stands yet
abbrev value_fits : Scheme → Pattern → ℕ → Option ℕ → Bool
value_fits s p c None = true
value_fits s p c (Some v) = not (is_object s c) && not (any (λ m. eqb m.class c && both_given m.value (Some v)) p.nodes)

unfoldable pub pnode_checks : Scheme → Pattern → Node (Option ℕ) → Checks
pnode_checks s p n = checks true (declares s.classes n.class) (value_fits s p n.class n.value) true

-- an edge between pattern nodes above, with a declared name
unfoldable pub knows : Scheme → Pattern → Triple → Bool
knows s p e = stands p e.source && declares s.names e.name && stands p e.target

-- the edges above conform already and stand before this one, so that only the last can be of the same node and name
unfoldable pub pedge_checks : Scheme → Pattern → Triple → Checks
unfolding knows
pedge_checks s p e = checks true (knows s p e) (permits s p e && not (is_functional s e.name && last_shares p.edges e)) true
