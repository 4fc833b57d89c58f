-- What is found of a line, "tried 1 to 5".
use Rattle.std.specs.Prelude.{ℕ, Bool, false, cond, not, ◌&&◌, eqb, Option, None, Some, Result, Ok, Err}
use Rattle.std.specs.Bool.{⊤}
use mathlib.Core.List.{List}
use Rattle.lists.specs.Lists.{last_of}
use Rattle.model.specs.Graph.{Triple, Scheme, Instance, Pattern}
use Rattle.model.specs.Files.{Checks}
use Rattle.graph.specs.Packed.{scheme_of, instance_of, pattern_of}
use Rattle.verdicts.specs.declared.above.Above.{Above}
use Rattle.model.specs.declared.Refusal.{Refusal}
use Rattle.model.specs.declared.Refusal.TheVariants.{Malformed, TooMany, Undeclared, Nonconforming, BadAction}

-- causes 3 to 5
unfoldable pub judged : (line : ℕ) → Checks → Result ⊤ Refusal
judged line c =
    cond (not c.declared) (Err (Undeclared line))
    (cond (not c.conforming) (Err (Nonconforming line))
    (cond (not c.suited) (Err (BadAction line)) (Ok tt)))

-- causes 1 to 5: of 1, that the line is in its turn and may stand there; of 2, that there are as many of its kind as may be
unfoldable pub verdict : (line : ℕ) → (in_place crowded : Bool) → Checks → Result ⊤ Refusal
verdict line in_place crowded c = cond (not in_place) (Err (Malformed line)) (cond crowded (Err (TooMany line)) (judged line c))

-- the last edge has the same node and the same name as this one
abbrev pub shares_with : Option Triple → Triple → Bool
shares_with None e = false
shares_with (Some f) e = eqb f.source e.source && eqb f.name e.name

unfoldable pub last_shares : List Triple → Triple → Bool
last_shares es e = shares_with (last_of es) e

-- what a line is judged under: a scheme, and a pattern or an instance
abbrev pub scheme_above : Above → Scheme
scheme_above a = scheme_of a.classes a.names a.permitted.keys.now

abbrev pub pattern_above : Above → Pattern
pattern_above a = pattern_of a.nodes.now a.edges.now

abbrev pub instance_above : Above → Instance
instance_above a = instance_of a.nodes.now a.edges.now
