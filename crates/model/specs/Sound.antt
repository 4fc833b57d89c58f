-- What holds of every open drawing and of every accepted rule: sorted, within the limits, conforming.
use Rattle.std.specs.Prelude.{◌≡◌, Bool, true, ◌&&◌, ℕ, ◌≤◌, List, [], ◌∷◌, map, length, eqb, leb}
use Rattle.lists.specs.Lists.{◌∈◌, all}
use Rattle.lists.specs.Order.{rising}
use Rattle.model.specs.Limits
use Rattle.model.specs.Graph.{Triple, Scheme, Instance, Pattern, is_object, is_functional, is_multivalued, row, has, joins, stands}
use Rattle.model.specs.Graph.{of_class, permits, conforms, pattern_conforms, scheme_listed, instance_listed, pattern_listed}
use Rattle.model.specs.Operations.{Action, pattern_only, add_node, add_edges, delete_node, delete_edges, abstract, Rule}
use Rattle.model.specs.Record.{Record, shut, opened}

-- scheme and drawing are sorted and within all limits, and the drawing conforms
pub record Sound (s : Scheme) (d : Instance) : Type 0 where
  pub scheme : scheme_listed s ≡ true
  pub listed : instance_listed s d ≡ true
  pub conforming : conforms s d ≡ true

-- edges of an action: one at least, at most so many, in rising order
abbrev pub some_edges : (most : ℕ) → List Triple → Bool
some_edges most ts = leb 1 (length ts) && leb (length ts) most && rising (map row ts)

-- what "Five operations" asks of an action's parts, under a scheme and a pattern
unfoldable pub suits : Scheme → Pattern → Action → Bool
suits s p pattern_only = true
-- "object class K, 0..4 arms, each a functional name and a pattern node"
suits s p (add_node K arms) =
    is_object s K
    && leb (length arms) Limits.arms
    && rising (map (λ a. a.name ∷ []) arms)
    && all (λ a. is_functional s a.name && joins s (eqb K) a.name (of_class p a.node)) arms
-- "1..4 edges between pattern nodes"
suits s p (add_edges ts) = some_edges Limits.puts ts && all (permits s p) ts
-- "one pattern node"
suits s p (delete_node q) = stands p q
-- "1..4 of the pattern's own edges"
suits s p (delete_edges ts) = some_edges Limits.cuts ts && all (has p.edges) ts
-- "pattern node p, object class K, multivalued names a and b"
suits s p (abstract q K a b) = is_object s K && is_multivalued s a && is_multivalued s b && joins s (eqb K) b (of_class p q)

-- the pattern is sorted, within the limits and conforms, and the action suits it
pub record SoundRule (s : Scheme) (r : Rule) : Type 0 where
  pub listed : pattern_listed s r.pattern ≡ true
  pub conforming : pattern_conforms s r.pattern ≡ true
  pub suited : suits s r.pattern r.action ≡ true

-- an open record: the drawing and every copy are sound, and the copies are "at most 8"
pub record SoundCopies (s : Scheme) (d : Instance) (cs : List Instance) : Type 0 where
  pub drawing : Sound s d
  pub copies : (c : Instance) → c ∈ cs → Sound s c
  pub few : length cs ≤ Limits.copies

abbrev pub SoundRecord : Record → Type 0
SoundRecord shut = Unit {0}
SoundRecord (opened s d cs) = SoundCopies s d cs
