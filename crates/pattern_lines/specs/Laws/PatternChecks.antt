-- What a line of a pattern is tested for, as code tests it: a pattern node stands if its number is below their count, and shares class and value
-- with another exactly if the low bits of their keys are the same.
use Rattle.std.specs.Prelude.{ℕ, suc, ◌+◌, ◌*◌, ◌/◌, ◌%◌, ◌^◌, ◌<◌, ◌≤◌, ◌≡◌, refl, Bool, true, false, cond, ◌&&◌, ◌||◌, length, eqb, ltb, None, Some}
use native.Mathlib.Omega.{arith}
use Rattle.std.proofs.Common.{ap, ap₂, sym, ◌∙◌, lt-ltb, le-ltb, ltb-true, eqb-true, eq-eqb, ne_eqb}
use Rattle.std.proofs.Math.Bool.{not, and-false}
use mathlib.Core.List.{List, [], ◌∷◌, map}
use Rattle.std.proofs.lemmas.Bool.{eqb-false}
use Rattle.lists.specs.Lists.{any, member}
use Rattle.lists.proofs.Laws.Lists.{both, equals, less, same_truth}
use Rattle.model.specs.Graph.{Scheme, declares, has, joins, stands, of_class, permits, is_object, both_given}
use Rattle.graph.specs.Packed.{unpack_triple, unpack_declared, unpack_pattern_node, unpack_pattern_nodes, scheme_of, pattern_of, triple}
use Rattle.graph.proofs.Laws.Triples.{has-triple}
use Rattle.graph.specs.declared.declarations.Declarations.{Declarations}
use Rattle.verdicts.proofs.Laws.Tests.{passed}
use Rattle.pattern_lines.specs.PatternLines.{pnode_checks, knows}
use Rattle.pattern_lines.specs.Laws.Patterns.{stands-place, class_at, joins-place, permits-places}

-- # Pattern nodes that stand
module _ (nodes edges : List ℕ) (i : ℕ) where
  pub place_stands : ltb i (length nodes) ≡ stands (pattern_of nodes edges) i
  place_stands = sym (stands-place nodes edges i)

  pub stands-below : i < length nodes → stands (pattern_of nodes edges) i ≡ true
  stands-below h = stands-place nodes edges i ∙ lt-ltb i (length nodes) h

  pub stands-past : length nodes ≤ i → stands (pattern_of nodes edges) i ≡ false
  stands-past h = stands-place nodes edges i ∙ le-ltb i (length nodes) h

  -- the first of four tests that all pass
  pub stands-first : (a b c : Bool) {r : Bool} → r ≡ (stands (pattern_of nodes edges) i && a && b && c) → not r ≡ false → i < length nodes
  stands-first a b c made known = let all = passed made known in ltb-true i (length nodes) (place_stands ∙ (simp both at all).0.0.0)

-- # A pattern node's value
low_bits : (k : ℕ) → k % 2 ^ 39 ≡ k / 2 ^ 33 % 2 ^ 6 * 2 ^ 33 + k / 2 ^ 32 % 2 * 2 ^ 32 + k % 2 ^ 32
low_bits k = omega arith

-- a value is given in the key
module _ (key : ℕ) (given : key / 2 ^ 32 % 2 ≡ 1) where
  shares-key : (k : ℕ)
      → (eqb (k / 2 ^ 33 % 2 ^ 6) (key / 2 ^ 33 % 2 ^ 6) && both_given (unpack_pattern_node 0 k).value (Some (key % 2 ^ 32))) ≡ eqb (k % 2 ^ 39) (key % 2 ^ 39)
  shares-key k = go (eqb (k / 2 ^ 32 % 2) 1) refl
    where
      class : Bool
      class = eqb (k / 2 ^ 33 % 2 ^ 6) (key / 2 ^ 33 % 2 ^ 6)

      go : (t : Bool) → eqb (k / 2 ^ 32 % 2) 1 ≡ t
          → (class && both_given (cond t (Some (k % 2 ^ 32)) None) (Some (key % 2 ^ 32))) ≡ eqb (k % 2 ^ 39) (key % 2 ^ 39)
      go true e =
          let also : k / 2 ^ 32 % 2 ≡ 1 = eqb-true (k / 2 ^ 32 % 2) 1 e in
          same_truth (class && eqb (k % 2 ^ 32) (key % 2 ^ 32)) (eqb (k % 2 ^ 39) (key % 2 ^ 39)) (
            (λ h. let r = simp (both, equals) at h in eq-eqb (k % 2 ^ 39) (key % 2 ^ 39) (cc (low_bits k, low_bits key))),
            λ h. let r : k % 2 ^ 39 ≡ key % 2 ^ 39 = eqb-true (k % 2 ^ 39) (key % 2 ^ 39) h in simp (both, equals) (omega arith, omega arith),
          )
      go false e =
          let other = eqb-false (k / 2 ^ 32 % 2) 1 e in
          and-false class ∙ sym (ne_eqb (k % 2 ^ 39) (key % 2 ^ 39) (λ h. other (omega arith)))

  shares-keys : (i : ℕ) (ks : List ℕ)
      → any (λ m. eqb m.class (key / 2 ^ 33 % 2 ^ 6) && both_given m.value (Some (key % 2 ^ 32))) (unpack_pattern_nodes i ks)
      ≡ any (λ k. eqb (k % 2 ^ 39) (key % 2 ^ 39)) ks
  shares-keys i [] = refl
  shares-keys i (k ∷ ks) = ap₂ ◌||◌ (shares-key k) (shares-keys (suc i) ks)

module _ (s : Scheme) (nodes : List ℕ) (node : ℕ) where
  pub value-left-out : node / 2 ^ 32 % 2 ≡ 0 → (pnode_checks s (pattern_of nodes []) (unpack_pattern_node 0 node)).conforming ≡ true
  unfolding pnode_checks
  value-left-out h = rw h

  pub value-given : (b : Bool) → (node / 2 ^ 32 % 2 ≡ 0 → ⊥)
      → (not (is_object s (node / 2 ^ 33 % 2 ^ 6)) && not (any (λ k. eqb (k % 2 ^ 39) (node % 2 ^ 39)) nodes)) ≡ b
      → (pnode_checks s (pattern_of nodes []) (unpack_pattern_node 0 node)).conforming ≡ b
  unfolding pnode_checks
  value-given b h e =
      let given : node / 2 ^ 32 % 2 ≡ 1 = omega arith in
      rw given (ap (λ t. not (is_object s (node / 2 ^ 33 % 2 ^ 6)) && not t) (shares-keys node given 0 nodes) ∙ e)

-- # Edges between pattern nodes
-- an edge that is known has its ends among the nodes
module _ (names : Declarations) (nodes : List ℕ) (edge : ℕ) {r : Bool} (made : r ≡ knows (scheme_of names names []) (pattern_of nodes []) (unpack_triple edge))
    (known : not r ≡ false) where
  ends-stand : ((ltb (edge / 2 ^ 22) (length nodes) && declares (unpack_declared names) (edge / 2 ^ 16 % 2 ^ 6)) && ltb (edge % 2 ^ 16) (length nodes)) ≡ true
  unfolding knows
  ends-stand = rw (← stands-place nodes [] (edge / 2 ^ 22), ← stands-place nodes [] (edge % 2 ^ 16)) (passed made known)

  pub source-below : edge / 2 ^ 22 < length nodes
  source-below = (simp (both, less) at ends-stand).0.0

  pub target_below : edge % 2 ^ 16 < length nodes
  target_below = (simp (both, less) at ends-stand).1

-- a permitted triple of classes, of which code has read those of the pattern nodes
module _ (s : Scheme) (nodes edges : List ℕ) where
  pub joins-made : (K name q c : ℕ) {r : Bool} → q < length nodes → c ≡ class_at nodes q → r ≡ has s.permitted (triple K name c)
      → r ≡ joins s (eqb K) name (of_class (pattern_of nodes edges) q)
  joins-made K name q c h e made = made ∙ ap (λ k. has s.permitted (triple K name k)) e ∙ sym (joins-place nodes edges s K name q h)

  pub permits-made : (edge c d : ℕ) {r : Bool} → edge / 2 ^ 22 < length nodes → edge % 2 ^ 16 < length nodes
      → c ≡ class_at nodes (edge / 2 ^ 22) → d ≡ class_at nodes (edge % 2 ^ 16) → r ≡ has s.permitted (triple c (edge / 2 ^ 16 % 2 ^ 6) d)
      → r ≡ permits s (pattern_of nodes edges) (unpack_triple edge)
  permits-made edge c d h k e f made =
      made ∙ ap₂ (λ a b. has s.permitted (triple a (edge / 2 ^ 16 % 2 ^ 6) b)) e f ∙ sym (permits-places nodes edges s (unpack_triple edge) h k)

  -- with what else code has tested of the edge
  pub conforms-made : (edge c d : ℕ) (more : Bool) {r : Bool} → edge / 2 ^ 22 < length nodes → edge % 2 ^ 16 < length nodes
      → c ≡ class_at nodes (edge / 2 ^ 22) → d ≡ class_at nodes (edge % 2 ^ 16) → r ≡ (has s.permitted (triple c (edge / 2 ^ 16 % 2 ^ 6) d) && more)
      → r ≡ (permits s (pattern_of nodes edges) (unpack_triple edge) && more)
  conforms-made edge c d more h k e f made = made ∙ ap (λ t. t && more) (permits-made edge c d h k e f refl)

pub has-made : (ks : List ℕ) (k : ℕ) {r : Bool} → r ≡ member ks k → r ≡ has (map unpack_triple ks) (unpack_triple k)
has-made ks k made = made ∙ sym (has-triple ks k)

-- what a line of a pattern, and one of an action, is tested for
pub ruleset PatternTests = (stands-below, stands-past, stands-first, source-below, target_below, value-left-out, value-given, joins-made, permits-made, conforms-made, has-made)
