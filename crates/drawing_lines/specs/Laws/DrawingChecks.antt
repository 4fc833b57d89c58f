-- What a line of a drawing file is tested for, as code tests it: a node shares class and value with another exactly if the low bits of their
-- keys are the same, and the nodes that a search finds tell which nodes stand, and of which classes.
use Rattle.std.specs.Prelude.{ℕ, ◌/◌, ◌%◌, ◌^◌, ◌≡◌, refl, Bool, true, false, ◌&&◌, ◌||◌, List, [], ◌∷◌, map, eqb, Option, None, Some, option_map}
use Rattle.std.proofs.Common.{arith, ap, ap₂, ◌∙◌, eq-eqb, ne_eqb}
use Rattle.std.proofs.Math.Path.{sym}
use Rattle.std.proofs.Math.Bool.{not}
use Rattle.lists.specs.Lists.{any, find}
use Rattle.lists.specs.Order.{rising}
use Rattle.lists.proofs.Laws.Lists.{both, equals, same_truth}
use Rattle.model.specs.Graph.{has, of_kind, stands, permits}
use Rattle.graph.specs.Packed.{unpack_triple, unpack_node, unpack_declared, scheme_of, instance_of, triple}
use Rattle.graph.specs.declared.declarations.Declarations.{Declarations}
use Rattle.verdicts.specs.Verdicts.{last_shares}
use Rattle.verdicts.proofs.Laws.Edges.{joins-classes, absent, found-stands, found-class}
use Rattle.drawing_lines.specs.DrawingLines.{node_checks}

-- # A node's value
module _ (node : ℕ) where
  shares-key : (k : ℕ)
      → (eqb (k / 2 ^ 32 % 2 ^ 6) (node / 2 ^ 32 % 2 ^ 6) && eqb (k % 2 ^ 32) (node % 2 ^ 32)) ≡ eqb (k % 2 ^ 38) (node % 2 ^ 38)
  shares-key k =
      same_truth (eqb (k / 2 ^ 32 % 2 ^ 6) (node / 2 ^ 32 % 2 ^ 6) && eqb (k % 2 ^ 32) (node % 2 ^ 32)) (eqb (k % 2 ^ 38) (node % 2 ^ 38)) (
        (λ h. let r = simp (both, equals) at h in (equals (k % 2 ^ 38) (node % 2 ^ 38)).1 (omega arith)),
        λ h. let r = (equals (k % 2 ^ 38) (node % 2 ^ 38)).0 h in simp (both, equals) (omega arith, omega arith),
      )

  shares-keys : (ks : List ℕ)
      → any (λ m. eqb m.class (node / 2 ^ 32 % 2 ^ 6) && eqb m.value (node % 2 ^ 32)) (map unpack_node ks)
      ≡ any (λ k. eqb (k % 2 ^ 38) (node % 2 ^ 38)) ks
  shares-keys [] = refl
  shares-keys (k ∷ ks) = ap₂ ◌||◌ (shares-key k) (shares-keys ks)

module _ (classes : Declarations) (nodes : List ℕ) (node : ℕ) {o : Bool} (made : o ≡ of_kind 0 (unpack_declared classes) (node / 2 ^ 32 % 2 ^ 6)) where
  abbrev conforming : Bool
  conforming = (node_checks (scheme_of classes classes []) (map unpack_node nodes) (unpack_node node)).conforming

  pub object-with-value : o ≡ true → (node % 2 ^ 32 ≡ 0 → ⊥) → conforming ≡ false
  unfolding node_checks
  object-with-value h d = rw (sym made ∙ h) (ne_eqb (node % 2 ^ 32) 0 d)

  pub object-without-value : o ≡ true → node % 2 ^ 32 ≡ 0 → conforming ≡ true
  unfolding node_checks
  object-without-value h e = rw (sym made ∙ h) (eq-eqb (node % 2 ^ 32) 0 e)

  module _ (h : o ≡ false) {s : Bool} (shared : s ≡ any (λ k. eqb (k % 2 ^ 38) (node % 2 ^ 38)) nodes) where
    value-conforming : conforming ≡ not s
    unfolding node_checks
    value-conforming = rw (sym made ∙ h) (ap not (shares-keys node nodes ∙ sym shared))

    pub value-shared : s ≡ true → conforming ≡ false
    value-shared e = value-conforming ∙ ap not e

    pub value-apart : s ≡ false → conforming ≡ true
    value-apart e = value-conforming ∙ ap not e

-- # An edge's ends
module _ (nodes edges : List ℕ) (i : ℕ) {r : Option ℕ} (made : option_map unpack_node r ≡ find (λ n. eqb n.number i) (map unpack_node nodes)) where
  pub nothing-stands : r ≡ None → stands (instance_of nodes edges) i ≡ false
  nothing-stands e = absent (instance_of nodes edges) i (sym made ∙ ap (option_map unpack_node) e)

  pub node-stands : {k : ℕ} → r ≡ Some k → stands (instance_of nodes edges) i ≡ true
  node-stands e = found-stands (instance_of nodes edges) i (sym made ∙ ap (option_map unpack_node) e)

module _ (classes names : Declarations) (permitted nodes edges : List ℕ) (edge : ℕ)
    (rise : rising (map (λ n. n.number ∷ []) (map unpack_node nodes)) ≡ true) where
  abbrev name : ℕ
  name = edge / 2 ^ 16 % 2 ^ 6

  abbrev functional : Bool
  functional = of_kind 0 (unpack_declared names) name && last_shares (map unpack_triple edges) (unpack_triple edge)

  -- the nodes that are found at the ends of an edge tell whether it is permitted, and so whether it conforms
  pub ends_found : {a b : Option ℕ} {x y : ℕ} {r : Bool}
      → option_map unpack_node a ≡ find (λ n. eqb n.number (edge / 2 ^ 22)) (map unpack_node nodes) → a ≡ Some x
      → option_map unpack_node b ≡ find (λ n. eqb n.number (edge % 2 ^ 16)) (map unpack_node nodes) → b ≡ Some y
      → r ≡ (has (map unpack_triple permitted) (triple (x / 2 ^ 32 % 2 ^ 6) name (y / 2 ^ 32 % 2 ^ 6)) && not functional)
      → r ≡ (permits (scheme_of classes names permitted) (instance_of nodes edges) (unpack_triple edge) && not functional)
  ends_found {a} {b} {x} {y} made_a at_a made_b at_b made =
      let d = instance_of nodes edges in
      made
      ∙ ap (λ t. t && not functional)
      (sym
      (joins-classes (scheme_of classes names permitted) _ _ (x / 2 ^ 32 % 2 ^ 6) name (y / 2 ^ 32 % 2 ^ 6)
      (found-class d (edge / 2 ^ 22) (sym made_a ∙ ap (option_map unpack_node) at_a) rise)
      (found-class d (edge % 2 ^ 16) (sym made_b ∙ ap (option_map unpack_node) at_b) rise)))
