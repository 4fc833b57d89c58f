-- Whether a further edge conforms after the last one above it, told by keys: test by test, as they can go.
use Rattle.std.specs.Prelude.{ℕ, ◌-◌, ◌/◌, ◌%◌, ◌^◌, ◌≡◌, Bool, true, false, not, ◌&&◌, length, get_or, eqb}
use Rattle.std.proofs.Common.{arith, ap, ◌∙◌}
use Rattle.std.proofs.Math.Path.{refl}
use mathlib.Core.List.{List, [], ◌∷◌, map}
use Rattle.model.specs.Graph.{has, of_kind}
use Rattle.graph.specs.Packed.{unpack_triple, unpack_declared, triple}
use Rattle.graph.specs.declared.declarations.Declarations.{Declarations}
use Rattle.verdicts.specs.Verdicts.{last_shares}
use Rattle.verdicts.proofs.Laws.Tests.{failed, passed}
use Rattle.verdicts.proofs.Laws.LastEdge.{shares-key}

module _ (names : Declarations) (permitted edges : List ℕ) (source edge target : ℕ) where
  abbrev name : ℕ
  name = edge / 2 ^ 16 % 2 ^ 6

  abbrev is_permitted : Bool
  is_permitted = has (map unpack_triple permitted) (triple source name target)

  abbrev functional : Bool
  functional = of_kind 0 (unpack_declared names) name

  abbrev conforms : Bool
  conforms = is_permitted && not (functional && last_shares (map unpack_triple edges) (unpack_triple edge))

  no-last : (ks : List ℕ) → length ks ≡ 0 → last_shares (map unpack_triple ks) (unpack_triple edge) ≡ false
  unfolding last_shares
  no-last [] h = refl
  no-last (k ∷ ks) h = absurd (omega arith)

  end-shares : (k : ℕ) (ks : List ℕ)
      → last_shares (map unpack_triple (k ∷ ks)) (unpack_triple edge) ≡ eqb (get_or (k ∷ ks) (length ks) 0 / 2 ^ 16) (edge / 2 ^ 16)
  unfolding last_shares
  end-shares k [] = shares-key k edge
  end-shares k (j ∷ ks) = end-shares j ks

  key-shares : (ks : List ℕ) → (length ks ≡ 0 → ⊥)
      → last_shares (map unpack_triple ks) (unpack_triple edge) ≡ eqb (get_or ks (length ks - 1) 0 / 2 ^ 16) (edge / 2 ^ 16)
  key-shares [] h = absurd (h refl)
  key-shares (k ∷ ks) h =
      let last : length ks ≡ length (k ∷ ks) - 1 = omega arith in
      end-shares k ks ∙ ap (λ (i : ℕ). eqb (get_or (k ∷ ks) i 0 / 2 ^ 16) (edge / 2 ^ 16)) last

  module _ (p : Bool) (e : p ≡ is_permitted) where
    pub edge-unpermitted : not p ≡ true → false ≡ conforms
    edge-unpermitted h = rw (failed e h)

    module _ (h : not p ≡ false) (f : Bool) (g : f ≡ functional) where
      permitted-so : is_permitted ≡ true
      permitted-so = passed e h

      pub edge-multivalued : not f ≡ true → true ≡ conforms
      edge-multivalued k = rw (permitted-so, failed g k)

      module _ (k : not f ≡ false) where
        functional-so : functional ≡ true
        functional-so = passed g k

        pub edge-first : length edges ≡ 0 → true ≡ conforms
        edge-first l = rw (permitted-so, functional-so, no-last edges l)

        pub edge-after : (length edges ≡ 0 → ⊥) → not (eqb (get_or edges (length edges - 1) 0 / 2 ^ 16) (edge / 2 ^ 16)) ≡ conforms
        edge-after l = rw (permitted-so, functional-so, key-shares edges l)
