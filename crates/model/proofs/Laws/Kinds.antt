-- Kinds of declared classes and names: in a listed scheme each has one, and a class is an object class or a value class.
-- Numbers rise in a listed scheme, so that a number is declared once.
use Rattle.std.specs.Prelude.{ℕ, zero, suc, ◌<◌, ◌≡◌, refl, ◌↔◌, ◌⊎◌, true, false, List, [], ◌∷◌}
use Rattle.std.proofs.Common.{arith, ap, ◌∙◌, sym, inl, inr, ⊎_elim, true≢false}
use Rattle.std.proofs.Math.Logic.Iff
use Rattle.lists.specs.Lists.{◌∈◌}
use Rattle.lists.proofs.Laws.Lists.{Truth, fails}
use Rattle.lists.proofs.Laws.Apart.{rising-map-determines}
use Rattle.model.specs.Limits
use Rattle.model.specs.Graph.{Declared, Scheme, declares, of_kind, is_object, is_value}
use Rattle.model.proofs.Laws.Graph.{ListedDeclarations}

module _ (ds : List Declared) (n : ℕ) where
  of-kind : (k : ℕ) → (of_kind k ds n ≡ true) ↔ ((d : Declared) × (d ∈ ds) × ((d.number ≡ n) × (d.kind ≡ k)))
  of-kind k = simp Truth Iff.rfl

  is_declared_lem : (declares ds n ≡ true) ↔ ((d : Declared) × (d ∈ ds) × (d.number ≡ n))
  is_declared_lem = simp Truth Iff.rfl

  -- what has a kind is declared
  pub kind-declared : (k : ℕ) → of_kind k ds n ≡ true → declares ds n ≡ true
  kind-declared k h = let r = (of-kind k).0 h in is_declared_lem.1 (r.0, r.1, r.2.0)

  module _ {below : ℕ} (listed : ListedDeclarations below ds) where
    -- what is declared has kind 0 or kind 1
    pub some-kind : declares ds n ≡ true → (of_kind 0 ds n ≡ true) ⊎ (of_kind 1 ds n ≡ true)
    some-kind h = let r = is_declared_lem.0 h in go r.0 r.1 r.2 r.0.kind refl (listed.within r.0 r.1).1
      where
        go : (d : Declared) → d ∈ ds → d.number ≡ n → (k : ℕ) → d.kind ≡ k → k < 2 → (of_kind 0 ds n ≡ true) ⊎ (of_kind 1 ds n ≡ true)
        go d i m zero e l = inl ((of-kind 0).1 (d, i, (m, e)))
        go d i m (suc zero) e l = inr ((of-kind 1).1 (d, i, (m, e)))
        go d i m (suc (suc k)) e l = absurd (omega arith)

    -- and no other
    pub one-kind : (j k : ℕ) → of_kind j ds n ≡ true → of_kind k ds n ≡ true → j ≡ k
    one-kind j k h i =
        let r = (of-kind j).0 h in
        let q = (of-kind k).0 i in
        let e = rising-map-determines (λ d. d.number ∷ []) ds listed.rise r.0 q.0 r.1 q.1 (ap (λ m. m ∷ []) (r.2.0 ∙ sym q.2.0)) in
        sym r.2.1 ∙ ap (λ d. d.kind) e ∙ q.2.1

module _ (s : Scheme) (listed : ListedDeclarations Limits.classes s.classes) (c : ℕ) where
  -- an object class is no value class
  pub object-not-value : is_object s c ≡ true → is_value s c ≡ false
  object-not-value h = (fails (is_value s c)).1 (λ k. let z = one-kind s.classes c listed 0 1 h k in omega arith)

  -- a declared class that is no object class is a value class, and the other way round
  pub value-class : declares s.classes c ≡ true → is_object s c ≡ false → is_value s c ≡ true
  value-class d h = ⊎_elim (λ o. absurd (true≢false (sym o ∙ h))) (λ v. v) (some-kind s.classes c listed d)

  pub object-class : declares s.classes c ≡ true → is_value s c ≡ false → is_object s c ≡ true
  object-class d h = ⊎_elim (λ o. o) (λ v. absurd (true≢false (sym v ∙ h))) (some-kind s.classes c listed d)
