-- Members of which no two share a list of numbers: such a list tells which member it is, and finds it.
-- By induction on the members.
use Rattle.std.specs.Prelude.{ℕ, ◌≡◌, refl, Bool, true, false, not, ◌&&◌, List, [], ◌∷◌, map, Option, None, Some}
use Rattle.std.proofs.Common.{ap, ◌∙◌, sym, inr, ⊎_elim}
use Rattle.std.proofs.lemmas.Bool.{false≢true}
use mathlib.Core.List.Memᴰ
use Rattle.lists.specs.Lists.{◌∈◌, all, find}
use Rattle.lists.specs.Order.{same, before, rising}
use Rattle.lists.proofs.Laws.Lists.{both, not_so, all-members, fails, Truth, in-cons, in-append, finds, finds-none}
use Rattle.lists.proofs.Laws.Order.{same-list, before-irreflexive, rising-map}

-- what is found is a member that passes
pub found-member : {A : Type 0} (p : A → Bool) (xs : List A) {x : A} → find p xs ≡ Some x → (x ∈ xs) × (p x ≡ true)
found-member p xs {x} h =
    let r = finds p xs h in
    (rw r.split ((in-append r.front (x ∷ r.back)).1 (inr (Memᴰ.head refl))), r.passes)

module _ {A : Type 0} (g : A → List ℕ) where
  -- no two have the same
  abbrev pub apart : List A → Bool
  apart [] = true
  apart (x ∷ xs) = all (λ y. not (same (g x) (g y))) xs && apart xs

  not-later : (x y : A) (xs : List A) → apart (x ∷ xs) ≡ true → y ∈ xs → g x ≡ g y → ⊥
  not-later x y xs h i e = let d = simp Truth at h in false≢true (sym (d.0 y i) ∙ (same-list (g x) (g y)).1 e)

  -- what tells members apart tells which member it is
  pub apart-determined : (xs : List A) → apart xs ≡ true → {x y : A} → x ∈ xs → y ∈ xs → g x ≡ g y → x ≡ y
  apart-determined [] h i j e = absurd (Memᴰ.not-nil i)
  apart-determined (a ∷ xs) h {x} {y} i j e =
      let rest = ((both (all (λ z. not (same (g a) (g z))) xs) (apart xs)).0 h).1 in
      ⊎_elim
      (λ p. ⊎_elim (λ q. p ∙ sym q) (λ l. absurd (not-later a y xs h l (ap g (sym p) ∙ e))) (in-cons.0 j))
      (λ k. ⊎_elim (λ q. absurd (not-later a x xs h k (ap g (sym q) ∙ sym e))) (λ l. apart-determined xs rest k l e) (in-cons.0 j))
      (in-cons.0 i)

  -- a list that rises has no two of the same
  rising-apart : (xs : List A) → rising (map g xs) ≡ true → apart xs ≡ true
  rising-apart [] h = refl
  rising-apart (x ∷ xs) h =
      let r = (rising-map g x xs).0 h in
      let others : (y : A) → y ∈ xs → same (g x) (g y) ≡ false =
      λ y i. (fails (same (g x) (g y))).1 (λ e. before-irreflexive (g x) (ap (before (g x)) ((same-list (g x) (g y)).0 e) ∙ r.0 y i)) in
      simp (both, all-members, not_so) (others, rising-apart xs r.1)

  pub rising-map-determines : (xs : List A) → rising (map g xs) ≡ true → (x y : A) → x ∈ xs → y ∈ xs → g x ≡ g y → x ≡ y
  rising-map-determines xs h x y i j e = apart-determined xs (rising-apart xs h) i j e

  -- and finds it
  module _ (q : A → Bool) (xs : List A) (h : apart xs ≡ true) where
    abbrev here : A → A → Bool
    here x y = same (g y) (g x) && q y

    found_here : (x : A) → x ∈ xs → q x ≡ true → (o : Option A) → find (here x) xs ≡ o → o ≡ Some x
    found_here x i e None f =
        absurd (false≢true (sym ((finds-none (here x) xs).0 f x i) ∙ (both (same (g x) (g x)) (q x)).1 ((same-list (g x) (g x)).1 refl, e)))
    found_here x i e (Some y) f =
        let r = found-member (here x) xs f in
        ap Some (apart-determined xs h r.0 i ((same-list (g y) (g x)).0 ((both (same (g y) (g x)) (q y)).0 r.1).0))

    pub apart-find : {x : A} → x ∈ xs → q x ≡ true → find (λ y. same (g y) (g x) && q y) xs ≡ Some x
    apart-find {x} i e = found_here x i e (find (here x) xs) refl
