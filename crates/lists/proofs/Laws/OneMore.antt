-- Lists with one member more at the end: what they are, their last member, that they rise, and that a relation holds of no two members.
-- By induction on the list; what is said of two members, by where they stand.
use Rattle.std.specs.Prelude.{ℕ, zero, suc, ◌+◌, ◌<◌, ◌≡◌, refl, ◌↔◌, ◌⊎◌, Bool, true, false, length, take, set, None, Some, is_some, unwrap_or}
use Rattle.std.proofs.Common.{arith, add-one, ap, ap₂, ◌∙◌, sym, inl, inr, ⊎_elim, take-suc-set}
use Rattle.std.proofs.lemmas.Bool.{false≢true}
use mathlib.Core.List.Memᴰ
use mathlib.Core.List.{List, [], ◌∷◌, ◌++◌, map, map-append}
use Rattle.lists.specs.Lists.{◌∈◌, count_from, last_of}
use Rattle.lists.specs.Order.{before, rising}
use Rattle.lists.proofs.Laws.Lists.{fails, in-append, in_map}
use Rattle.lists.proofs.Laws.Order.{before-transitive, rising-append}

-- # Numbers from i on, and the first numbers of an array that gets one more
pub count-last : (i k : ℕ) → count_from i (suc k) ≡ count_from i k ++ ((i + k) ∷ [])
count-last i zero = let e : i ≡ i + 0 = omega arith in ap (λ (n : ℕ). n ∷ []) e
count-last i (suc k) =
    let e : suc i + k ≡ i + suc k = omega arith in
    ap (λ (l : List ℕ). i ∷ l) (count-last (suc i) k ∙ ap (λ (n : ℕ). count_from (suc i) k ++ (n ∷ [])) e)

pub stored_last : (keys : List ℕ) (count key : ℕ) → count < length keys → take (count + 1) (set keys count key) ≡ take count keys ++ (key ∷ [])
stored_last keys count key h = rw add-one (take-suc-set keys count key h)

-- # The last member
abbrev some-member : {A : Type 0} → List A → Bool
some-member [] = false
some-member (x ∷ xs) = true

module _ {A : Type 0} where
  pub no_last : (xs : List A) → last_of xs ≡ None → xs ≡ []
  no_last [] h = refl
  no_last (x ∷ []) h = absurd (false≢true (sym (ap is_some h)))
  no_last (x ∷ y ∷ xs) h = let none : y ∷ xs ≡ [] = no_last (y ∷ xs) h in absurd (false≢true (sym (ap some-member none)))

  pub last-split : (xs : List A) {x : A} → last_of xs ≡ Some x → (front : List A) × (xs ≡ front ++ (x ∷ []))
  last-split [] h = absurd (false≢true (ap is_some h))
  last-split (y ∷ []) {x} h = ([], ap (λ o. unwrap_or o x ∷ []) h)
  last-split (y ∷ z ∷ xs) h = let r = last-split (z ∷ xs) h in (y ∷ r.0, ap (λ (l : List A). y ∷ l) r.1)

  pub last-of-append : (xs : List A) (x : A) → last_of (xs ++ (x ∷ [])) ≡ Some x
  last-of-append [] x = refl
  last-of-append (y ∷ []) x = refl
  last-of-append (y ∷ z ∷ xs) x = last-of-append (z ∷ xs) x

-- # Rising
-- of members that rise, each stands before the last
pub rising-last : {A : Type 0} (f : A → List ℕ) (xs : List A) (x : A) → rising (map f (xs ++ (x ∷ []))) ≡ true
    → (y : A) → y ∈ xs → before (f y) (f x) ≡ true
rising-last f xs x h y i =
    ((rising-append (map f xs) (f x ∷ [])).0 (rw map-append at h)).2 (f y) (f x) ((in_map f xs).1 (y, i, refl)) (Memᴰ.head refl)

-- rows that rise go on rising with one that stands after the last
pub rising-after : (xs : List (List ℕ)) (x y : List ℕ) → rising (xs ++ (x ∷ [])) ≡ true → before x y ≡ true
    → rising ((xs ++ (x ∷ [])) ++ (y ∷ [])) ≡ true
rising-after xs x y h b =
    let r = (rising-append xs (x ∷ [])).0 h in
    let after : (u : List ℕ) → u ∈ (xs ++ (x ∷ [])) → before u y ≡ true =
    λ u i.
    ⊎_elim (λ k. before-transitive u x y (r.2 u x k (Memᴰ.head refl)) b) (λ k. ap (λ v. before v y) (Memᴰ.eq_of_singleton k) ∙ b)
    ((in-append xs (x ∷ [])).0 i) in
    (rising-append (xs ++ (x ∷ [])) (y ∷ [])).1 (h, refl, λ u v i j. ap (before u) (Memᴰ.eq_of_singleton j) ∙ after u i)

-- # No two of which a relation holds
-- where it holds of none with itself, and either way round
module _ {A : Type 0} (holds : A → A → Bool) (irreflexive : (x : A) → holds x x ≡ false)
    (symmetric : (x y : A) → holds x y ≡ true → holds y x ≡ true) where
  abbrev NoTwo : List A → Type 0
  NoTwo xs = (x y : A) → x ∈ xs → y ∈ xs → holds x y ≡ false

  -- with one more, it holds of no two exactly if it holds of none with that one
  pub no-two-with : (xs : List A) (x : A) → NoTwo xs → NoTwo (xs ++ (x ∷ [])) ↔ ((y : A) → y ∈ xs → holds y x ≡ false)
  no-two-with xs x h = (
    (λ k y i. k y x ((in-append xs (x ∷ [])).1 (inl i)) ((in-append xs (x ∷ [])).1 (inr (Memᴰ.head refl)))),
    λ k y z i j. go k y z ((in-append xs (x ∷ [])).0 i) ((in-append xs (x ∷ [])).0 j),
  )
    where
      go : ((y : A) → y ∈ xs → holds y x ≡ false) → (y z : A) → ((y ∈ xs) ⊎ (y ∈ (x ∷ []))) → ((z ∈ xs) ⊎ (z ∈ (x ∷ []))) → holds y z ≡ false
      go k y z (inl i) (inl j) = h y z i j
      go k y z (inl i) (inr j) = ap (holds y) (Memᴰ.eq_of_singleton j) ∙ k y i
      go k y z (inr i) (inl j) =
          ap (λ a. holds a z) (Memᴰ.eq_of_singleton i) ∙ (fails (holds x z)).1 (λ e. false≢true (sym (k z j) ∙ symmetric x z e))
      go k y z (inr i) (inr j) = ap₂ holds (Memᴰ.eq_of_singleton i) (Memᴰ.eq_of_singleton j) ∙ irreflexive x
