-- Tests on lists as statements on members, and the members of lists made from lists.
use Rattle.std.specs.Prelude.{ℕ, zero, suc, ◌+◌, ◌<◌, ◌≤◌, ◌≡◌, refl, ◌↔◌, ◌⊎◌, Bool, true, false, cond, not, ◌&&◌, ◌||◌, List, [], ◌∷◌, ◌++◌, map, length, take, eqb, ltb, leb, None, Some}
use Rattle.std.proofs.Common.{ap, ◌∙◌, sym, subst, inl, inr, ⊎_elim, le_refl, eq-or-lt_of_le, append_assoc, arith, ltb-true, leb-true, eqb-true, lt-ltb, le-leb, eq-eqb, ne_eqb}
use Rattle.std.proofs.lemmas.Bool.{false≢true, eqb-false}
use Rattle.std.proofs.Math.Bool.{and_assoc, or_assoc}
use mathlib.Core.List.Memᴰ
use Rattle.lists.specs.Lists.{◌∈◌, any, all, keep, find, each, sequences, count_from, member, same_set}

-- # Tests
pub both : (a b : Bool) → ((a && b) ≡ true) ↔ ((a ≡ true) × (b ≡ true))
both true b = ((λ h. (refl, h)), λ h. h.1)
both false b = ((λ h. (h, cc)), λ h. h.0)

pub one_of : (a b : Bool) → ((a || b) ≡ true) ↔ ((a ≡ true) ⊎ (b ≡ true))
one_of true b = ((λ h. inl refl), λ h. refl)
one_of false b = (inr, ⊎_elim (λ h. cc) (λ h. h))

pub neither : (a b : Bool) → ((a || b) ≡ false) ↔ ((a ≡ false) × (b ≡ false))
neither true b = ((λ h. (h, cc)), λ h. h.0)
neither false b = ((λ h. (refl, h)), λ h. h.1)

pub not_so : (a : Bool) → (not a ≡ true) ↔ (a ≡ false)
not_so true = ((λ h. sym h), λ h. sym h)
not_so false = ((λ h. refl), λ h. refl)

pub equals : (m n : ℕ) → (eqb m n ≡ true) ↔ (m ≡ n)
equals m n = (eqb-true m n, eq-eqb m n)

pub differs : (m n : ℕ) → (eqb m n ≡ false) ↔ (m ≡ n → ⊥)
differs m n = (eqb-false m n, ne_eqb m n)

pub less : (m n : ℕ) → (ltb m n ≡ true) ↔ (m < n)
less m n = (ltb-true m n, lt-ltb m n)

pub at_most : (m n : ℕ) → (leb m n ≡ true) ↔ (m ≤ n)
at_most m n = (leb-true m n, le-leb m n)

module _ {A : Type 0} (p : A → Bool) where
  pub any-member : (xs : List A) → (any p xs ≡ true) ↔ ((x : A) × (x ∈ xs) × (p x ≡ true))
  any-member [] = ((λ h. absurd (false≢true h)), λ h. absurd (Memᴰ.not-nil h.1))
  any-member (y ∷ xs) = (
    (λ h.
        ⊎_elim (λ e. (y, Memᴰ.head refl, e)) (λ e. let r = (any-member xs).0 e in (r.0, Memᴰ.tail r.1, r.2))
        ((one_of (p y) (any p xs)).0 h)),
    λ h.
        (one_of (p y) (any p xs)).1
        (⊎_elim (λ e. inl (ap p (sym e) ∙ h.2)) (λ i. inr ((any-member xs).1 (h.0, i, h.2))) (Memᴰ.cases_cons h.1)),
  )

  pub all-members : (xs : List A) → (all p xs ≡ true) ↔ ((x : A) → x ∈ xs → p x ≡ true)
  all-members [] = ((λ h x i. absurd (Memᴰ.not-nil i)), λ h. refl)
  all-members (y ∷ xs) = (
    (λ h x i.
        ⊎_elim (λ e. ap p e ∙ ((both (p y) (all p xs)).0 h).0) (λ j. (all-members xs).0 ((both (p y) (all p xs)).0 h).1 x j)
        (Memᴰ.cases_cons i)),
    λ h. (both (p y) (all p xs)).1 (h y (Memᴰ.head refl), (all-members xs).1 (λ x i. h x (Memᴰ.tail i))),
  )

  pub no_member : (xs : List A) → (any p xs ≡ false) ↔ ((x : A) → x ∈ xs → p x ≡ false)
  no_member [] = ((λ h x i. absurd (Memᴰ.not-nil i)), λ h. refl)
  no_member (y ∷ xs) = (
    (λ h x i.
        ⊎_elim (λ e. ap p e ∙ ((neither (p y) (any p xs)).0 h).0) (λ j. (no_member xs).0 ((neither (p y) (any p xs)).0 h).1 x j)
        (Memᴰ.cases_cons i)),
    λ h. (neither (p y) (any p xs)).1 (h y (Memᴰ.head refl), (no_member xs).1 (λ x i. h x (Memᴰ.tail i))),
  )

pub ruleset Truth = (both, not_so, equals, differs, less, at_most, any-member, all-members, no_member)

-- # Members of lists made from lists
module _ {A : Type 0} where
  pub in-cons : {x y : A} {ys : List A} → (x ∈ (y ∷ ys)) ↔ ((x ≡ y) ⊎ (x ∈ ys))
  in-cons = (Memᴰ.cases_cons, ⊎_elim Memᴰ.head Memᴰ.tail)

  pub in-append : {x : A} (xs ys : List A) → (x ∈ (xs ++ ys)) ↔ ((x ∈ xs) ⊎ (x ∈ ys))
  in-append xs ys = (Memᴰ.append_cases xs, ⊎_elim (Memᴰ.append_left ys) (Memᴰ.append_right xs))

  -- a member of a list that goes on where a test holds
  in-if : {x y : A} (xs : List A) (t : Bool) → (x ∈ cond t (y ∷ xs) xs) ↔ (((x ≡ y) × (t ≡ true)) ⊎ (x ∈ xs))
  in-if xs true = ((λ h. ⊎_elim (λ e. inl (e, refl)) inr (in-cons.0 h)), ⊎_elim (λ h. Memᴰ.head h.0) Memᴰ.tail)
  in-if xs false = (inr, ⊎_elim (λ h. absurd (false≢true h.1)) (λ h. h))

  pub in-keep : {x : A} (p : A → Bool) (xs : List A) → (x ∈ keep p xs) ↔ ((x ∈ xs) × (p x ≡ true))
  in-keep p [] = ((λ h. absurd (Memᴰ.not-nil h)), λ h. h.0)
  in-keep {x} p (y ∷ xs) = (
    (λ h.
        ⊎_elim (λ e. (Memᴰ.head e.0, ap p e.0 ∙ e.1)) (λ i. let r = (in-keep p xs).0 i in (Memᴰ.tail r.0, r.1))
        ((in-if (keep p xs) (p y)).0 h)),
    λ h. (in-if (keep p xs) (p y)).1 (⊎_elim (λ e. inl (e, ap p (sym e) ∙ h.1)) (λ i. inr ((in-keep p xs).1 (i, h.1))) (in-cons.0 h.0)),
  )

  pub in_take : {x : A} (n : ℕ) (xs : List A) → x ∈ take n xs → x ∈ xs
  in_take zero xs h = absurd (Memᴰ.not-nil h)
  in_take (suc n) [] h = absurd (Memᴰ.not-nil h)
  in_take (suc n) (y ∷ xs) h = ⊎_elim Memᴰ.head (λ i. Memᴰ.tail (in_take n xs i)) (in-cons.0 h)

module _ {A B : Type 0} where
  pub map-take : (f : A → B) (n : ℕ) (xs : List A) → map f (take n xs) ≡ take n (map f xs)
  map-take f zero xs = refl
  map-take f (suc n) [] = refl
  map-take f (suc n) (x ∷ xs) = ap (λ (l : List B). f x ∷ l) (map-take f n xs)

  pub in_map : {y : B} (f : A → B) (xs : List A) → (y ∈ map f xs) ↔ ((x : A) × (x ∈ xs) × (y ≡ f x))
  in_map f [] = ((λ h. absurd (Memᴰ.not-nil h)), λ h. absurd (Memᴰ.not-nil h.1))
  in_map f (a ∷ xs) = (
    (λ h. ⊎_elim (λ e. (a, Memᴰ.head refl, e)) (λ i. let r = (in_map f xs).0 i in (r.0, Memᴰ.tail r.1, r.2)) (in-cons.0 h)),
    λ h. ⊎_elim (λ e. Memᴰ.head (h.2 ∙ ap f e)) (λ i. Memᴰ.tail ((in_map f xs).1 (h.0, i, h.2))) (in-cons.0 h.1),
  )

  pub in-each : {y : B} (xs : List A) (f : A → List B) → (y ∈ each xs f) ↔ ((x : A) × (x ∈ xs) × (y ∈ f x))
  in-each [] f = ((λ h. absurd (Memᴰ.not-nil h)), λ h. absurd (Memᴰ.not-nil h.1))
  in-each {y} (a ∷ xs) f = (
    (λ h.
        ⊎_elim (λ i. (a, Memᴰ.head refl, i)) (λ i. let r = (in-each xs f).0 i in (r.0, Memᴰ.tail r.1, r.2))
        ((in-append (f a) (each xs f)).0 h)),
    λ h.
        (in-append (f a) (each xs f)).1
        (⊎_elim (λ e. inl (subst (λ (z : A). y ∈ f z) e h.2)) (λ i. inr ((in-each xs f).1 (h.0, i, h.2))) (in-cons.0 h.1)),
  )

pub in-numbers : (xs : List ℕ) (n : ℕ) → (member xs n ≡ true) ↔ (n ∈ xs)
in-numbers xs n = (
  (λ h. let r = (any-member (eqb n) xs).0 h in Memᴰ.cast (eqb-true n r.0 r.2) r.1),
  λ h. (any-member (eqb n) xs).1 (n, h, eq-eqb n n refl),
)

-- the lists of k members of xs
module _ {A : Type 0} (xs : List A) where
  from-sequences : (k : ℕ) (l : List A) → l ∈ sequences k xs → (length l ≡ k) × ((x : A) → x ∈ l → x ∈ xs)
  from-sequences zero l h =
      let e : l ≡ [] = Memᴰ.eq_of_singleton h in
      (ap length e, λ x i. absurd (Memᴰ.not-nil (subst (λ (m : List A). x ∈ m) e i)))
  from-sequences (suc k) l h =
      let r = (in-each xs (λ x. map (λ m. x ∷ m) (sequences k xs))).0 h in
      let q = (in_map (λ m. r.0 ∷ m) (sequences k xs)).0 r.2 in
      let more = from-sequences k q.0 q.1 in
      (ap length q.2 ∙ ap suc more.0, λ x i. ⊎_elim (λ e. Memᴰ.cast e r.1) (more.1 x) (in-cons.0 (subst (λ (m : List A). x ∈ m) q.2 i)))

  to-sequences : (k : ℕ) (l : List A) → length l ≡ k → ((x : A) → x ∈ l → x ∈ xs) → l ∈ sequences k xs
  to-sequences zero [] e h = Memᴰ.head refl
  to-sequences zero (x ∷ l) e h = absurd (omega arith)
  to-sequences (suc k) [] e h = absurd (omega arith)
  to-sequences (suc k) (x ∷ l) e h =
      (in-each xs (λ y. map (λ m. y ∷ m) (sequences k xs))).1 (
        x,
        h x (Memᴰ.head refl),
        (in_map (λ m. x ∷ m) (sequences k xs)).1 (l, to-sequences k l (omega arith) (λ y i. h y (Memᴰ.tail i)), refl),
      )

  pub in-sequences : (k : ℕ) (l : List A) → (l ∈ sequences k xs) ↔ ((length l ≡ k) × ((x : A) → x ∈ l → x ∈ xs))
  in-sequences k l = (from-sequences k l, λ h. to-sequences k l h.0 h.1)

-- # Tests and lists made from lists
module _ {A : Type 0} (p : A → Bool) where
  pub any_append : (xs ys : List A) → any p (xs ++ ys) ≡ (any p xs || any p ys)
  any_append [] ys = refl
  any_append (x ∷ xs) ys = rw (any_append xs ys) (sym (or_assoc (p x) (any p xs) (any p ys)))

  pub all_append : (xs ys : List A) → all p (xs ++ ys) ≡ (all p xs && all p ys)
  all_append [] ys = refl
  all_append (x ∷ xs) ys = rw (all_append xs ys) (sym (and_assoc (p x) (all p xs) (all p ys)))

  keep-append-by : (x : A) (t : Bool) (l r s : List A) → l ≡ r ++ s → cond t (x ∷ l) l ≡ cond t (x ∷ r) r ++ s
  keep-append-by x true l r s e = ap (λ (k : List A). x ∷ k) e
  keep-append-by x false l r s e = e

  pub keep_append : (xs ys : List A) → keep p (xs ++ ys) ≡ keep p xs ++ keep p ys
  keep_append [] ys = refl
  keep_append (x ∷ xs) ys = keep-append-by x (p x) (keep p (xs ++ ys)) (keep p xs) (keep p ys) (keep_append xs ys)

  pub keep_all : (xs : List A) → ((x : A) → x ∈ xs → p x ≡ true) → keep p xs ≡ xs
  keep_all [] h = refl
  keep_all (x ∷ xs) h = rw (h x (Memᴰ.head refl)) (ap (λ (l : List A). x ∷ l) (keep_all xs (λ y i. h y (Memᴰ.tail i))))

  pub keep-none : (xs : List A) → ((x : A) → x ∈ xs → p x ≡ false) → keep p xs ≡ []
  keep-none [] h = refl
  keep-none (x ∷ xs) h = rw (h x (Memᴰ.head refl)) (keep-none xs (λ y i. h y (Memᴰ.tail i)))

  pub keep-length : (xs : List A) → length (keep p xs) ≤ length xs
  keep-length [] = le_refl 0
  keep-length (x ∷ xs) = go (p x) (keep-length xs)
    where
      go : (t : Bool) → length (keep p xs) ≤ length xs → length (cond t (x ∷ keep p xs) (keep p xs)) ≤ suc (length xs)
      go true h = omega arith
      go false h = omega arith

  -- `find` finds x: the list has x, which passes, and none before it does
  pub record Finds (xs : List A) (x : A) : Type 0 where
    pub front : List A
    pub back : List A
    pub split : xs ≡ front ++ x ∷ back
    pub passes : p x ≡ true
    pub before : (y : A) → y ∈ front → p y ≡ false

  pub finds : (xs : List A) {x : A} → find p xs ≡ Some x → Finds xs x
  finds [] h = let z : ◌≡◌ {A = ℕ} 0 1 = cc in absurd (omega arith)
  finds (y ∷ xs) {x} h = go (p y) refl (finds xs) h
    where
      go : (t : Bool) → p y ≡ t → (find p xs ≡ Some x → Finds xs x) → cond t (Some y) (find p xs) ≡ Some x → Finds (y ∷ xs) x
      go true e more g = record { front = []; back = xs; split = cc; passes = cc; before = λ z i. absurd (Memᴰ.not-nil i) }
      go false e more g =
          let r = more g in
          record {
            front = y ∷ r.front;
            back = r.back;
            split = ap (λ (l : List A). y ∷ l) r.split;
            passes = r.passes;
            before = λ z i. ⊎_elim (λ q. ap p q ∙ e) (r.before z) (in-cons.0 i);
          }

  pub finds-none : (xs : List A) → (find p xs ≡ None) ↔ ((x : A) → x ∈ xs → p x ≡ false)
  finds-none [] = ((λ h x i. absurd (Memᴰ.not-nil i)), λ h. refl)
  finds-none (y ∷ xs) = (
    (λ h x i. go (p y) refl h x i (finds-none xs).0),
    λ h. rw (h y (Memᴰ.head refl)) ((finds-none xs).1 (λ x i. h x (Memᴰ.tail i))),
  )
    where
      go : (t : Bool) → p y ≡ t → cond t (Some y) (find p xs) ≡ None → (x : A) → x ∈ (y ∷ xs)
          → (find p xs ≡ None → (z : A) → z ∈ xs → p z ≡ false) → p x ≡ false
      go true e g x i more = cc
      go false e g x i more = ⊎_elim (λ q. ap p q ∙ e) (more g x) (in-cons.0 i)

-- what is found in the first of two lists, or in the second
module _ {A : Type 0} (p : A → Bool) where
  pub find_first : (xs ys : List A) {x : A} → find p xs ≡ Some x → find p (xs ++ ys) ≡ Some x
  find_first [] ys e = let z : ◌≡◌ {A = ℕ} 0 1 = cc in absurd (omega arith)
  find_first (y ∷ xs) ys {x} e = go (p y) (find_first xs ys) e
    where
      go : (t : Bool) → (find p xs ≡ Some x → find p (xs ++ ys) ≡ Some x) → cond t (Some y) (find p xs) ≡ Some x
          → cond t (Some y) (find p (xs ++ ys)) ≡ Some x
      go true f q = q
      go false f q = f q

  pub find-later : (xs ys : List A) → find p xs ≡ None → find p (xs ++ ys) ≡ find p ys
  find-later [] ys e = refl
  find-later (y ∷ xs) ys e = go (p y) (find-later xs ys) e
    where
      go : (t : Bool) → (find p xs ≡ None → find p (xs ++ ys) ≡ find p ys) → cond t (Some y) (find p xs) ≡ None
          → cond t (Some y) (find p (xs ++ ys)) ≡ find p ys
      go true f q = let z : ◌≡◌ {A = ℕ} 0 1 = cc in absurd (omega arith)
      go false f q = f q

-- those that pass one test, of those that pass another
pub keep-keep : {A : Type 0} (p q : A → Bool) (xs : List A) → keep p (keep q xs) ≡ keep (λ x. q x && p x) xs
keep-keep p q [] = refl
keep-keep {A} p q (x ∷ xs) = go (q x) (keep-keep p q xs)
  where
    go : (t : Bool) → keep p (keep q xs) ≡ keep (λ x. q x && p x) xs
        → keep p (cond t (x ∷ keep q xs) (keep q xs)) ≡ cond (t && p x) (x ∷ keep (λ x. q x && p x) xs) (keep (λ x. q x && p x) xs)
    go true e = ap (λ (l : List A). cond (p x) (x ∷ l) l) e
    go false e = e

-- all that are kept pass: each passes that is kept
pub all-kept : {A : Type 0} (p q : A → Bool) (xs : List A) → all p (keep q xs) ≡ all (λ x. cond (q x) (p x) true) xs
all-kept p q [] = refl
all-kept p q (x ∷ xs) = go (q x) (all-kept p q xs)
  where
    go : (t : Bool) → all p (keep q xs) ≡ all (λ y. cond (q y) (p y) true) xs
        → all p (cond t (x ∷ keep q xs) (keep q xs)) ≡ (cond t (p x) true && all (λ y. cond (q y) (p y) true) xs)
    go true e = ap (λ b. p x && b) e
    go false e = e

module _ {A B : Type 0} (f : A → B) where
  pub keep-map : (p : B → Bool) (xs : List A) → keep p (map f xs) ≡ map f (keep (λ x. p (f x)) xs)
  keep-map p [] = refl
  keep-map p (x ∷ xs) = rw (keep-map p xs) (go (p (f x)) (keep (λ y. p (f y)) xs))
    where
      go : (t : Bool) (l : List A) → cond t (f x ∷ map f l) (map f l) ≡ map f (cond t (x ∷ l) l)
      go true l = refl
      go false l = refl

pub each_append : {A B : Type 0} (xs ys : List A) (f : A → List B) → each (xs ++ ys) f ≡ each xs f ++ each ys f
each_append [] ys f = refl
each_append (x ∷ xs) ys f = rw (each_append xs ys f) (sym (append_assoc (f x) (each xs f) (each ys f)))

-- a test fails exactly if it can't hold
pub fails : (t : Bool) → (t ≡ false) ↔ (t ≡ true → ⊥)
fails true = ((λ h. absurd (false≢true (sym h))), λ h. absurd (h refl))
fails false = ((λ h. false≢true), λ h. refl)

pub in_count : (i k n : ℕ) → (n ∈ count_from i k) ↔ ((i ≤ n) × (n < i + k))
in_count i zero n = ((λ h. absurd (Memᴰ.not-nil h)), λ h. absurd (omega arith))
in_count i (suc k) n = (
  (λ h. ⊎_elim (λ (e : n ≡ i). (omega arith, omega arith)) (λ j. let r = (in_count (suc i) k n).0 j in (omega arith, omega arith)) (in-cons.0 h)),
  λ h. in-cons.1 (⊎_elim (λ e. inl (sym e)) (λ l. inr ((in_count (suc i) k n).1 (l, omega arith))) (eq-or-lt_of_le h.0)),
)

-- the members that pass and those that don't are all of them
pub keep-split : {A : Type 0} (p : A → Bool) (xs : List A) → length xs ≡ length (keep p xs) + length (keep (λ x. not (p x)) xs)
keep-split p [] = refl
keep-split {A} p (x ∷ xs) = go (p x) (keep p xs) (keep (λ y. not (p y)) xs) (keep-split p xs)
  where
    go : (t : Bool) (l r : List A) → length xs ≡ length l + length r → suc (length xs) ≡ length (cond t (x ∷ l) l) + length (cond (not t) (x ∷ r) r)
    go true l r h = omega arith
    go false l r h = omega arith

-- # Tests that hold together
pub same_truth : (a b : Bool) → (a ≡ true) ↔ (b ≡ true) → a ≡ b
same_truth true b h = sym (h.0 refl)
same_truth false true h = h.1 refl
same_truth false false h = refl

pub eqb-symmetric : (m n : ℕ) → eqb m n ≡ eqb n m
eqb-symmetric m n = same_truth (eqb m n) (eqb n m) ((λ h. eq-eqb n m (sym (eqb-true m n h))), λ h. eq-eqb m n (sym (eqb-true n m h)))

pub same_set_lem : (xs ys : List ℕ) → (same_set xs ys ≡ true) ↔ ((i : ℕ) → (i ∈ xs) ↔ (i ∈ ys))
same_set_lem xs ys = (
  (λ h i.
      let r = (both (all (member ys) xs) (all (member xs) ys)).0 h in (
        (λ j. (in-numbers ys i).0 ((all-members (member ys) xs).0 r.0 i j)),
        λ j. (in-numbers xs i).0 ((all-members (member xs) ys).0 r.1 i j),
      )),
  λ h.
      (both (all (member ys) xs) (all (member xs) ys)).1 (
        (all-members (member ys) xs).1 (λ i j. (in-numbers ys i).1 ((h i).0 j)),
        (all-members (member xs) ys).1 (λ i j. (in-numbers xs i).1 ((h i).1 j)),
      ),
)
