-- The order of lists of numbers is a strict total order; what rises, and that a rising list is determined by its members.
use Rattle.std.specs.Prelude.{ℕ, zero, suc, ◌<◌, ◌≡◌, refl, ◌↔◌, ◌⊎◌, Bool, true, false, cond, ◌&&◌, ◌||◌, List, [], ◌∷◌, ◌++◌, map, eqb, ltb, Option, None, Some}
use Rattle.std.proofs.Common.{arith, ap, ap₂, ◌∙◌, sym, inl, inr, ⊎_elim, map-id, lt-ltb, eq-eqb, ltb-true, ltb-false, eqb-true}
use Rattle.std.proofs.lemmas.Bool.{false≢true, eqb-false}
use mathlib.Core.List.Memᴰ
use Rattle.std.proofs.lemmas.List.{map-append}
use Rattle.lists.specs.Lists.{◌∈◌, any, keep, find, each, sequences, count_from}
use Rattle.lists.specs.Order.{same, before, rising, Smallest}
use Rattle.lists.proofs.Laws.Lists.{both, one_of, Truth, any-member, in-cons, in-append, in-keep, in_map, in-each, in_count}
use Rattle.lists.proofs.Laws.Lists.{same_truth, fails, finds, finds-none}

-- # The same list
pub same-list : (xs ys : List ℕ) → (same xs ys ≡ true) ↔ (xs ≡ ys)
same-list [] [] = ((λ h. refl), λ h. refl)
same-list [] (y ∷ ys) = ((λ h. cc), λ h. cc)
same-list (x ∷ xs) [] = ((λ h. cc), λ h. cc)
same-list (x ∷ xs) (y ∷ ys) = (
  (λ h. let r = (both (eqb x y) (same xs ys)).0 h in ap₂ ◌∷◌ (eqb-true x y r.0) ((same-list xs ys).0 r.1)),
  λ h. (both (eqb x y) (same xs ys)).1 (eq-eqb x y (cc), (same-list xs ys).1 (cc)),
)

-- # The order
-- by a first number, and where that is the same, by a further test
pub lexicographic : (m n : ℕ) (b : Bool) → ((ltb m n || eqb m n && b) ≡ true) ↔ ((m < n) ⊎ ((m ≡ n) × (b ≡ true)))
lexicographic m n b = (
  (λ h.
      ⊎_elim (λ l. inl (ltb-true m n l)) (λ r. let q = (both (eqb m n) b).0 r in inr (eqb-true m n q.0, q.1))
      ((one_of (ltb m n) (eqb m n && b)).0 h)),
  λ h. (one_of (ltb m n) (eqb m n && b)).1 (⊎_elim (λ l. inl (lt-ltb m n l)) (λ r. inr ((both (eqb m n) b).1 (eq-eqb m n r.0, r.1))) h),
)

pub before-cons : (x y : ℕ) (xs ys : List ℕ)
    → (before (x ∷ xs) (y ∷ ys) ≡ true) ↔ ((x < y) ⊎ ((x ≡ y) × (before xs ys ≡ true)))
before-cons x y xs ys = lexicographic x y (before xs ys)

pub before-number : (a b : ℕ) → before (a ∷ []) (b ∷ []) ≡ ltb a b
before-number a b = same_truth (before (a ∷ []) (b ∷ [])) (ltb a b) (
  (λ h. lt-ltb a b (⊎_elim (λ l. l) (λ r. absurd (false≢true r.1)) ((before-cons a b [] []).0 h))),
  λ h. (before-cons a b [] []).1 (inl (ltb-true a b h)),
)

pub before-heads : (x y : ℕ) (xs ys : List ℕ) → before (x ∷ []) (y ∷ []) ≡ true → before (x ∷ xs) (y ∷ ys) ≡ true
before-heads x y xs ys h = (before-cons x y xs ys).1 (⊎_elim inl (λ r. absurd (false≢true r.1)) ((before-cons x y [] []).0 h))

pub before-append : (xs ys zs : List ℕ) → before ys zs ≡ true → before (xs ++ ys) (xs ++ zs) ≡ true
before-append [] ys zs h = h
before-append (x ∷ xs) ys zs h = (before-cons x x (xs ++ ys) (xs ++ zs)).1 (inr (refl, before-append xs ys zs h))

pub before-irreflexive : (xs : List ℕ) → before xs xs ≡ true → ⊥
before-irreflexive [] h = false≢true h
before-irreflexive (x ∷ xs) h = ⊎_elim (λ l. omega arith) (λ r. before-irreflexive xs r.1) ((before-cons x x xs xs).0 h)

pub before-transitive : (xs ys zs : List ℕ) → before xs ys ≡ true → before ys zs ≡ true → before xs zs ≡ true
before-transitive [] [] zs h k = absurd (false≢true h)
before-transitive [] (y ∷ ys) [] h k = absurd (false≢true k)
before-transitive [] (y ∷ ys) (z ∷ zs) h k = refl
before-transitive (x ∷ xs) [] zs h k = absurd (false≢true h)
before-transitive (x ∷ xs) (y ∷ ys) [] h k = absurd (false≢true k)
before-transitive (x ∷ xs) (y ∷ ys) (z ∷ zs) h k =
    (before-cons x z xs zs).1
    (⊎_elim
    (λ l. ⊎_elim (λ m. inl (omega arith)) (λ r. inl (let e = r.0 in omega arith)) ((before-cons y z ys zs).0 k))
    (λ r.
    let e = r.0 in
    ⊎_elim (λ m. inl (omega arith)) (λ q. inr (r.0 ∙ q.0, before-transitive xs ys zs r.1 q.1)) ((before-cons y z ys zs).0 k))
    ((before-cons x y xs ys).0 h))

before-asymmetric : (xs ys : List ℕ) → before xs ys ≡ true → before ys xs ≡ false
before-asymmetric xs ys h = go (before ys xs) refl
  where
    go : (t : Bool) → before ys xs ≡ t → t ≡ false
    go true e = absurd (before-irreflexive xs (before-transitive xs ys xs h e))
    go false e = refl

pub before-total : (xs ys : List ℕ) → before xs ys ≡ false → same xs ys ≡ false → before ys xs ≡ true
before-total [] [] h k = sym k
before-total [] (y ∷ ys) h k = absurd (false≢true (sym h))
before-total (x ∷ xs) [] h k = refl
before-total (x ∷ xs) (y ∷ ys) h k = go (ltb x y) (eqb x y) refl refl h k (before-total xs ys)
  where
    go : (t e : Bool) → ltb x y ≡ t → eqb x y ≡ e → (t || e && before xs ys) ≡ false → (e && same xs ys) ≡ false
        → (before xs ys ≡ false → same xs ys ≡ false → before ys xs ≡ true) → before (y ∷ ys) (x ∷ xs) ≡ true
    go true e p q h k more = absurd (false≢true (sym h))
    go false true p q h k more = (before-cons y x ys xs).1 (inr (sym (eqb-true x y q), more h k))
    go false false p q h k more =
        let l = ltb-false x y p in
        let d = eqb-false x y q in
        (before-cons y x ys xs).1 (inl (omega arith))

-- # Rising lists
pub rising-cons : (x : List ℕ) (xs : List (List ℕ)) → (rising (x ∷ xs) ≡ true) ↔ (((y : List ℕ) → y ∈ xs → before x y ≡ true) × (rising xs ≡ true))
rising-cons x xs = ((λ h. simp Truth at h), λ h. simp Truth h)

pub rising-append : (xs ys : List (List ℕ))
    → (rising (xs ++ ys) ≡ true) ↔ ((rising xs ≡ true) × (rising ys ≡ true) × ((x y : List ℕ) → x ∈ xs → y ∈ ys → before x y ≡ true))
rising-append [] ys = ((λ h. (refl, h, λ x y i j. absurd (Memᴰ.not-nil i))), λ h. h.1)
rising-append (a ∷ xs) ys = (
  (λ h.
      let r = (rising-cons a (xs ++ ys)).0 h in
      let q = (rising-append xs ys).0 r.1 in (
        (rising-cons a xs).1 ((λ y i. r.0 y ((in-append xs ys).1 (inl i))), q.0),
        q.1,
        λ x y i j. ⊎_elim (λ e. ap (λ (z : List ℕ). before z y) e ∙ r.0 y ((in-append xs ys).1 (inr j))) (λ k. q.2 x y k j) (in-cons.0 i),
      )),
  λ h.
      let r = (rising-cons a xs).0 h.0 in
      (rising-cons a (xs ++ ys)).1 (
        (λ y i. ⊎_elim (r.0 y) (h.2 a y (Memᴰ.head refl)) ((in-append xs ys).0 i)),
        (rising-append xs ys).1 (r.1, h.1, λ x y i j. h.2 x y (Memᴰ.tail i) j),
      ),
)

-- # Rising by what a function makes of each member
module _ {A : Type 0} (f : A → List ℕ) where
  pub rising-map : (x : A) (xs : List A)
      → (rising (map f (x ∷ xs)) ≡ true) ↔ (((y : A) → y ∈ xs → before (f x) (f y) ≡ true) × (rising (map f xs) ≡ true))
  rising-map x xs = (
    (λ h. let r = (rising-cons (f x) (map f xs)).0 h in ((λ y i. r.0 (f y) ((in_map f xs).1 (y, i, refl))), r.1)),
    λ h.
        (rising-cons (f x) (map f xs)).1 (
          (λ z i. let q = (in_map f xs).0 i in ap (before (f x)) q.2 ∙ h.0 q.0 q.1),
          h.1,
        ),
  )

  pub rising-map-keep : (p : A → Bool) (xs : List A) → rising (map f xs) ≡ true → rising (map f (keep p xs)) ≡ true
  rising-map-keep p [] h = refl
  rising-map-keep p (x ∷ xs) h = let r = (rising-map x xs).0 h in go (p x) r.0 (rising-map-keep p xs r.1)
    where
      go : (t : Bool) → ((y : A) → y ∈ xs → before (f x) (f y) ≡ true) → rising (map f (keep p xs)) ≡ true
          → rising (map f (cond t (x ∷ keep p xs) (keep p xs))) ≡ true
      go true a r = (rising-map x (keep p xs)).1 ((λ y i. a y ((in-keep p xs).0 i).0), r)
      go false a r = r

-- what rises by f rises by g, where g follows f
pub rising-map-by : {A : Type 0} (f g : A → List ℕ) → ((x y : A) → before (f x) (f y) ≡ true → before (g x) (g y) ≡ true)
    → (xs : List A) → rising (map f xs) ≡ true → rising (map g xs) ≡ true
rising-map-by f g o [] h = refl
rising-map-by f g o (x ∷ xs) h =
    let r = (rising-map f x xs).0 h in
    (rising-map g x xs).1 ((λ y i. o x y (r.0 y i)), rising-map-by f g o xs r.1)

pub rising-keep : (p : List ℕ → Bool) (xs : List (List ℕ)) → rising xs ≡ true → rising (keep p xs) ≡ true
rising-keep p xs h = rw map-id at (rising-map-keep (λ x. x) p xs (rw map-id h))

-- # What a rising list is determined by
-- two rising lists with the same members are one list
pub rising-determined : (xs ys : List (List ℕ)) → rising xs ≡ true → rising ys ≡ true
    → ((z : List ℕ) → z ∈ xs → z ∈ ys) → ((z : List ℕ) → z ∈ ys → z ∈ xs) → xs ≡ ys
rising-determined [] [] r q f g = refl
rising-determined [] (y ∷ ys) r q f g = absurd (Memᴰ.not-nil (g y (Memᴰ.head refl)))
rising-determined (x ∷ xs) [] r q f g = absurd (Memᴰ.not-nil (f x (Memᴰ.head refl)))
rising-determined (x ∷ xs) (y ∷ ys) r q f g =
    let a = (rising-cons x xs).0 r in
    let b = (rising-cons y ys).0 q in
    let apart : x ∈ ys → y ∈ xs → ⊥ = λ i j. before-irreflexive x (before-transitive x y x (a.0 y j) (b.0 x i)) in
    let e : x ≡ y =
    ⊎_elim (λ e. e) (λ i. ⊎_elim sym (λ j. absurd (apart i j)) (in-cons.0 (g y (Memᴰ.head refl)))) (in-cons.0 (f x (Memᴰ.head refl))) in
    ap₂ ◌∷◌ e (rising-determined xs ys a.1 b.1
    (λ z i. ⊎_elim (λ k. absurd (before-irreflexive x (ap (before x) (e ∙ sym k) ∙ a.0 z i))) (λ k. k) (in-cons.0 (f z (Memᴰ.tail i))))
    (λ z i. ⊎_elim (λ k. absurd (before-irreflexive y (ap (before y) (sym e ∙ sym k) ∙ b.0 z i))) (λ k. k) (in-cons.0 (g z (Memᴰ.tail i)))))

-- in a rising list a member stands once
pub rising-once : (x : List ℕ) (xs : List (List ℕ)) → rising xs ≡ true → x ∈ xs → keep (same x) xs ≡ x ∷ []
rising-once x xs r i =
    rising-determined (keep (same x) xs) (x ∷ []) (rising-keep (same x) xs r) refl
    (λ z j. let k = (in-keep (same x) xs).0 j in Memᴰ.head (sym ((same-list x z).0 k.1)))
    (λ z j. (in-keep (same x) xs).1 (⊎_elim (λ e. (Memᴰ.cast e i, (same-list x z).1 (sym e))) (λ k. absurd (Memᴰ.not-nil k)) (in-cons.0 j)))

-- # Lists that rise
pub rising-heads : (x : ℕ) (xs : List (List ℕ)) → rising xs ≡ true → rising (map (λ l. x ∷ l) xs) ≡ true
rising-heads x xs h = rising-map-by (λ l. l) (λ l. x ∷ l) (λ l m b. (before-cons x x l m).1 (inr (refl, b))) xs (rw map-id h)

-- what members that rise by f make, where it rises and follows them
pub rising-each : {A : Type 0} (f : A → List ℕ) (g : A → List (List ℕ)) → ((x : A) → rising (g x) ≡ true)
    → ((x y : A) (u v : List ℕ) → before (f x) (f y) ≡ true → u ∈ g x → v ∈ g y → before u v ≡ true)
    → (xs : List A) → rising (map f xs) ≡ true → rising (each xs g) ≡ true
rising-each f g a b [] h = refl
rising-each f g a b (x ∷ xs) h =
    let r = (rising-map f x xs).0 h in
    (rising-append (g x) (each xs g)).1 (
      a x,
      rising-each f g a b xs r.1,
      λ u v i j. let q = (in-each xs g).0 j in b x q.0 u v (r.0 q.0 q.1) i q.2,
    )

pub rising-sequences : (k : ℕ) (xs : List ℕ) → rising (map (λ n. n ∷ []) xs) ≡ true → rising (sequences k xs) ≡ true
rising-sequences zero xs h = refl
rising-sequences (suc k) xs h =
    rising-each (λ n. n ∷ []) (λ x. map (λ l. x ∷ l) (sequences k xs)) (λ x. rising-heads x (sequences k xs) (rising-sequences k xs h))
    (λ x y u v l i j.
    let a = (in_map (λ m. x ∷ m) (sequences k xs)).0 i in
    let b = (in_map (λ m. y ∷ m) (sequences k xs)).0 j in
    ap₂ before a.2 b.2 ∙ before-heads x y a.0 b.0 l)
    xs h

pub rising-count-from : (i k : ℕ) → rising (map (λ n. n ∷ []) (count_from i k)) ≡ true
rising-count-from i zero = refl
rising-count-from i (suc k) =
    (rising-map (λ n. n ∷ []) i (count_from (suc i) k)).1
    ((λ y j. (before-cons i y [] []).1 (inl ((in_count (suc i) k y).0 j).0)), rising-count-from (suc i) k)

-- # The first member after a given one
find-first-after : (x : List ℕ) (xs : List (List ℕ)) → ((y : List ℕ) → y ∈ xs → before x y ≡ true) → find (before x) xs ≡ find (λ y. true) xs
find-first-after x [] h = refl
find-first-after x (y ∷ xs) h = rw (h y (Memᴰ.head refl))

-- in a rising list, the first member after x is the one that follows x
pub rising-next : (front back : List (List ℕ)) (x : List ℕ) → rising (front ++ x ∷ back) ≡ true
    → find (before x) (front ++ x ∷ back) ≡ find (λ y. true) back
rising-next [] back x h = rw ((fails (before x x)).1 (before-irreflexive x)) (find-first-after x back ((rising-cons x back).0 h).0)
rising-next (y ∷ front) back x h =
    let r = (rising-cons y (front ++ x ∷ back)).0 h in
    rw (before-asymmetric y x (r.0 x ((in-append front (x ∷ back)).1 (inr (Memᴰ.head refl))))) (rising-next front back x r.1)

pub in-lists : (xs : List (List ℕ)) (x : List ℕ) → (any (same x) xs ≡ true) ↔ (x ∈ xs)
in-lists xs x = (
  (λ h. let r = (any-member (same x) xs).0 h in Memᴰ.cast ((same-list x r.0).0 r.2) r.1),
  λ i. (any-member (same x) xs).1 (x, i, (same-list x x).1 refl),
)

-- # The smallest of a kind
module _ {A : Type 0} (f : A → List ℕ) where
  pub smallest-same : (P Q : A → Type 0) → ((x : A) → P x ↔ Q x) → (o : Option A) → Smallest f P o → Smallest f Q o
  smallest-same P Q e None h = λ y q. h y ((e y).1 q)
  smallest-same P Q e (Some x) h = ((e x).0 h.0, λ y q. h.1 y ((e y).1 q))

  smallest-one : (P : A → Type 0) (o q : Option A) → Smallest f P o → Smallest f P q → o ≡ q
  smallest-one P None None h k = refl
  smallest-one P None (Some y) h k = absurd (h y k.0)
  smallest-one P (Some x) None h k = absurd (k x h.0)
  smallest-one P (Some x) (Some y) h k =
      ⊎_elim (λ e. ap Some (sym e))
      (λ l. ⊎_elim (ap Some) (λ m. absurd (before-irreflexive (f x) (before-transitive (f x) (f y) (f x) l m))) (k.1 x h.0))
      (h.1 y k.0)

  -- in a rising list, the first member that passes is the smallest
  pub find-smallest : (p : A → Bool) (xs : List A) → rising (map f xs) ≡ true → Smallest f (λ x. (x ∈ xs) × (p x ≡ true)) (find p xs)
  find-smallest p xs h = go (find p xs) refl
    where
      go : (o : Option A) → find p xs ≡ o → Smallest f (λ x. (x ∈ xs) × (p x ≡ true)) o
      go None e = λ y q. false≢true (sym ((finds-none p xs).0 e y q.0) ∙ q.1)
      go (Some x) e =
          let r = finds p xs e in
          let rise = (rising-append (map f r.front) (map f (x ∷ r.back))).0 (rw (r.split, map-append) at h) in (
            (rw r.split ((in-append r.front (x ∷ r.back)).1 (inr (Memᴰ.head refl))), r.passes),
            λ y q. ⊎_elim
                (λ i. absurd (false≢true (sym (r.before y i) ∙ q.1)))
                (λ i. ⊎_elim inl (λ j. inr (((rising-map f x r.back).0 rise.1).0 y j)) (in-cons.0 i))
                ((in-append r.front (x ∷ r.back)).0 (rw r.split at q.0)),
          )

  pub finds-smallest : (p : A → Bool) (xs : List A) (o : Option A) → rising (map f xs) ≡ true
      → (find p xs ≡ o) ↔ Smallest f (λ x. (x ∈ xs) × (p x ≡ true)) o
  finds-smallest p xs o h = ((λ e. rw e at (find-smallest p xs h)), λ s. smallest-one _ (find p xs) o (find-smallest p xs h) s)
