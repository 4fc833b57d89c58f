-- Rising keys. Where a key stands among rising keys, those before it are below it and the others are not: what is found there, joined there
-- and taken away there follows by induction.
use Rattle.std.specs.Prelude.{ℕ, zero, suc, ◌+◌, ◌-◌, ◌<◌, ◌≤◌, ◌≡◌, ◌↔◌, ◌⊎◌, Bool, true, false, cond, not, length, take, drop, set, eqb, ltb}
use Rattle.std.proofs.Common.{drop-cons, drop_of_length-le, arith, add-one, ap, ap₂, ◌∙◌, inl, inr, ⊎_elim, length-take-le, take-take, drop_at}
use Rattle.std.proofs.Math.Path.{refl, sym}
use Rattle.std.proofs.lemmas.Bool.{false≢true, true_from_ne_false}
use Rattle.std.specs.List.{copy_within}
use Rattle.std.specs.List.Sorted.{IsPartitionedBy, IsPartitionPoint}
use mathlib.Core.List.Memᴰ
use mathlib.Core.List.{List, [], ◌∷◌, ◌++◌, map}
use Rattle.std.proofs.Math.Seq.{take-set-lt}
use Rattle.std.proofs.lemmas.List.Edits.{take-paste}
use Rattle.std.proofs.lemmas.List.{drop-take, take-append-le, length-drop, length-append, get_or_default, set_split}
use borrow.Author.Tests.{ltb-true, lt-ltb, le-ltb, eq-eqb, ne_eqb, ltb-false, eqb-true, eqb-false}
use Rattle.lists.specs.Lists.{any, ◌∈◌, keep, member, ◌!◌}
use Rattle.lists.proofs.Laws.Lists.{any-member, in-cons, same_truth, in-numbers, keep-none, keep_all, keep-length, in_map, fails}
use Rattle.lists.proofs.Laws.Maps.{map_back}
use Rattle.lists.proofs.Laws.Places.{at_place}
use Rattle.lists.proofs.Laws.Order.{before-number, rising-map, rising-map-keep, rising-determined}
use Rattle.keys.specs.Keys.{keys_rise, place_of, join_key}

-- # Rising keys
pub rise-cons : (x : ℕ) (ks : List ℕ) → (keys_rise (x ∷ ks) ≡ true) ↔ (((k : ℕ) → k ∈ ks → x < k) × (keys_rise ks ≡ true))
unfolding keys_rise
rise-cons x ks = (
  (λ h. let r = (rising-map (λ k. k ∷ []) x ks).0 h in ((λ k i. ltb-true x k (rw before-number at (r.0 k i))), r.1)),
  λ h. (rising-map (λ k. k ∷ []) x ks).1 ((λ k i. rw before-number (lt-ltb x k (h.0 k i))), h.1),
)

-- two rising lists with the same members are one list
pub keys-determined : (xs ys : List ℕ) → keys_rise xs ≡ true → keys_rise ys ≡ true
    → ((k : ℕ) → k ∈ xs → k ∈ ys) → ((k : ℕ) → k ∈ ys → k ∈ xs) → xs ≡ ys
unfolding keys_rise
keys-determined xs ys r q f g =
    let one : ℕ → List ℕ = λ k. k ∷ [] in
    let into : (us vs : List ℕ) → ((k : ℕ) → k ∈ us → k ∈ vs) → (z : List ℕ) → z ∈ map one us → z ∈ map one vs =
    λ us vs h z i. let m = (in_map one us).0 i in (in_map one vs).1 (m.0, h m.0 m.1, m.2) in
    let first : List ℕ → ℕ = λ l. l ! 0 in
    sym (map_back first one xs (λ k i. refl))
    ∙ ap (map first) (rising-determined (map one xs) (map one ys) r q (into xs ys f) (into ys xs g))
    ∙ map_back first one ys (λ k i. refl)

-- # Joining a key
pub in-join : (e : ℕ) (fs : List ℕ) (k : ℕ) → (k ∈ join_key e fs) ↔ ((k ≡ e) ⊎ (k ∈ fs))
unfolding join_key
in-join e [] k = in-cons
in-join e (f ∷ fs) k = go (ltb e f) (eqb e f) refl (in-join e fs k)
  where
    go : (a b : Bool) → eqb e f ≡ b → (k ∈ join_key e fs) ↔ ((k ≡ e) ⊎ (k ∈ fs))
        → (k ∈ cond a (e ∷ f ∷ fs) (cond b (f ∷ fs) (f ∷ join_key e fs))) ↔ ((k ≡ e) ⊎ (k ∈ (f ∷ fs)))
    go true b q more = in-cons
    go false true q more = (inr, ⊎_elim (λ h. Memᴰ.head (h ∙ eqb-true e f q)) (λ h. h))
    go false false q more = (
      (λ h. ⊎_elim (λ i. inr (Memᴰ.head i)) (λ i. ⊎_elim inl (λ j. inr (Memᴰ.tail j)) (more.0 i)) (in-cons.0 h)),
      ⊎_elim (λ h. Memᴰ.tail (more.1 (inl h))) (λ h. ⊎_elim Memᴰ.head (λ i. Memᴰ.tail (more.1 (inr i))) (in-cons.0 h)),
    )

pub join-rises : (e : ℕ) (fs : List ℕ) → keys_rise fs ≡ true → keys_rise (join_key e fs) ≡ true
unfolding join_key
join-rises e [] h = (rise-cons e []).1 ((λ k i. absurd (Memᴰ.not-nil i)), h)
join-rises e (f ∷ fs) h = go (ltb e f) (eqb e f) refl refl ((rise-cons f fs).0 h) (join-rises e fs)
  where
    go : (a b : Bool) → ltb e f ≡ a → eqb e f ≡ b → ((k : ℕ) → k ∈ fs → f < k) × (keys_rise fs ≡ true)
        → (keys_rise fs ≡ true → keys_rise (join_key e fs) ≡ true) → keys_rise (cond a (e ∷ f ∷ fs) (cond b (f ∷ fs) (f ∷ join_key e fs))) ≡ true
    go true b p q r more =
        let l : e < f = ltb-true e f p in
        (rise-cons e (f ∷ fs)).1 (
          (λ k i. ⊎_elim (λ (c : k ≡ f). omega arith) (λ j. let m : f < k = r.0 k j in omega arith) (in-cons.0 i)),
          h,
        )
    go false true p q r more = h
    go false false p q r more =
        let l : f ≤ e = ltb-false e f p in
        let d : e ≡ f → ⊥ = eqb-false e f q in
        (rise-cons f (join_key e fs)).1 (
          (λ k i. ⊎_elim (λ (c : k ≡ e). omega (arith, d)) (r.0 k) ((in-join e fs k).0 i)),
          more r.1,
        )

pub keep-rises : (p : ℕ → Bool) (ks : List ℕ) → keys_rise ks ≡ true → keys_rise (keep p ks) ≡ true
unfolding keys_rise
keep-rises p ks h = rising-map-keep (λ k. k ∷ []) p ks h

-- # Where a key stands
-- the key stands, or would stand, after n of the keys: those are below it, and the others rise from it on
pub data Stands (key : ℕ) : List ℕ → ℕ → Type 0 where
  here : (ks : List ℕ) → ((k : ℕ) → k ∈ ks → key ≤ k) → keys_rise ks ≡ true → Stands key ks 0
  later : {x n : ℕ} {ks : List ℕ} → x < key → Stands key ks n → Stands key (x ∷ ks) (suc n)

stands : (key : ℕ) (ks : List ℕ) → keys_rise ks ≡ true → Stands key ks (place_of key ks)
unfolding place_of
stands key [] h = here [] (λ k i. absurd (Memᴰ.not-nil i)) h
stands key (x ∷ ks) h = let r = (rise-cons x ks).0 h in go (ltb x key) refl (stands key ks r.1)
  where
    go : (t : Bool) → ltb x key ≡ t → Stands key ks (place_of key ks)
        → Stands key (x ∷ ks) (length (cond t (x ∷ keep (λ k. ltb k key) ks) (keep (λ k. ltb k key) ks)))
    go true e more = later (ltb-true x key e) more
    go false e more =
        let b : key ≤ x = ltb-false x key e in
        let above : (k : ℕ) → k ∈ ks → x < k = ((rise-cons x ks).0 h).0 in
        rw (keep-none (λ k. ltb k key) ks (λ k i. let l : x < k = above k i in le-ltb k key (omega arith)))
        (here (x ∷ ks) (λ k i. ⊎_elim (λ (q : k ≡ x). omega arith) (λ j. let l : x < k = above k j in omega arith) (in-cons.0 i)) h)

module _ {key : ℕ} where
  lower-before : {ks : List ℕ} {n : ℕ} → Stands key ks n → (i : ℕ) → i < length ks → ks ! i < key → i < n
  lower-before (here ks a r) i l h = let b : key ≤ ks ! i = a (ks ! i) (at_place ks i 0 l) in absurd (omega arith)
  lower-before (later e s) zero l h = omega arith
  lower-before (later e s) (suc i) l h = omega (arith, lower-before s i (omega arith) h)

  others-after : {ks : List ℕ} {n : ℕ} → Stands key ks n → (i : ℕ) → i < length ks → key ≤ ks ! i → n ≤ i
  others-after (here ks a r) i l h = omega arith
  others-after (later e s) zero l h = absurd (omega arith)
  others-after (later e s) (suc i) l h = omega (arith, others-after s i (omega arith) h)

  -- of keys that form a run from `key` on, the first stands where `key` does
  pub first-of-run : (P : ℕ → Type 0) → ((k : ℕ) → P k → key ≤ k) → ((j k : ℕ) → key ≤ j → j ≤ k → P k → P j)
      → {ks : List ℕ} {n : ℕ} → Stands key ks n → (k : ℕ) → k ∈ ks → P k → (n < length ks) × P (ks ! n)
  first-of-run P low run (here [] a r) k i h = absurd (Memᴰ.not-nil i)
  first-of-run P low run (here (x ∷ ks) a r) k i h =
      let first : x ≤ k = ⊎_elim (λ (q : k ≡ x). omega arith) (λ j. let l : x < k = ((rise-cons x ks).0 r).0 k j in omega arith) (in-cons.0 i) in
      (omega arith, run x k (a x (Memᴰ.head refl)) first h)
  first-of-run P low run (later {x} e s) k i h =
      let l : key ≤ k = low k h in
      ⊎_elim (λ (q : k ≡ x). absurd (omega arith)) (λ j. let r = first-of-run P low run s k j h in (omega (arith, r.0), r.1)) (in-cons.0 i)

  there : {ks : List ℕ} {n : ℕ} → Stands key ks n → key ∈ ks → (n < length ks) × (ks ! n ≡ key)
  there s i = first-of-run (λ k. k ≡ key) (λ k e. omega arith) (λ j k l m e. omega arith) s key i refl

  join-standing : {ks : List ℕ} {n : ℕ} → Stands key ks n → n < length ks → ks ! n ≡ key → join_key key ks ≡ ks
  unfolding join_key
  join-standing (here [] a r) l e = absurd (omega arith)
  join-standing (here (x ∷ ks) a r) l e = rw (le-ltb key x (omega arith), eq-eqb key x (sym e))
  join-standing (later {x} {n} {ks} b s) l e = rw (le-ltb key x (omega arith), ne_eqb key x (λ q. omega arith), join-standing s (omega arith) e)

  join-absent : {ks : List ℕ} {n : ℕ} → Stands key ks n → (key ∈ ks → ⊥) → join_key key ks ≡ take n ks ++ key ∷ drop n ks
  unfolding join_key
  join-absent (here [] a r) h = refl
  join-absent (here (x ∷ ks) a r) h =
      let l : key ≤ x = a x (Memᴰ.head refl) in
      let d : key ≡ x → ⊥ = λ e. h (Memᴰ.head e) in
      rw (lt-ltb key x (omega arith))
  join-absent (later {x} {n} {ks} b s) h =
      rw (le-ltb key x (omega arith), ne_eqb key x (λ q. omega arith)) (ap (λ (l : List ℕ). x ∷ l) (join-absent s (λ i. h (Memᴰ.tail i))))

  keep-there : {ks : List ℕ} {n : ℕ} → Stands key ks n → n < length ks → ks ! n ≡ key
      → keep (λ k. not (eqb k key)) ks ≡ take n ks ++ drop (suc n) ks
  keep-there (here [] a r) l e = absurd (omega arith)
  keep-there (here (x ∷ ks) a r) l e =
      rw (eq-eqb x key e)
      (keep_all (λ k. not (eqb k key)) ks (λ k i. let m : x < k = ((rise-cons x ks).0 r).0 k i in rw (ne_eqb k key (λ q. omega arith))))
  keep-there (later {x} b s) l e = rw (ne_eqb x key (λ q. omega arith)) (ap (λ (l : List ℕ). x ∷ l) (keep-there s (omega arith) e))

-- # What stands at the place of a key, as code asks it
pub place-within : (key : ℕ) (ks : List ℕ) → place_of key ks ≤ length ks
unfolding place_of
place-within key ks = keep-length (λ k. ltb k key) ks

pub place_front : (ks : List ℕ) (count key at : ℕ) → at ≡ place_of key (take count ks) → count ≤ length ks → at ≤ count
place_front ks count key at e l = omega (arith, e, place-within key (take count ks), length-take-le count ks l)

module _ (ks : List ℕ) (key : ℕ) (rise : keys_rise ks ≡ true) where
  pub place-above : (i : ℕ) → i < length ks → ks ! i < key → i + 1 ≤ place_of key ks
  place-above i l h = omega (arith, lower-before (stands key ks rise) i l h)

  pub place-below : (i : ℕ) → i < length ks → key ≤ ks ! i → place_of key ks ≤ i
  place-below = others-after (stands key ks rise)

  -- a key stands where those before are below it and that one is not
  pub place-first : (i : ℕ) → i < length ks → key ≤ ks ! i → i ≡ 0 → 0 ≡ place_of key ks
  place-first i l k e = omega (arith, place-below i l k)

  pub place_here : (i : ℕ) → i < length ks → key ≤ ks ! i → ks ! (i - 1) < key → i ≡ place_of key ks
  place_here i l k n = omega (arith, place-below i l k, place-above (i - 1) (omega arith) n)

  -- the keys below a key stand before the others, and what parts them is its place
  pub below-first : IsPartitionedBy (λ k. ltb k key) ks
  below-first i j d h l e =
      let low : j + 1 ≤ place_of key ks = place-above j l (ltb-true (ks ! j) key (ap (λ k. ltb k key) (get_or_default ks j 0 d l) ∙ e)) in
      ap (λ k. ltb k key) (get_or_default ks i d 0 (omega arith))
      ∙ true_from_ne_false (ltb (ks ! i) key) (λ f. let m : place_of key ks ≤ i = place-below i (omega arith) (ltb-false (ks ! i) key f) in omega arith)

  pub place-partition : (at : ℕ) → at ≤ length ks
      → IsPartitionPoint (λ k. ltb k key ≡ true) (λ k. ltb k key ≡ false) ks at → at ≡ place_of key ks
  place-partition at fits p =
      let within : place_of key ks ≤ length ks = place-within key ks in
      let not-above : place_of key ks < at → ⊥ =
      λ l. let m : place_of key ks + 1 ≤ place_of key ks = place-above (place_of key ks) (omega arith) (ltb-true (ks ! place_of key ks) key (p.0 (place_of key ks) 0 (omega arith) l)) in omega arith in
      let not-below : at < place_of key ks → ⊥ =
      λ l. let m : place_of key ks ≤ at = place-below at (omega arith) (ltb-false (ks ! at) key (p.1 at 0 (omega arith) (omega arith))) in omega arith in
      omega (arith, not-above, not-below)

  module _ (at : ℕ) (place : at ≡ place_of key ks) where
    pub placed : Stands key ks at
    placed = rw place (stands key ks rise)

    pub member-at : at < length ks → eqb (ks ! at) key ≡ member ks key
    member-at l = same_truth (eqb (ks ! at) key) (member ks key) (
      (λ h. (in-numbers ks key).1 (Memᴰ.cast (sym (eqb-true (ks ! at) key h)) (at_place ks at 0 l))),
      λ h. eq-eqb (ks ! at) key (there placed ((in-numbers ks key).0 h)).1,
    )

    pub member-past : length ks ≤ at → false ≡ member ks key
    member-past l = sym ((fails (member ks key)).1 (λ h. let r : at < length ks = (there placed ((in-numbers ks key).0 h)).0 in omega arith))

-- # Keys that move by one place
module _ (ks : List ℕ) (at count : ℕ) where
  -- to the place of the key before
  pub moved-down : at < count → count ≤ length ks
      → take (count - 1) (copy_within ks (at + 1) count at) ≡ take at (take count ks) ++ drop (suc at) (take count ks)
  moved-down l m =
      let n = count - (at + 1) in
      let e : count - 1 ≡ at + n = omega arith in
      let f : count ≡ suc at + n = omega arith in
      let rest = drop (at + 1) ks in
      ap (λ z. take z (copy_within ks (at + 1) count at)) e
      ∙ take-paste ks at rest n (omega arith) (omega (arith, length-drop (at + 1) ks))
      ∙ ap₂ (λ (a b : List ℕ). a ++ b)
      (sym (take-take at count ks (omega arith)))
      (ap (λ z. take n (drop z ks)) (add-one at) ∙ sym (ap (λ z. drop (suc at) (take z ks)) f ∙ drop-take (suc at) n ks))

  -- to the place of the key after, which leaves a place for another
  pub moved-up : at ≤ count → count < length ks → (key : ℕ)
      → take (count + 1) (set (copy_within ks at count (at + 1)) at key) ≡ take at (take count ks) ++ key ∷ drop at (take count ks)
  moved-up l m key =
      let n = count - at in
      let moved = copy_within ks at count (at + 1) in
      let low = take (at + 1) ks in
      let high = take n (drop at ks) in
      let e : count + 1 ≡ (at + 1) + n = omega arith in
      let f : count ≡ at + n = omega arith in
      let as_long : length low ≡ at + 1 = length-take-le (at + 1) ks (omega arith) in
      take-set-lt (count + 1) moved at key (omega arith)
      ∙ ap (λ (z : List ℕ). set z at key)
      (ap (λ z. take z moved) e ∙ take-paste ks (at + 1) (drop at ks) n (omega arith) (omega (arith, length-drop at ks)))
      ∙ set_split (low ++ high) at key (omega (arith, as_long, length-append low high))
      ∙ ap₂ (λ (a b : List ℕ). a ++ key ∷ b)
      (take-append-le at low high (omega arith) ∙ take-take at (at + 1) ks (omega arith) ∙ sym (take-take at count ks l))
      (drop_at low high (suc at) (as_long ∙ add-one at) ∙ sym (ap (λ z. drop at (take z ks)) f ∙ drop-take at n ks))

module _ (front : List ℕ) (key : ℕ) where
  absent : false ≡ member front key → key ∈ front → ⊥
  absent h i = false≢true (h ∙ (in-numbers front key).1 i)

  pub cut_apart : false ≡ member front key → front ≡ keep (λ k. not (eqb k key)) front
  cut_apart h = sym (keep_all (λ k. not (eqb k key)) front (λ k i. rw (ne_eqb k key (λ e. absent h (Memᴰ.cast (sym e) i)))))

  module _ (rise : keys_rise front ≡ true) where
    pub join-there : true ≡ member front key → front ≡ join_key key front
    join-there h =
        let s = stands key front rise in
        let r = there s ((in-numbers front key).0 (sym h)) in
        sym (join-standing s r.0 r.1)

    module _ (at : ℕ) (place : at ≡ place_of key front) where
      pub place-there : true ≡ member front key → at < length front
      place-there h = (there (placed front key rise at place) ((in-numbers front key).0 (sym h))).0

      pub cut-there : true ≡ member front key → take at front ++ drop (suc at) front ≡ keep (λ k. not (eqb k key)) front
      cut-there h =
          let s = placed front key rise at place in
          let r = there s ((in-numbers front key).0 (sym h)) in
          sym (keep-there s r.0 r.1)

      pub join-at : false ≡ member front key → take at front ++ key ∷ drop at front ≡ join_key key front
      join-at h = sym (join-absent (placed front key rise at place) (absent h))

-- a key among the first keys stands before their end
pub found_front : (ks : List ℕ) (count key at : ℕ) → keys_rise (take count ks) ≡ true → at ≡ place_of key (take count ks)
    → true ≡ member (take count ks) key → count ≤ length ks → at + 1 ≤ count
found_front ks count key at r e m l = omega (arith, place-there (take count ks) key r at e m, length-take-le count ks l)

-- # A search from the front, by what is left of the keys from i on
module _ (p : ℕ → Bool) (ks : List ℕ) (i : ℕ) where
  pub search-hit : i < length ks → p (ks ! i) ≡ true → true ≡ any p ks
  search-hit l h = sym ((any-member p ks).1 (ks ! i, at_place ks i 0 l, h))

  pub search-on : i < length ks → p (ks ! i) ≡ false → any p ks ≡ any p (drop i ks) → any p ks ≡ any p (drop (i + 1) ks)
  search-on l h e = e ∙ rw (add-one, drop-cons ks i 0, h)

  pub search-past : length ks ≤ i → any p ks ≡ any p (drop i ks) → false ≡ any p ks
  search-past l e = sym (e ∙ rw (drop_of_length-le ks))
