-- How many lists of numbers can rise, each number below a limit of its own: at most the product of the limits; and totals over a list.
-- A list's rank in mixed radix stays below that product, and rises strictly with the list.
use Rattle.std.specs.Prelude.{ℕ, zero, suc, ◌+◌, ◌*◌, ◌<◌, ◌≤◌, ◌≡◌, refl, ◌↔◌, true, List, [], ◌∷◌, length, take, ltb}
use Rattle.std.proofs.Common.{mul-le-mul_right, arith, ap, ◌∙◌, ⊎_elim, length-append}
use Rattle.std.proofs.Math.Logic.Iff
use Rattle.std.proofs.lemmas.Bool.{false≢true}
use mathlib.Core.List.Memᴰ
use Rattle.lists.specs.Lists.{◌∈◌, each, ◌!◌}
use Rattle.lists.specs.Order.{before, rising}
use Rattle.lists.specs.Radix.{product, within, rank}
use Rattle.lists.proofs.Laws.Lists.{both, less, in-cons}
use Rattle.lists.proofs.Laws.Order.{before-cons, rising-cons}

pub within-cons : (b n : ℕ) (bs ns : List ℕ) → (within (b ∷ bs) (n ∷ ns) ≡ true) ↔ ((n < b) × (within bs ns ≡ true))
within-cons b n bs ns = simp (both, less) Iff.rfl

pub within-take : (k : ℕ) (bs ns : List ℕ) → within bs ns ≡ true → within (take k bs) (take k ns) ≡ true
within-take zero bs ns h = refl
within-take (suc k) [] [] h = refl
within-take (suc k) [] (n ∷ ns) h = h
within-take (suc k) (b ∷ bs) [] h = h
within-take (suc k) (b ∷ bs) (n ∷ ns) h =
    let e = (both (ltb n b) (within bs ns)).0 h in
    (both (ltb n b) (within (take k bs) (take k ns))).1 (e.0, within-take k bs ns e.1)

pub within-length : (bs ns : List ℕ) → within bs ns ≡ true → length ns ≡ length bs
within-length [] [] h = refl
within-length [] (n ∷ ns) h = absurd (false≢true h)
within-length (b ∷ bs) [] h = absurd (false≢true h)
within-length (b ∷ bs) (n ∷ ns) h = ap suc (within-length bs ns ((within-cons b n bs ns).0 h).1)

pub within-at : (bs ns : List ℕ) → within bs ns ≡ true → (i : ℕ) → i < length bs → ns ! i < bs ! i
within-at [] ns h i l = absurd (omega arith)
within-at (b ∷ bs) [] h i l = absurd (false≢true h)
within-at (b ∷ bs) (n ∷ ns) h zero l = ((within-cons b n bs ns).0 h).0
within-at (b ∷ bs) (n ∷ ns) h (suc i) l = within-at bs ns ((within-cons b n bs ns).0 h).1 i (omega arith)

-- # Ranks
pub rank_below : (bs ns : List ℕ) → within bs ns ≡ true → rank bs ns < product bs
rank_below [] ns h = omega arith
rank_below (b ∷ bs) [] h = absurd (false≢true h)
rank_below (b ∷ bs) (n ∷ ns) h =
    let w = (within-cons b n bs ns).0 h in
    omega (arith, mul-le-mul_right (product bs) w.0, rank_below bs ns w.1)

rank_rises : (bs ns ms : List ℕ) → within bs ns ≡ true → within bs ms ≡ true → before ns ms ≡ true → rank bs ns < rank bs ms
rank_rises [] [] [] h k l = absurd (false≢true l)
rank_rises [] [] (m ∷ ms) h k l = absurd (false≢true k)
rank_rises [] (n ∷ ns) ms h k l = absurd (false≢true h)
rank_rises (b ∷ bs) [] ms h k l = absurd (false≢true h)
rank_rises (b ∷ bs) (n ∷ ns) [] h k l = absurd (false≢true k)
rank_rises (b ∷ bs) (n ∷ ns) (m ∷ ms) h k l =
    let w = (within-cons b n bs ns).0 h in
    let v = (within-cons b m bs ms).0 k in
    ⊎_elim (λ less. omega (arith, mul-le-mul_right (product bs) less, rank_below bs ns w.1))
    (λ r. omega (arith, ap (λ i. i * product bs) r.0, rank_rises bs ns ms w.1 v.1 r.1))
    ((before-cons n m ns ms).0 l)

module _ (bs : List ℕ) where
  rising-above : (x : List ℕ) (xs : List (List ℕ)) → rising (x ∷ xs) ≡ true → ((y : List ℕ) → y ∈ (x ∷ xs) → within bs y ≡ true)
      → rank bs x + length (x ∷ xs) ≤ product bs
  rising-above x [] r h = omega (arith, rank_below bs x (h x (Memᴰ.head refl)))
  rising-above x (y ∷ ys) r h =
      let c = (rising-cons x (y ∷ ys)).0 r in
      let later = rising-above y ys c.1 (λ z i. h z (Memᴰ.tail i)) in
      let less = rank_rises bs x y (h x (Memᴰ.head refl)) (h y (Memᴰ.tail (Memᴰ.head refl))) (c.0 y (Memᴰ.head refl)) in
      omega arith

  -- rising lists of numbers below limits are at most as many as there are such lists
  pub rising-count : (xs : List (List ℕ)) → rising xs ≡ true → ((x : List ℕ) → x ∈ xs → within bs x ≡ true) → length xs ≤ product bs
  rising-count [] r h = omega arith
  rising-count (x ∷ xs) r h = omega (arith, rising-above x xs r h)

-- # Totals
module _ {A : Type 0} where
  -- the sum of what a function makes of each member
  abbrev pub total : (A → ℕ) → List A → ℕ
  total g [] = 0
  total g (x ∷ xs) = g x + total g xs

  pub total-length : (xs : List A) → total (λ x. 1) xs ≡ length xs
  total-length [] = refl
  total-length (x ∷ xs) = omega (arith, total-length xs)

  pub total-sum : (g h : A → ℕ) (xs : List A) → total (λ x. g x + h x) xs ≡ total g xs + total h xs
  total-sum g h [] = refl
  total-sum g h (x ∷ xs) = omega (arith, total-sum g h xs)

  pub total-monotone : (g h : A → ℕ) (xs : List A) → ((x : A) → x ∈ xs → g x ≤ h x) → total g xs ≤ total h xs
  total-monotone g h [] l = omega arith
  total-monotone g h (x ∷ xs) l = omega (arith, l x (Memᴰ.head refl), total-monotone g h xs (λ y i. l y (Memᴰ.tail i)))

  -- where one member has d more, so has the total
  pub total-grows : (g h : A → ℕ) (d : ℕ) (xs : List A) → ((x : A) → x ∈ xs → g x ≤ h x) → {y : A} → y ∈ xs → g y + d ≤ h y
      → total g xs + d ≤ total h xs
  total-grows g h d [] l i m = absurd (Memᴰ.not-nil i)
  total-grows g h d (x ∷ xs) l i m =
      let later : (z : A) → z ∈ xs → g z ≤ h z = λ z j. l z (Memᴰ.tail j) in
      ⊎_elim
      (λ e. omega (arith, rw e at m, total-monotone g h xs later))
      (λ j. omega (arith, l x (Memᴰ.head refl), total-grows g h d xs later j m))
      (in-cons.0 i)

  pub total-member : (g : A → ℕ) (xs : List A) {y : A} → y ∈ xs → g y ≤ total g xs
  total-member g xs {y} i = omega (arith, total-grows (λ x. 0) g (g y) xs (λ x j. omega arith) i (omega arith))

pub each-length : {A B : Type 0} (xs : List A) (f : A → List B) → length (each xs f) ≡ total (λ x. length (f x)) xs
each-length [] f = refl
each-length (x ∷ xs) f = length-append (f x) (each xs f) ∙ ap (λ n. length (f x) + n) (each-length xs f)
