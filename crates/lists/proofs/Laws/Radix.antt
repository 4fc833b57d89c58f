-- The rank of a list of numbers in mixed radix gives the list back, the last number is a remainder, and first parts of the lists are ordered as
-- quotients of the ranks are. A number's lowest digits are as many as are asked for.
-- By division: a number below b * p is its quotient by p, below b, and its remainder, below p.
use Rattle.std.specs.Prelude.{ℕ, zero, suc, ◌+◌, ◌*◌, ◌/◌, ◌%◌, ◌<◌, ◌≤◌, ◌≡◌, refl, ◌⊎◌, Bool, true, false, ◌&&◌, ◌||◌, List, [], ◌∷◌, ◌++◌, length, get_or, take, drop, eqb, ltb}
use Rattle.std.proofs.Common.{eq-or-lt_of_le, mul-le-mul_right, mul_assoc, mod-lt, mod-eq_of_lt, div-add-mod', mul_comm, div-one, div-lt_iff_lt-mul, arith, ap, ap₂, ◌∙◌, sym, inl, inr, ⊎_elim, length-append, take-suc, ltb-true, ltb-false}
use Rattle.std.proofs.Math.Nat.{div-eq_of_lt, div-div-eq-div-mul, mul-add-div_right, mul-add-mod_self_right}
use Rattle.std.proofs.lemmas.Bool.{false≢true}
use Rattle.std.proofs.Math.Arith.{digits_div, digits_mod, mod-mul}
use Rattle.lists.specs.Order.{before}
use Rattle.lists.specs.Radix.{product, within, rank, unrank, lowest}
use Rattle.lists.proofs.Laws.Lists.{less, same_truth}
use Rattle.lists.proofs.Laws.Order.{lexicographic}
use Rattle.lists.proofs.Laws.Count.{within-cons, rank_below}

-- a product that is not 0 has no factor 0
factors : (a b : ℕ) → 0 < a * b → (0 < a) × (0 < b)
factors zero b h = absurd (omega arith)
factors (suc a) zero h = absurd (omega arith)
factors (suc a) (suc b) h = (omega arith, omega arith)

-- a limit of 0 leaves no number
product-tail : (b k : ℕ) (bs : List ℕ) → k < product (b ∷ bs) → 0 < product bs
product-tail b k bs h = (factors b (product bs) (omega arith)).1

-- # Parts of a product
product-split : (n : ℕ) (bs : List ℕ) → product bs ≡ product (take n bs) * product (drop n bs)
product-split zero bs = omega arith
product-split (suc n) [] = refl
product-split (suc n) (b ∷ bs) = rw (product-split n bs) (sym (mul_assoc b (product (take n bs)) (product (drop n bs))))

-- where there is a number below a product, no part of the product is 0
pub product-left : (n k : ℕ) (bs : List ℕ) → k < product bs → 0 < product (drop n bs)
product-left n k bs h = (factors (product (take n bs)) (product (drop n bs)) (omega (arith, product-split n bs))).1

pub product-first : (b : ℕ) (bs : List ℕ) → 0 < product (b ∷ bs) → 0 < b
product-first b bs h = (factors b (product bs) h).0

product-front : (n : ℕ) (bs : List ℕ) → 0 < product bs → 0 < product (take n bs)
product-front n bs h = (factors (product (take n bs)) (product (drop n bs)) (omega (arith, product-split n bs))).0

pub unrank-length : (bs : List ℕ) (k : ℕ) → length (unrank bs k) ≡ length bs
unrank-length [] k = refl
unrank-length (b ∷ bs) k = ap suc (unrank-length bs (k % product bs))

-- # There and back
pub unrank-rank : (bs ns : List ℕ) → within bs ns ≡ true → unrank bs (rank bs ns) ≡ ns
unrank-rank [] [] h = refl
unrank-rank [] (n ∷ ns) h = absurd (false≢true h)
unrank-rank (b ∷ bs) [] h = absurd (false≢true h)
unrank-rank (b ∷ bs) (n ∷ ns) h =
    let w = (within-cons b n bs ns).0 h in
    let p = product bs in
    let r = rank bs ns in
    let below : r < p = rank_below bs ns w.1 in
    let first : (n * p + r) / p ≡ n = mul-add-div_right (omega arith) n r ∙ ap (λ q. n + q) (div-eq_of_lt below) ∙ omega arith in
    let later : (n * p + r) % p ≡ r = mul-add-mod_self_right n p r ∙ mod-eq_of_lt below in
    ap₂ ◌∷◌ first (ap (unrank bs) later ∙ unrank-rank bs ns w.1)

-- # The last number
product-snoc : (bs : List ℕ) (b : ℕ) → product (bs ++ (b ∷ [])) ≡ product bs * b
product-snoc [] b = omega arith
product-snoc (c ∷ bs) b = ap (λ p. c * p) (product-snoc bs b) ∙ sym (mul_assoc c (product bs) b)

-- the remainder by p * b has two digits
module _ (p b k : ℕ) (h : 0 < p * b) where
  two_digits : k % (p * b) ≡ k / b % p * b + k % b
  two_digits = mod-mul k (factors p b h).0 (factors p b h).1

  remainder-remainder : k % (p * b) % b ≡ k % b
  remainder-remainder = ap (λ n. n % b) two_digits ∙ digits_mod (k / b % p) (mod-lt k (factors p b h).1)

  remainder-quotient : k % (p * b) / b ≡ k / b % p
  remainder-quotient = ap (λ n. n / b) two_digits ∙ digits_div (k / b % p) (mod-lt k (factors p b h).1)

  quotient-quotient : k / (p * b) ≡ k / b / p
  quotient-quotient = ap (λ m. k / m) (mul_comm p b) ∙ sym (div-div-eq-div-mul k b p)

-- the last number is the remainder by its limit, and the others are those of the quotient
pub unrank-last : (a : ℕ) (bs : List ℕ) (b k : ℕ) → 0 < product (bs ++ (b ∷ []))
    → unrank (a ∷ bs ++ (b ∷ [])) k ≡ unrank (a ∷ bs) (k / b) ++ (k % b ∷ [])
unrank-last a [] b k h =
    let one : b * 1 ≡ b = omega arith in
    rw (one, div-one (k % b), div-one (k / b))
unrank-last a (c ∷ bs) b k h =
    let p = product (c ∷ bs) in
    let whole : product (c ∷ bs ++ (b ∷ [])) ≡ p * b = product-snoc (c ∷ bs) b in
    let some : 0 < p * b = rw whole at h in
    rw (
      whole,
      unrank-last c bs b (k % (p * b)) (product-tail c 0 (bs ++ (b ∷ [])) h),
      remainder-remainder p b k some,
      remainder-quotient p b k some,
      quotient-quotient p b k some,
    )

-- one number more is the remainder by its limit, and those before it are of the quotient
pub unrank-next : (bs : List ℕ) (j : ℕ) → 1 ≤ j → j < length bs → 0 < product bs → (k : ℕ)
    → unrank (take (suc j) bs) k ≡ unrank (take j bs) (k / get_or bs j 0) ++ (k % get_or bs j 0 ∷ [])
unrank-next [] j h l some k = absurd (omega arith)
unrank-next (a ∷ bs) zero h l some k = absurd (omega arith)
unrank-next (a ∷ bs) (suc j) h l some k =
    let split : take (suc j) bs ≡ take j bs ++ (get_or bs j 0 ∷ []) = take-suc bs j 0 (omega arith) in
    let more : 0 < product (take (suc j) bs) = product-front (suc j) bs (product-left 1 0 (a ∷ bs) some) in
    rw split (unrank-last a (take j bs) (get_or bs j 0) k (rw split at more))

-- # Order by first parts
-- numbers with two digits, the second below q, are ordered by their first difference
digits-order : (q i j x y : ℕ) → x < q → y < q → (ltb i j || eqb i j && ltb x y) ≡ ltb (i * q + x) (j * q + y)
digits-order q i j x y h k =
    same_truth (ltb i j || eqb i j && ltb x y) (ltb (i * q + x) (j * q + y)) (
      (λ t. (less (i * q + x) (j * q + y)).1 (⊎_elim rises (λ r. equal r.0 ((less x y).0 r.1)) ((lexicographic i j (ltb x y)).0 t))),
      λ t. (lexicographic i j (ltb x y)).1 (back ((less (i * q + x) (j * q + y)).0 t) (ltb j i) refl),
    )
  where
    rises : i < j → i * q + x < j * q + y
    rises l = omega (arith, mul-le-mul_right q l)

    equal : i ≡ j → x < y → i * q + x < j * q + y
    equal e l = omega (arith, ap (λ m. m * q) e)

    back : i * q + x < j * q + y → (b : Bool) → ltb j i ≡ b → (i < j) ⊎ ((i ≡ j) × (ltb x y ≡ true))
    back l true e = absurd (omega (arith, mul-le-mul_right q (ltb-true j i e)))
    back l false e =
        ⊎_elim (λ o. inr (o, (less x y).1 (omega (arith, ap (λ m. m * q) o)))) inl (eq-or-lt_of_le (ltb-false j i e))

-- of a number in digits below q * d, the quotient by d
quotient_digits : (p q d a : ℕ) → p ≡ q * d → 0 < d → a / d ≡ a / p * q + a % p / d
quotient_digits p q d a e h =
    let digits : a ≡ a / p * q * d + a % p = omega (arith, div-add-mod' a p, ap (λ m. a / p * m) e, mul_assoc (a / p) q d) in
    ap (λ m. m / d) digits ∙ mul-add-div_right h (a / p * q) (a % p)

-- the first n numbers of two lists are ordered as their ranks divided by the room of the others are
pub unrank-order : (bs : List ℕ) (n a b : ℕ) → a < product bs → b < product bs
    → before (take n (unrank bs a)) (take n (unrank bs b)) ≡ ltb (a / product (drop n bs)) (b / product (drop n bs))
unrank-order bs zero a b h k = rw (div-eq_of_lt h, div-eq_of_lt k)
unrank-order [] (suc n) a b h k =
    let none : a ≡ 0 = omega arith in
    let neither : b ≡ 0 = omega arith in
    rw (none, neither)
unrank-order (r ∷ bs) (suc n) a b h k =
    let p = product bs in
    let q = product (take n bs) in
    let d = product (drop n bs) in
    let split : p ≡ q * d = product-split n bs in
    let some-room : 0 < p = product-tail r a bs h in
    let some_left : 0 < d = product-left n 0 bs some-room in
    let below : (m : ℕ) → m % p / d < q = λ m. (div-lt_iff_lt-mul some_left).1 (omega (arith, mod-lt m some-room)) in
    rw (unrank-order bs n (a % p) (b % p) (mod-lt a some-room) (mod-lt b some-room))
    (digits-order q (a / p) (b / p) (a % p / d) (b % p / d) (below a) (below b)
    ∙ ap₂ ltb (sym (quotient_digits p q d a split some_left)) (sym (quotient_digits p q d b split some_left)))

-- # The lowest digits
pub lowest-length : (base first k n : ℕ) → length (lowest base first k n) ≡ k
unfolding lowest
lowest-length base first zero n = refl
lowest-length base first (suc k) n =
    length-append (lowest base first k (n / base)) ((first + n % base) ∷ []) ∙ omega (arith, lowest-length base first k (n / base))
