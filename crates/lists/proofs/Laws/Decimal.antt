-- A number's numeral reads back as the number, a numeral is its number's numeral, larger numbers have numerals at least as long, and a numeral is
-- its number's lowest digits.
-- By induction from a tenth of a number to the number, once the digits are known not to depend on how many are allowed.
use Rattle.std.specs.Prelude.{ℕ, zero, suc, ◌+◌, ◌*◌, ◌-◌, ◌/◌, ◌%◌, ◌^◌, ◌<◌, ◌≤◌, ◌≡◌, refl, Bool, true, false, not, List, [], ◌∷◌, ◌++◌, length, eqb, ltb}
use Rattle.std.proofs.Common.{arith, ap, ◌∙◌, sym, subst, append_assoc, append-nil, length-append, lt-ltb, le-ltb, ltb-true, ltb-false, ne_eqb}
use Rattle.std.proofs.lemmas.Bool.{false≢true}
use Rattle.lists.specs.Lists.{◌∈◌, all, member}
use Rattle.lists.specs.Decimal.{digits, decimal, most_digits, value_from, value, is_digit, is_numeral}
use Rattle.lists.specs.Radix.{lowest}
use Rattle.lists.proofs.Laws.Lists.{both, all-members, no_member, Truth}

-- # The digits of a number
-- a number below 10 is one digit; any other has the digits of its tenth, and one more
module _ (P : ℕ → Type 0) (one : (n : ℕ) → n < 10 → P n) (more : (n : ℕ) → 10 ≤ n → P (n / 10) → P n) where
  at-tenth : (k n : ℕ) → n < suc k → (n / 10 < k → P (n / 10)) → (t : Bool) → ltb n 10 ≡ t → P n
  at-tenth k n h ih true e = one n (ltb-true n 10 e)
  at-tenth k n h ih false e = let l = ltb-false n 10 e in more n l (ih (omega arith))

  below-fuel : (k n : ℕ) → n < k → P n
  below-fuel zero n h = absurd (omega arith)
  below-fuel (suc k) n h = at-tenth k n h (below-fuel k (n / 10)) (ltb n 10) refl

  by-tenths : (n : ℕ) → P n
  by-tenths n = below-fuel (suc n) n (omega arith)

abbrev Fueled : ℕ → Type 0
Fueled n = (j k : ℕ) → n < j → n < k → digits j n ≡ digits k n

fuel-one : (n : ℕ) → n < 10 → Fueled n
fuel-one n h zero k l m = absurd (omega arith)
fuel-one n h (suc j) zero l m = absurd (omega arith)
fuel-one n h (suc j) (suc k) l m = rw (lt-ltb n 10 h)

fuel-more : (n : ℕ) → 10 ≤ n → Fueled (n / 10) → Fueled n
fuel-more n h ih zero k l m = absurd (omega arith)
fuel-more n h ih (suc j) zero l m = absurd (omega arith)
fuel-more n h ih (suc j) (suc k) l m = rw (le-ltb n 10 h, ih j k (omega arith) (omega arith))

digits-fuel : (n : ℕ) → Fueled n
digits-fuel = by-tenths Fueled fuel-one fuel-more

-- the numeral of a digit, and of a number with more digits
decimal-one : (n : ℕ) → n < 10 → decimal n ≡ (48 + n) ∷ []
decimal-one n h = rw (lt-ltb n 10 h)

decimal-more : (n : ℕ) → 10 ≤ n → decimal n ≡ decimal (n / 10) ++ ((48 + n % 10) ∷ [])
decimal-more n h = rw (le-ltb n 10 h, digits-fuel (n / 10) n (suc (n / 10)) (omega arith) (omega arith))

-- # There and back
value-snoc : (v b : ℕ) (xs : List ℕ) → value_from v (xs ++ (b ∷ [])) ≡ value_from v xs * 10 + (b - 48)
value-snoc v b [] = refl
value-snoc v b (x ∷ xs) = value-snoc (v * 10 + (x - 48)) b xs

-- "Numerals here and in the files are decimal": what is written reads back
pub value-decimal : (n : ℕ) → value (decimal n) ≡ n
value-decimal = by-tenths (λ n. value (decimal n) ≡ n) value-one value-more
  where
    value-one : (n : ℕ) → n < 10 → value (decimal n) ≡ n
    value-one n h = rw (decimal-one n h) (omega arith)

    value-more : (n : ℕ) → 10 ≤ n → value (decimal (n / 10)) ≡ n / 10 → value (decimal n) ≡ n
    value-more n h ih = rw (decimal-more n h, value-snoc 0 (48 + n % 10) (decimal (n / 10)), ih) (omega arith)

-- a digit is written below a number that has digits already
decimal-next : (v b : ℕ) → 1 ≤ v → is_digit b ≡ true → decimal (v * 10 + (b - 48)) ≡ decimal v ++ (b ∷ [])
decimal-next v b h d =
    let r = simp Truth at d in
    let q : (v * 10 + (b - 48)) / 10 ≡ v = omega arith in
    let m : 48 + (v * 10 + (b - 48)) % 10 ≡ b = omega arith in
    rw (decimal-more (v * 10 + (b - 48)) (omega arith), q, m)

value-from : (v : ℕ) (bs : List ℕ) → 1 ≤ v → all is_digit bs ≡ true → decimal (value_from v bs) ≡ decimal v ++ bs
value-from v [] h d = sym (append-nil (decimal v))
value-from v (b ∷ bs) h d =
    let e = (both (is_digit b) (all is_digit bs)).0 d in
    value-from (v * 10 + (b - 48)) bs (omega arith) e.1
    ∙ ap (λ t. t ++ bs) (decimal-next v b h e.0)
    ∙ append_assoc (decimal v) (b ∷ []) bs

decimal-first : (b : ℕ) → is_digit b ≡ true → decimal (value (b ∷ [])) ≡ b ∷ []
decimal-first b h =
    let d = simp Truth at h in
    let e : 48 + value (b ∷ []) ≡ b = omega arith in
    decimal-one (value (b ∷ [])) (omega arith) ∙ ap (λ c. c ∷ []) e

-- "A number has no sign and no leading zero": a numeral is what its number is written as
pub decimal-value : (t : List ℕ) → is_numeral t ≡ true → decimal (value t) ≡ t
decimal-value [] h = absurd (false≢true h)
decimal-value (b ∷ []) h = decimal-first b h
decimal-value (b ∷ c ∷ bs) h =
    let e = (both (not (eqb b 48)) (all is_digit (b ∷ c ∷ bs))).0 h in
    let d = (both (is_digit b) (all is_digit (c ∷ bs))).0 e.1 in
    let digit = simp Truth at d.0 in
    let lead = simp Truth at e.0 in
    value-from (value (b ∷ [])) (c ∷ bs) (omega arith) d.1 ∙ ap (λ t. t ++ (c ∷ bs)) (decimal-first b d.0)

-- # The digits of a numeral
-- no other bytes stand in a numeral
numeral-digits : (t : List ℕ) → is_numeral t ≡ true → all is_digit t ≡ true
numeral-digits [] h = refl
numeral-digits (b ∷ []) h = rw h
numeral-digits (b ∷ c ∷ bs) h = ((both (not (eqb b 48)) (all is_digit (b ∷ c ∷ bs))).0 h).1

-- a numeral of a number that is not 0 starts with no zero
record Leads (t : List ℕ) : Type 0 where
  first : ℕ
  rest : List ℕ
  spelled : t ≡ first ∷ rest
  nonzero : eqb first 48 ≡ false
  digit : all is_digit (first ∷ rest) ≡ true

digit-of : (n : ℕ) → n < 10 → is_digit (48 + n) ≡ true
digit-of n h = simp Truth (omega arith)

all_snoc : (bs : List ℕ) (b : ℕ) → all is_digit bs ≡ true → is_digit b ≡ true → all is_digit (bs ++ (b ∷ [])) ≡ true
all_snoc [] b h d = simp d
all_snoc (c ∷ bs) b h d = let e = (both (is_digit c) (all is_digit bs)).0 h in simp (e.0, all_snoc bs b e.1 d)

leads-snoc : (t : List ℕ) (b : ℕ) → is_digit b ≡ true → Leads t → Leads (t ++ (b ∷ []))
leads-snoc t b d l =
    record {
      first = l.first;
      rest = l.rest ++ (b ∷ []);
      spelled = ap (λ u. u ++ (b ∷ [])) l.spelled;
      nonzero = l.nonzero;
      digit = all_snoc (l.first ∷ l.rest) b l.digit d;
    }

leads_one : (n : ℕ) → n < 10 → 1 ≤ n → Leads (decimal n)
leads_one n h l =
    record {
      first = 48 + n;
      rest = [];
      spelled = decimal-one n h;
      nonzero = simp Truth (omega arith);
      digit = rw (digit-of n h);
    }

decimal-leads : (n : ℕ) → 1 ≤ n → Leads (decimal n)
decimal-leads =
    by-tenths (λ n. 1 ≤ n → Leads (decimal n)) leads_one
    (λ n h ih l.
    subst Leads (sym (decimal-more n h)) (leads-snoc (decimal (n / 10)) (48 + n % 10) (digit-of (n % 10) (omega arith)) (ih (omega arith))))

leads-numeral : (b : ℕ) (bs : List ℕ) → eqb b 48 ≡ false → all is_digit (b ∷ bs) ≡ true → is_numeral (b ∷ bs) ≡ true
leads-numeral b [] h d = ((both (is_digit b) true).0 d).0
leads-numeral b (c ∷ bs) h d = rw (h, d)

-- what a number is written as is a numeral
pub decimal-numeral : (n : ℕ) → is_numeral (decimal n) ≡ true
decimal-numeral zero = refl
decimal-numeral (suc n) =
    let l = decimal-leads (suc n) (omega arith) in
    ap is_numeral l.spelled ∙ leads-numeral l.first l.rest l.nonzero l.digit

-- the bytes of a number's numeral are digits
decimal-digits : (n b : ℕ) → b ∈ decimal n → is_digit b ≡ true
decimal-digits n = (all-members is_digit (decimal n)).0 (numeral-digits (decimal n) (decimal-numeral n))

-- so a byte that is no digit does not stand in it
pub decimal-without : (c n : ℕ) → is_digit c ≡ false → member (decimal n) c ≡ false
decimal-without c n h = (no_member (eqb c) (decimal n)).1 (λ b i. ne_eqb c b (λ e. false≢true (sym h ∙ ap is_digit e ∙ decimal-digits n b i)))

-- # Lengths
pub length-one : (n : ℕ) → n < 10 → length (decimal n) ≡ 1
length-one n h = ap length (decimal-one n h)

pub length_more : (n : ℕ) → 10 ≤ n → length (decimal n) ≡ suc (length (decimal (n / 10)))
length_more n h = ap length (decimal-more n h) ∙ length-append (decimal (n / 10)) ((48 + n % 10) ∷ []) ∙ (omega arith)

pub length-positive : (n : ℕ) → 1 ≤ length (decimal n)
length-positive =
    by-tenths (λ n. 1 ≤ length (decimal n)) (λ n h. omega (arith, length-one n h)) (λ n h ih. omega (arith, length_more n h))

-- a larger number's numeral is at least as long
pub decimal-length : (m n : ℕ) → m ≤ n → length (decimal m) ≤ length (decimal n)
decimal-length = by-tenths (λ m. (n : ℕ) → m ≤ n → length (decimal m) ≤ length (decimal n)) one more
  where
    one : (m : ℕ) → m < 10 → (n : ℕ) → m ≤ n → length (decimal m) ≤ length (decimal n)
    one m h n l = omega (arith, length-one m h, length-positive n)

    more : (m : ℕ) → 10 ≤ m → ((n : ℕ) → m / 10 ≤ n → length (decimal (m / 10)) ≤ length (decimal n)) → (n : ℕ) → m ≤ n
        → length (decimal m) ≤ length (decimal n)
    more m h ih n l = omega (arith, length_more m h, length_more n (omega arith), ih (n / 10) (omega arith))

pub word-length : (n : ℕ) → n < 2 ^ 64 → length (decimal n) ≤ most_digits
word-length n h = decimal-length n (2 ^ 64 - 1) (omega arith)

-- # The lowest digits
pub decimal-lowest : (n : ℕ) → decimal n ≡ lowest 10 48 (length (decimal n)) n
unfolding lowest
decimal-lowest = by-tenths (λ n. decimal n ≡ lowest 10 48 (length (decimal n)) n) one more
  where
    one : (n : ℕ) → n < 10 → decimal n ≡ lowest 10 48 (length (decimal n)) n
    one n h = let e : n ≡ n % 10 = omega arith in decimal-one n h ∙ ap (λ d. (48 + d) ∷ []) e ∙ rw (length-one n h)

    more : (n : ℕ) → 10 ≤ n → decimal (n / 10) ≡ lowest 10 48 (length (decimal (n / 10))) (n / 10) → decimal n ≡ lowest 10 48 (length (decimal n)) n
    more n h ih = decimal-more n h ∙ ap (λ l. l ++ ((48 + n % 10) ∷ [])) ih ∙ rw (length_more n h)
