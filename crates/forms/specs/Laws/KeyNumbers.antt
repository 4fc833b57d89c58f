-- A key's number, which is that of no other text.
-- By what is left of the text, as a loop over it goes: what is read and what is left give what the whole does.
use Rattle.std.specs.Prelude.{ℕ, zero, suc, ◌+◌, ◌*◌, ◌^◌, ◌<◌, ◌≤◌, ◌≡◌, refl, Bool, true, false, List, [], ◌∷◌, eqb, ltb, length, get_or, take, drop}
use Rattle.std.proofs.Common.{arith, add-one, pow-suc, ap, ◌∙◌, sym, drop_of_length-le, drop-cons, eq-eqb, eqb-true, lt-ltb, le-ltb, ltb-true, ltb-false}
use Rattle.std.proofs.Math.Nat.{pow-le-pow_right}
use Rattle.lists.specs.Lists.{all}
use Rattle.lists.specs.Order.{same}
use Rattle.lists.proofs.Laws.Lists.{both, same_truth}
use Rattle.lists.proofs.Laws.Order.{same-list}
use Rattle.forms.specs.Forms.{key_from, key_number}

-- each number of the text is a byte
abbrev pub Bytes : List ℕ → Type 0
Bytes s = (i : ℕ) → get_or s i 0 < 256

-- bytes written out are found to be so by a test, and those of a text's first part are the text's
pub bytes-tested : (s : List ℕ) → all (λ b. ltb b 256) s ≡ true → Bytes s
bytes-tested [] h i = omega arith
bytes-tested (b ∷ s) h zero = ltb-true b 256 ((both (ltb b 256) (all (λ c. ltb c 256) s)).0 h).0
bytes-tested (b ∷ s) h (suc i) = bytes-tested s ((both (ltb b 256) (all (λ c. ltb c 256) s)).0 h).1 i

pub bytes_take : (n : ℕ) (s : List ℕ) → Bytes s → Bytes (take n s)
bytes_take zero s h i = omega arith
bytes_take (suc n) [] h i = omega arith
bytes_take (suc n) (b ∷ s) h zero = h 0
bytes_take (suc n) (b ∷ s) h (suc i) = bytes_take n s (λ j. h (suc j)) i

-- i bytes of a text no longer than a key are read, and make k
pub record Keyed (s : List ℕ) (k i : ℕ) : Type 0 where
  pub within : i ≤ length s
  pub short : length s ≤ 5
  pub room : k < 2 * 256 ^ i
  pub left : key_number s ≡ key_from k (drop i s)

pub key-long : (s : List ℕ) → 5 < length s → 0 ≡ key_number s
unfolding key_number
key-long s h = rw (lt-ltb 5 (length s) h)

key-short : (s : List ℕ) → length s ≤ 5 → key_number s ≡ key_from 1 s
unfolding key_number
key-short s h = rw (le-ltb 5 (length s) h)

pub keyed-none : (s : List ℕ) → length s ≤ 5 → Keyed s 1 0
keyed-none s h = record { within = omega arith; short = h; room = omega arith; left = key-short s h }

module _ {s : List ℕ} {k i : ℕ} (r : Keyed s k i) where
  pub keyed-room : i < length s → k < 2 * 256 ^ 4
  keyed-room h =
      let before : i ≤ 4 = omega arith in
      let power : 256 ^ i ≤ 256 ^ 4 = pow-le-pow_right (omega arith) before in
      omega arith

  pub keyed-more : i < length s → Bytes s → Keyed s (k * 256 + get_or s i 0) (i + 1)
  keyed-more h b =
      let byte : get_or s i 0 < 256 = b i in
      let more : 256 ^ (i + 1) ≡ 256 ^ i * 256 = rw (add-one, pow-suc) in
      record { within = omega arith; short = r.short; room = omega arith; left = r.left ∙ rw (add-one, drop-cons s i 0 h) }

  pub keyed-all : length s ≤ i → k ≡ key_number s
  keyed-all h = sym (r.left ∙ rw (drop_of_length-le s h))

key-grows : (v : ℕ) (bs : List ℕ) → v ≤ key_from v bs
key-grows v [] = omega arith
key-grows v (b ∷ bs) = omega (arith, key-grows (v * 256 + b) bs)

-- neither number is twice the other or more, which stays so byte by byte: so one text can't end before the other
key-from-determines : (v w : ℕ) (a b : List ℕ) → Bytes a → Bytes b → v < 2 * w → w < 2 * v → key_from v a ≡ key_from w b → (v ≡ w) × (a ≡ b)
key-from-determines v w [] [] p q l m e = (e, refl)
key-from-determines v w [] (y ∷ b) p q l m e = absurd (omega (arith, key-grows (w * 256 + y) b))
key-from-determines v w (x ∷ a) [] p q l m e = absurd (omega (arith, key-grows (v * 256 + x) a))
key-from-determines v w (x ∷ a) (y ∷ b) p q l m e =
    let x< : x < 256 = p 0 in
    let y< : y < 256 = q 0 in
    let r = key-from-determines (v * 256 + x) (w * 256 + y) a b (λ i. p (suc i)) (λ i. q (suc i)) (omega arith) (omega arith) e in
    let heads : v * 256 + x ≡ w * 256 + y = r.0 in
    let same_head : x ≡ y = omega arith in
    (omega arith, rw (same_head, r.1))

-- a key's number is that of no other text
key-determines : (k s : List ℕ) → Bytes k → Bytes s → length k ≤ 5 → key_number k ≡ key_number s → k ≡ s
key-determines k s p q h e = go (ltb 5 (length s)) refl
  where
    go : (t : Bool) → ltb 5 (length s) ≡ t → k ≡ s
    go true l = absurd (omega (arith, e, key-short k h, key-grows 1 k, key-long s (ltb-true 5 (length s) l)))
    go false l =
        (key-from-determines 1 1 k s p q (omega arith) (omega arith) (sym (key-short k h) ∙ e ∙ key-short s (ltb-false 5 (length s) l))).1

-- so keys are compared by their numbers
pub key-same : (k s : List ℕ) → Bytes k → Bytes s → length k ≤ 5 → eqb (key_number k) (key_number s) ≡ same k s
key-same k s p q h =
    same_truth (eqb (key_number k) (key_number s)) (same k s) (
      (λ t. (same-list k s).1 (key-determines k s p q h (eqb-true (key_number k) (key_number s) t))),
      λ t. eq-eqb (key_number k) (key_number s) (ap key_number ((same-list k s).0 t)),
    )
