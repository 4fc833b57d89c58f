-- A text walked byte by byte, and a number digit by digit: what holds after each step, by what is left.
use Prim.Native.Nat.{ℕ, suc, ◌+◌, ◌/◌, ◌^◌, ◌<◌, ◌≤◌}
use native.Mathlib.Omega.{arith}
use Rattle.std.proofs.Common.{add-one, drop_of_length-le}
use Rattle.std.specs.Prelude.{◌≡◌, get_or, drop, None}
use Rattle.std.proofs.Math.Bool.{and-false}
use mathlib.Core.List.{List}
use Rattle.std.proofs.Math.ListN.{length}
use Rattle.std.proofs.Math.Seq.{drop-cons}
use borrow.Author.Tests.{eq-eqb, ne_eqb, lt-leb}
use Rattle.lists.specs.Decimal.{decimal, most_digits}
use Rattle.lists.proofs.Laws.Decimal.{length-one, length_more, length-positive, word-length}
use Rattle.numerals.specs.Scan.{up_to, numeral_below}
use Rattle.numerals.specs.Laws.Scan.{Reads, numeral-other}

-- # Where a byte stands
-- the byte is not among the first i
pub record Unmet (byte : ℕ) (s : List ℕ) (i : ℕ) : Type 0 where
  pub within : i ≤ length s
  pub left : up_to byte s ≡ i + up_to byte (drop i s)

module _ {byte : ℕ} {s : List ℕ} where
  pub unmet-first : Unmet byte s 0
  unmet-first = record { within = omega arith; left = omega arith }

  module _ {i : ℕ} (u : Unmet byte s i) where
    pub up_to-here : i < length s → get_or s i 0 ≡ byte → i ≡ up_to byte s
    unfolding up_to
    up_to-here h e =
        let here : up_to byte (drop i s) ≡ 0 = rw (drop-cons s i 0 h, eq-eqb (get_or s i 0) byte e) in
        omega (arith, u.left)

    pub unmet-next : i < length s → (get_or s i 0 ≡ byte → ⊥) → Unmet byte s (i + 1)
    unfolding up_to
    unmet-next h e =
        let next : up_to byte (drop i s) ≡ suc (up_to byte (drop (i + 1) s)) = rw (add-one, drop-cons s i 0 h, ne_eqb (get_or s i 0) byte e) in
        record { within = omega arith; left = omega (arith, u.left) }

    pub up_to-nowhere : length s ≤ i → i ≡ up_to byte s
    unfolding up_to
    up_to-nowhere h = let none : up_to byte (drop i s) ≡ 0 = rw (drop_of_length-le s h) in omega (arith, u.left, u.within)

-- # Bytes that are no digits
module _ {below : ℕ} {s : List ℕ} {v i : ℕ} (r : Reads below s v i) (h : i < length s) where
  pub numeral-low : get_or s i 0 < 48 → None ≡ numeral_below below s
  numeral-low low = numeral-other r h (rw (lt-leb 48 (get_or s i 0) low))

  pub numeral-high : 57 < get_or s i 0 → None ≡ numeral_below below s
  numeral-high high = numeral-other r h (rw (lt-leb (get_or s i 0) 57 high, and-false))

-- # How many digits a number has
-- the last digit of the rest is counted already
pub record Counted (n digits rest : ℕ) : Type 0 where
  pub counted : digits + length (decimal rest) ≡ suc (length (decimal n))

module _ (n digits rest : ℕ) (h : Counted n digits rest) where
  pub counted-few : n < 2 ^ 64 → digits ≤ most_digits
  counted-few l = omega (arith, h.counted, length-positive rest, word-length n l)

  pub counted-more : 10 ≤ rest → Counted n (digits + 1) (rest / 10)
  counted-more l = record { counted = omega (arith, h.counted, length_more rest l) }

  pub counted-all : rest < 10 → digits ≡ length (decimal n)
  counted-all l = omega (arith, h.counted, length-one rest l)
