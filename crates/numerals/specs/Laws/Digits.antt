-- How many digits a number has, and digits that are written from the last on. By what is left: the digits of the rest, then the buffer from there on,
-- are what the buffer shall hold.
use Prim.Native.Nat.{ℕ, zero, suc, ◌+◌, ◌*◌, ◌/◌, ◌%◌, ◌^◌, ◌<◌, ◌≤◌}
use Rattle.std.proofs.Common.{mod-lt, add-one, pow-suc, ◌∙◌, append_assoc, length-take-le}
use Rattle.std.proofs.Math.Nat.{one-le-pow}
use native.Mathlib.Omega.{arith}
use Rattle.std.specs.Prelude.{◌≡◌, refl, List, [], ◌∷◌, ◌++◌, length, take, set}
use Rattle.std.proofs.Math.Path.{ap, sym}
use Rattle.std.proofs.Math.ListN.{drop, length-set}
use Rattle.std.proofs.Math.Seq.{drop_at}
use Rattle.std.proofs.lemmas.List.{set_split}
use Rattle.lists.specs.Decimal.{decimal, most_digits}
use Rattle.lists.specs.Radix.{lowest}
use Rattle.lists.specs.Buffers.{Writes}
use Rattle.lists.proofs.Laws.Decimal.{length-one, length_more, word-length, decimal-lowest}
use Rattle.lists.proofs.Laws.Radix.{lowest-length}

-- # How many digits there are
-- one more than the power of ten that the number reaches
pub length-power : (k n : ℕ) → 10 ^ k ≤ n → n < 10 * 10 ^ k → length (decimal n) ≡ k + 1
length-power zero n l h = length-one n h
length-power (suc k) n l h =
    let power : 10 ^ suc k ≡ 10 ^ k * 10 = pow-suc 10 k in
    let ten : 10 ≤ n = omega (arith, one-le-pow k 10 (omega arith)) in
    length_more n ten ∙ ap suc (length-power k (n / 10) (omega arith) (omega arith)) ∙ omega arith

pub numeral-many : (n k : ℕ) → n < 2 ^ 64 → 10 ^ k ≤ n → n < 10 * 10 ^ k → (k + 1 ≡ length (decimal n)) × (k + 1 ≤ most_digits)
numeral-many n k w l h = let count = length-power k n l h in (sym count, omega (arith, word-length n w))

-- # Writing
pub record DigitsLeft (base first count n : ℕ) (before : List ℕ) (left rest : ℕ) (now : List ℕ) : Type 0 where
  pub reached : left ≤ count
  pub fits : count ≤ length before
  pub as_long : length now ≡ length before
  pub leaves : lowest base first left rest ++ drop left now ≡ lowest base first count n ++ drop count before

module _ (base first : ℕ) where
  pub digit-byte : (n : ℕ) → 0 < base → first + base ≤ 256 → first + n % base < 256
  digit-byte n h l = omega (arith, mod-lt n h)

  module _ (count n : ℕ) (before : List ℕ) where
    pub left-all : count ≤ length before → DigitsLeft base first count n before count n before
    left-all h = record { reached = omega arith; fits = h; as_long = refl; leaves = refl }

    module _ (rest : ℕ) (now : List ℕ) where
      pub left-next : (place : ℕ) → DigitsLeft base first count n before (place + 1) rest now
          → DigitsLeft base first count n before place (rest / base) (set now place (first + rest % base))
      unfolding lowest
      left-next place h =
          let digit = first + rest % base in
          let there : drop place (set now place digit) ≡ digit ∷ drop (suc place) now =
          ap (drop place) (set_split now place digit (omega (arith, h.reached, h.fits, h.as_long)))
          ∙ drop_at (take place now) (digit ∷ drop (suc place) now) place (length-take-le place now (omega (arith, h.reached, h.fits, h.as_long))) in
          record {
            reached = omega (arith, h.reached);
            fits = h.fits;
            as_long = simp length-set h.as_long;
            leaves = rw there (sym (append_assoc (lowest base first place (rest / base)) (digit ∷ []) (drop (suc place) now)) ∙ rw add-one at h.leaves);
          }

      pub left-none : (left : ℕ) → DigitsLeft base first count n before left rest now → left ≤ 0 → Writes (lowest base first count n) before count now
      unfolding lowest
      left-none left h l =
          let nothing : left ≡ 0 = omega arith in
          record { count = sym (lowest-length base first count n); buffer = rw lowest-length (rw nothing at h.leaves) }

-- a numeral is written by its digits
pub numeral-written : (n count : ℕ) (before : List ℕ) {taken : ℕ} {after : List ℕ} → count ≡ length (decimal n)
    → Writes (lowest 10 48 count n) before taken after → Writes (decimal n) before taken after
numeral-written n count before e w = rw (decimal-lowest n, ← e) w
