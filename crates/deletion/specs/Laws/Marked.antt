-- Numbers of nodes marked in words of 64 bits. A word with one bit more has that bit and those it had, so one number more is marked with each.
use Rattle.std.specs.Prelude.{ℕ, zero, suc, ◌+◌, ◌-◌, ◌*◌, ◌/◌, ◌%◌, ◌^◌, ◌<◌, ◌≤◌, ◌≡◌, false, ◌||◌, List, [], ◌∷◌, length, take, set, replicate}
use Rattle.std.proofs.Common.{arith, mod-lt, add-zero, one-mul, add-one, ap, ap₂, ◌∙◌, length-set, take-suc, get_or-set_same, get_or-set_other, pow_pos, pow-add, shl_exact}
use Rattle.std.proofs.Math.Nat.{div-eq_of_lt, lt_of_not-le}
use Rattle.std.proofs.Math.Decide.{ℕ_discrete, dec_lt}
use Rattle.std.proofs.Math.Path.{refl, sym}
use Rattle.std.proofs.Math.Bool.{or-false, or-true}
use Rattle.std.proofs.lemmas.List.{length-replicate, get_or-replicate}
use Rattle.std.proofs.Math.Dec.{eqb}
use Rattle.std.proofs.Math.Pow.{pow-lt, low, field}
use Rattle.std.proofs.lemmas.Nat.{shl-shr, or_shr, or_mod}
use Rattle.std.specs.Int.Bits.{bit_or, or_zero_r}
use borrow.Author.Tests.{eq-eqb, ne_eqb, lt-ltb, le-ltb}
use Rattle.lists.specs.Lists.{member, ◌!◌, Below}
use Rattle.lists.proofs.Laws.Lists.{any_append}
use Rattle.lists.proofs.Laws.Places.{at_place}
use Rattle.graph.specs.Packed.{bit}
use Rattle.deletion.specs.Deleted.{words, marked, Marks}

-- # Bits of a word
bit-or : (a b j : ℕ) → bit (bit_or a b) j ≡ bit_or (bit a j) (bit b j)
bit-or a b j = ap (λ (q : ℕ). q % 2) (or_shr a b j) ∙ or_mod (a / 2 ^ j) (b / 2 ^ j) 1

or-one : (b : ℕ) → b < 2 → bit_or b 1 ≡ 1
or-one zero h = refl
or-one (suc zero) h = refl
or-one (suc (suc b)) h = absurd (omega arith)

-- 2 ^ m has bit m alone
power-bit : (m : ℕ) → bit (1 * 2 ^ m) m ≡ 1
power-bit m = ap (λ (q : ℕ). q % 2) (shl-shr 1 m)

power-other : (m j : ℕ) → (j ≡ m → ⊥) → bit (1 * 2 ^ m) j ≡ 0
power-other m j d = rw one-mul (go (dec_lt m j))
  where
    go : Dec (m < j) → bit (2 ^ m) j ≡ 0
    go (yes l) = ap (λ (q : ℕ). q % 2) (div-eq_of_lt (pow-lt l))
    go (no f) =
        let l : j ≤ m = omega (arith, lt_of_not-le f) in
        let e : (m - suc j) + (1 + j) ≡ m = omega arith in
        let high : 2 ^ m ≡ 2 ^ (m - suc j) * 2 ^ (1 + j) + 0 = ap (λ (n : ℕ). 2 ^ n) (sym e) ∙ pow-add 2 (m - suc j) (1 + j) ∙ sym (add-zero _) in
        sym (field (2 ^ m) 1 j) ∙ ap (λ (r : ℕ). r / 2 ^ j) (ap (λ (x : ℕ). x % 2 ^ (1 + j)) high ∙ low (2 ^ (m - suc j)) (1 + j) (pow_pos (1 + j)))
        ∙ div-eq_of_lt (pow_pos j)

-- a word with bit m, as the code makes it
module _ (word m : ℕ) (l : m < 64) where
  abbrev with : ℕ
  with = bit_or word (1 * 2 ^ m % 2 ^ 64)

  with-bits : (j : ℕ) → bit with j ≡ bit_or (bit word j) (bit (1 * 2 ^ m) j)
  with-bits j = ap (λ (b : ℕ). bit (bit_or word b) j) (shl_exact 1 m 64 (omega arith) (omega arith)) ∙ bit-or word (1 * 2 ^ m) j

  with-bit : bit with m ≡ 1
  with-bit = with-bits m ∙ ap (bit_or (bit word m)) (power-bit m) ∙ or-one (bit word m) (mod-lt (word / 2 ^ m) (omega arith))

  with-other : (j : ℕ) → (j ≡ m → ⊥) → bit with j ≡ bit word j
  with-other j d = with-bits j ∙ ap (bit_or (bit word j)) (power-other m j d) ∙ or_zero_r (bit word j)

-- # One number more
module _ (marks : List ℕ) (k : ℕ) (room : length marks ≡ words) (below : k < 2 ^ 16) where
  abbrev more : List ℕ
  more = set marks (k / 64) (with (marks ! (k / 64)) (k % 64) (omega arith))

  marked-itself : bit (more ! (k / 64)) (k % 64) ≡ 1
  marked-itself =
      ap (λ (w : ℕ). bit w (k % 64)) (get_or-set_same marks (k / 64) _ 0 (omega arith)) ∙ with-bit (marks ! (k / 64)) (k % 64) (omega arith)

  marked_other : (n : ℕ) → (n ≡ k → ⊥) → bit (more ! (n / 64)) (n % 64) ≡ bit (marks ! (n / 64)) (n % 64)
  marked_other n d = go (ℕ_discrete (n / 64) (k / 64))
    where
      go : Dec (n / 64 ≡ k / 64) → bit (more ! (n / 64)) (n % 64) ≡ bit (marks ! (n / 64)) (n % 64)
      go (no f) = ap (λ (w : ℕ). bit w (n % 64)) (get_or-set_other marks (k / 64) (n / 64) _ 0 f)
      go (yes e) =
          ap (λ (w : ℕ). bit w (n % 64)) (ap (λ (i : ℕ). more ! i) e ∙ get_or-set_same marks (k / 64) _ 0 (omega arith))
          ∙ with-other (marks ! (k / 64)) (k % 64) (omega arith) (n % 64) (λ f. d (omega arith))
          ∙ ap (λ (i : ℕ). bit (marks ! i) (n % 64)) (sym e)

  marked_more : (n : ℕ) → marked more n ≡ (marked marks n || eqb n k)
  unfolding marked
  marked_more n = go (dec_lt n (2 ^ 16)) (ℕ_discrete n k)
    where
      go : Dec (n < 2 ^ 16) → Dec (n ≡ k) → marked more n ≡ (marked marks n || eqb n k)
      go (no f) d = let l : 2 ^ 16 ≤ n = omega (arith, lt_of_not-le f) in rw (le-ltb n (2 ^ 16) l, ne_eqb n k (λ e. omega arith))
      go (yes l) (yes e) =
          rw (eq-eqb n k e) (rw (lt-ltb n (2 ^ 16) l, e, marked-itself) refl ∙ sym (or-true (marked marks n)))
      go (yes l) (no d) = rw (ne_eqb n k d, marked_other n d) (sym (or-false (marked marks n)))

-- # The pass
pub marks-none : Marks [] (replicate words 0)
unfolding marked
marks-none = record { room = length-replicate {A = ℕ} words 0; same = λ n. go n (dec_lt n (2 ^ 16)) }
  where
    go : (n : ℕ) → Dec (n < 2 ^ 16) → marked (replicate words 0) n ≡ false
    go n (no f) = let l : 2 ^ 16 ≤ n = omega (arith, lt_of_not-le f) in rw (le-ltb n (2 ^ 16) l)
    go n (yes l) =
        let w : replicate words 0 ! (n / 64) ≡ 0 = get_or-replicate words (n / 64) 0 0 (omega arith) in
        let b : bit 0 (n % 64) ≡ 0 = ap (λ (q : ℕ). q % 2) (div-eq_of_lt (pow_pos (n % 64))) in
        rw (lt-ltb n (2 ^ 16) l, w, b)

-- the first i of the numbers are marked
pub record Marking (numbers : List ℕ) (i : ℕ) (marks : List ℕ) : Type 0 where
  pub reached : i ≤ length numbers
  pub done : Marks (take i numbers) marks

module _ (numbers marks : List ℕ) where
  pub marking-start : Marks [] marks → Marking numbers 0 marks
  marking-start m = record { reached = omega arith; done = m }

  module _ (i : ℕ) (h : Marking numbers i marks) where
    module _ (below : Below (2 ^ 16) numbers) (l : i < length numbers) where
      number-low : numbers ! i < 2 ^ 16
      number-low = below (numbers ! i) (at_place numbers i 0 l)

      pub marking-word : numbers ! i / 64 < length marks
      marking-word = omega (arith, number-low, h.done.room)

      pub marking-more :
          Marking numbers (i + 1) (set marks (numbers ! i / 64) (bit_or (marks ! (numbers ! i / 64)) (1 * 2 ^ (numbers ! i % 64) % 2 ^ 64)))
      marking-more = record {
        reached = omega arith;
        done = record {
          room = length-set marks (numbers ! i / 64) _ ∙ h.done.room;
          same = λ n.
              marked_more marks (numbers ! i) h.done.room number-low n
              ∙ ap₂ ◌||◌ (h.done.same n) (sym (or-false (eqb n (numbers ! i))))
              ∙ sym (any_append (eqb n) (take i numbers) (numbers ! i ∷ []))
              ∙ ap (λ (ns : List ℕ). member ns n) (sym (take-suc numbers i 0 l) ∙ ap (λ (j : ℕ). take j numbers) (sym (add-one i)));
        };
      }

-- # Whether a number is marked
module _ (marks : List ℕ) (n : ℕ) where
  pub marked-low : n < 2 ^ 16 → eqb (bit (marks ! (n / 64)) (n % 64)) 1 ≡ marked marks n
  unfolding marked
  marked-low l = rw (lt-ltb n (2 ^ 16) l)

  pub marked-high : 2 ^ 16 ≤ n → false ≡ marked marks n
  unfolding marked
  marked-high l = rw (le-ltb n (2 ^ 16) l)
