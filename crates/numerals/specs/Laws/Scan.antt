-- Where a byte stands and the pieces of a text there, and the numeral that a text is.
-- By what is left of the text, as a loop over it goes: what is read and what is left give what the whole does.
use Prim.Native.Nat.{ℕ, suc, ◌+◌, ◌*◌, ◌-◌, ◌<◌, ◌≤◌}
use native.Mathlib.Omega.{arith}
use Rattle.std.proofs.Common.{add-one, ap, ◌∙◌, drop_of_length-le}
use Rattle.std.specs.Prelude.{◌≡◌, Bool, true, false, cond, ◌&&◌, eqb, ltb, get_or, take, drop, Option, None, Some, unwrap_or, position}
use Rattle.std.specs.List.{position_or_len}
use Rattle.std.proofs.lemmas.List.Recursion.{is_position_or_len}
use Rattle.std.proofs.Math.Path.{refl, sym}
use Rattle.std.proofs.Math.Bool.{and-true, and-false}
use mathlib.Core.List.{List, [], ◌∷◌}
use Rattle.std.proofs.Math.ListN.{length}
use Rattle.std.proofs.Math.Seq.{drop-cons}
use borrow.Author.Tests.{eq-eqb, ne_eqb, lt-ltb, le-ltb, ltb-false}
use Rattle.lists.specs.Lists.{all}
use Rattle.lists.specs.Text.{pieces, to_first}
use Rattle.lists.specs.Decimal.{value_from, is_digit, is_numeral}
use Rattle.numerals.specs.Scan.{up_to, numeral_below}

-- # Where a byte stands
pub up_to-bound : (byte : ℕ) (s : List ℕ) → up_to byte s ≤ length s
unfolding up_to
up_to-bound byte [] = omega arith
up_to-bound byte (x ∷ xs) = go (eqb x byte) (up_to-bound byte xs)
  where
    go : (t : Bool) → up_to byte xs ≤ length xs → cond t 0 (suc (up_to byte xs)) ≤ suc (length xs)
    go true h = omega arith
    go false h = omega arith

-- it is where the byte is found, or the length
pub up_to-found : (byte : ℕ) (s : List ℕ) → unwrap_or (position (λ b. eqb b byte) s) (length s) ≡ up_to byte s
unfolding up_to
up_to-found byte s = go (ltb n (length s)) refl ∙ sym (at_place)
  where
    at_place : up_to byte s ≡ position_or_len (λ b. eqb b byte) s
    at_place = is_position_or_len (up_to byte) (λ b. eqb b byte) refl (λ x xs. ap (cond (eqb x byte) 0) (omega arith)) s

    n : ℕ
    n = position_or_len (λ b. eqb b byte) s

    go : (t : Bool) → ltb n (length s) ≡ t → unwrap_or (cond t (Some n) None) (length s) ≡ n
    go true e = refl
    go false e = omega (arith, ltb-false n (length s) e, up_to-bound byte s, at_place)

-- # The pieces of a text
-- up to the first such byte the text is its first piece, and the other pieces are those of what follows
pub pieces-up-to : (sep : ℕ) (s : List ℕ) → up_to sep s < length s → pieces sep s ≡ take (up_to sep s) s ∷ pieces sep (drop (suc (up_to sep s)) s)
unfolding up_to
pieces-up-to sep [] h = absurd (omega arith)
pieces-up-to sep (x ∷ xs) h = go (eqb x sep) (pieces-up-to sep xs) h
  where
    go : (t : Bool)
        → (up_to sep xs < length xs → pieces sep xs ≡ take (up_to sep xs) xs ∷ pieces sep (drop (suc (up_to sep xs)) xs))
        → cond t 0 (suc (up_to sep xs)) < suc (length xs)
        → cond t ([] ∷ pieces sep xs) (to_first x (pieces sep xs))
        ≡ take (cond t 0 (suc (up_to sep xs))) (x ∷ xs) ∷ pieces sep (drop (suc (cond t 0 (suc (up_to sep xs)))) (x ∷ xs))
    go true ih l = refl
    go false ih l = ap (to_first x) (ih (omega arith))

-- where there is no such byte the text is one piece
pub pieces_whole : (sep : ℕ) (s : List ℕ) → length s ≤ up_to sep s → pieces sep s ≡ s ∷ []
unfolding up_to
pieces_whole sep [] h = refl
pieces_whole sep (x ∷ xs) h = go (eqb x sep) (pieces_whole sep xs) h
  where
    go : (t : Bool) → (length xs ≤ up_to sep xs → pieces sep xs ≡ xs ∷ []) → suc (length xs) ≤ cond t 0 (suc (up_to sep xs))
        → cond t ([] ∷ pieces sep xs) (to_first x (pieces sep xs)) ≡ (x ∷ xs) ∷ []
    go true ih l = absurd (omega arith)
    go false ih l = ap (to_first x) (ih (omega arith))

-- # The numeral that a text is
-- the numeral of which the digits of v are read, and bs are left
unfoldable pub digits_below : (below v : ℕ) → List ℕ → Option ℕ
digits_below below v bs = cond (all is_digit bs && ltb (value_from v bs) below) (Some (value_from v bs)) None

value_grows : (v : ℕ) (bs : List ℕ) → v ≤ value_from v bs
value_grows v [] = omega arith
value_grows v (b ∷ bs) = omega (arith, value_grows (v * 10 + (b - 48)) bs)

module _ (below v : ℕ) where
  digits_more : (b : ℕ) (bs : List ℕ) → is_digit b ≡ true → digits_below below v (b ∷ bs) ≡ digits_below below (v * 10 + (b - 48)) bs
  unfolding digits_below
  digits_more b bs d = simp d

  digits-other : (b : ℕ) (bs : List ℕ) → is_digit b ≡ false → digits_below below v (b ∷ bs) ≡ None
  unfolding digits_below
  digits-other b bs d = simp d

  digits-large : (bs : List ℕ) → below ≤ v → digits_below below v bs ≡ None
  unfolding digits_below
  digits-large bs h = simp (le-ltb (value_from v bs) below (omega (arith, value_grows v bs)), and-false)

-- without a leading zero, a text is a numeral if all its bytes are digits
numeral-digits : (s : List ℕ) → 0 < length s → (1 < length s → get_or s 0 0 ≡ 48 → ⊥) → is_numeral s ≡ all is_digit s
numeral-digits [] h z = absurd (omega arith)
numeral-digits (b ∷ []) h z = sym (and-true (is_digit b))
numeral-digits (b ∷ c ∷ bs) h z = rw (ne_eqb b 48 (z (omega arith)))

-- i digits of a text are read, and spell v, which may be the limit itself only before the first digit, where the limit is 0
pub record Reads (below : ℕ) (s : List ℕ) (v i : ℕ) : Type 0 where
  pub within : i ≤ length s
  pub nonempty : 0 < length s
  pub most : v ≤ below
  pub less : 0 < i → v < below
  pub left : numeral_below below s ≡ digits_below below v (drop i s)

module _ (below : ℕ) where
  pub numeral-empty : (s : List ℕ) → length s ≡ 0 → None ≡ numeral_below below s
  unfolding numeral_below
  numeral-empty [] h = refl
  numeral-empty (b ∷ bs) h = absurd (omega arith)

  pub numeral-leading-zero : (s : List ℕ) → 1 < length s → get_or s 0 0 ≡ 48 → None ≡ numeral_below below s
  unfolding numeral_below
  numeral-leading-zero [] h z = absurd (omega arith)
  numeral-leading-zero (b ∷ []) h z = absurd (omega arith)
  numeral-leading-zero (b ∷ c ∷ bs) h z = rw (eq-eqb b 48 z)

  pub reads_none : (s : List ℕ) → (length s ≡ 0 → ⊥) → (1 < length s → get_or s 0 0 ≡ 48 → ⊥) → Reads below s 0 0
  unfolding numeral_below digits_below
  reads_none s h z =
      let nonempty : 0 < length s = omega arith in
      record {
        within = omega arith;
        nonempty = nonempty;
        most = omega arith;
        less = λ l. absurd (omega arith);
        left = rw (numeral-digits s nonempty z);
      }

module _ {below : ℕ} {s : List ℕ} {v i : ℕ} (r : Reads below s v i) where
  module _ (h : i < length s) where
    pub numeral-other : is_digit (get_or s i 0) ≡ false → None ≡ numeral_below below s
    numeral-other d = sym (r.left ∙ rw (drop-cons s i 0 h, digits-other below v (get_or s i 0) (drop (suc i) s) d))

    module _ (digit : is_digit (get_or s i 0) ≡ true) where
      left_after : numeral_below below s ≡ digits_below below (v * 10 + (get_or s i 0 - 48)) (drop (i + 1) s)
      left_after =
          r.left
          ∙ rw (add-one, drop-cons s i 0 h, digits_more below v (get_or s i 0) (drop (suc i) s) digit)

      pub reads_more : v * 10 + (get_or s i 0 - 48) < below → Reads below s (v * 10 + (get_or s i 0 - 48)) (i + 1)
      reads_more l = record { within = omega arith; nonempty = r.nonempty; most = omega arith; less = λ m. l; left = left_after }

      pub numeral-large : below ≤ v * 10 + (get_or s i 0 - 48) → None ≡ numeral_below below s
      numeral-large l = sym (left_after ∙ digits-large below (v * 10 + (get_or s i 0 - 48)) (drop (i + 1) s) l)

  pub numeral-read : length s ≤ i → Some v ≡ numeral_below below s
  unfolding digits_below
  numeral-read h =
      let l : v < below = r.less (omega arith) in
      sym (r.left ∙ rw (drop_of_length-le s h, lt-ltb v below l))
