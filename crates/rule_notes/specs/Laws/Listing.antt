-- An action's parts copied one by one behind a number that says how they are noted, and a code that is none of five.
use Rattle.std.specs.Prelude.{ℕ, zero, suc, ◌+◌, ◌<◌, ◌≤◌, ◌≡◌, refl, List, [], ◌∷◌, ◌++◌, length, get_or, take, set}
use Rattle.std.proofs.Common.{arith, add-one, sym, ap, ◌∙◌, length-set, take-suc, take-suc-set, take_all, length-take-le}
use Rattle.lists.specs.Lists.{◌!◌}
use Rattle.model.specs.Limits

-- the first of the numbers are the list, which has no more than an action notes by
pub record Lists (list numbers : List ℕ) (count : ℕ) : Type 0 where
  pub front : take count numbers ≡ list
  pub few : count ≤ 1 + Limits.arms

module _ (list numbers : List ℕ) (count : ℕ) (lists : Lists list numbers count) (room : length numbers ≡ 5) where
  pub numbers-inside : count ≤ length numbers
  numbers-inside = let few : count ≤ 5 = lists.few in omega arith

  pub numbers-part : count ≡ length (take count numbers)
  numbers-part = sym (length-take-le count numbers numbers-inside)

  pub numbers-few : length (take count numbers) ≤ 1 + Limits.arms
  numbers-few = rw (← numbers-part) lists.few

-- the first numbers are how it notes, and the parts before i
pub record Listing (how : ℕ) (parts numbers : List ℕ) (i : ℕ) : Type 0 where
  pub within : i ≤ length parts
  pub room : length numbers ≡ 5
  pub made : take (1 + i) numbers ≡ how ∷ take i parts

module _ (how : ℕ) (parts : List ℕ) where
  pub listing-first : Listing how parts (how ∷ how ∷ how ∷ how ∷ how ∷ []) 0
  listing-first = record { within = omega arith; room = refl; made = refl }

  pub listing-next : {numbers : List ℕ} {i : ℕ} → length parts ≤ Limits.arms → i < length parts → Listing how parts numbers i
      → Listing how parts (set numbers (1 + i) (parts ! i)) (i + 1)
  listing-next {numbers} {i} few h l =
      let room = l.room in
      let next : 1 + (i + 1) ≡ suc (1 + i) = omega arith in
      record {
        within = omega arith;
        room = length-set numbers (1 + i) (parts ! i) ∙ room;
        made = ap (λ n. take n (set numbers (1 + i) (parts ! i))) next
            ∙ take-suc-set numbers (1 + i) (parts ! i) (omega arith)
            ∙ ap (λ (front : List ℕ). front ++ ((parts ! i) ∷ [])) l.made
            ∙ ap (λ (rest : List ℕ). how ∷ rest) (sym (take-suc parts i 0 h) ∙ ap (λ n. take n parts) (sym (add-one i)));
      }

  pub listing-all : {numbers : List ℕ} {i : ℕ} → length parts ≤ Limits.arms → length parts ≤ i → Listing how parts numbers i
      → Lists (how ∷ parts) numbers (1 + length parts)
  listing-all {numbers} {i} few past l =
      let within = l.within in
      let all : i ≡ length parts = omega arith in
      record {
        front = ap (λ n. take (1 + n) numbers) (sym all) ∙ l.made ∙ ap (λ (rest : List ℕ). how ∷ rest) (take_all i parts past);
        few = omega arith;
      }

-- a code of no operation that changes anything
pub record OtherCode (c : ℕ) : Type 0 where
  pub not-1 : c ≡ 1 → ⊥
  pub not-2 : c ≡ 2 → ⊥
  pub not-3 : c ≡ 3 → ⊥
  pub not-4 : c ≡ 4 → ⊥
  pub not-5 : c ≡ 5 → ⊥

pub other-nothing : {A : Type 0} (x x1 x2 x3 x4 x5 : A) (c : ℕ) → OtherCode c → get_or (x ∷ x1 ∷ x2 ∷ x3 ∷ x4 ∷ x5 ∷ []) c x ≡ x
other-nothing x x1 x2 x3 x4 x5 zero o = refl
other-nothing x x1 x2 x3 x4 x5 (suc zero) o = absurd (o.not-1 refl)
other-nothing x x1 x2 x3 x4 x5 (suc (suc zero)) o = absurd (o.not-2 refl)
other-nothing x x1 x2 x3 x4 x5 (suc (suc (suc zero))) o = absurd (o.not-3 refl)
other-nothing x x1 x2 x3 x4 x5 (suc (suc (suc (suc zero)))) o = absurd (o.not-4 refl)
other-nothing x x1 x2 x3 x4 x5 (suc (suc (suc (suc (suc zero))))) o = absurd (o.not-5 refl)
other-nothing x x1 x2 x3 x4 x5 (suc (suc (suc (suc (suc (suc c)))))) o = refl
