-- Lists by their places: a member at each, and a list from what is at its places. By induction on the list.
use Rattle.std.specs.Prelude.{ℕ, zero, suc, ◌+◌, ◌<◌, ◌≡◌, refl, List, [], ◌∷◌, map, length, get_or}
use Rattle.std.proofs.Common.{arith, ap, ◌∙◌}
use mathlib.Core.List.Memᴰ
use Rattle.lists.specs.Lists.{◌∈◌, count_from, ◌!◌}

module _ {A : Type 0} where
  pub at_place : (xs : List A) (i : ℕ) (d : A) → i < length xs → get_or xs i d ∈ xs
  at_place [] i d h = absurd (omega arith)
  at_place (x ∷ xs) zero d h = Memᴰ.head refl
  at_place (x ∷ xs) (suc i) d h = Memᴰ.tail (at_place xs i d (omega arith))

  pub first_member : (xs : List A) (d : A) {x : A} → x ∈ xs → get_or xs 0 d ∈ xs
  first_member [] d h = absurd (Memᴰ.not-nil h)
  first_member (x ∷ xs) d h = Memᴰ.head refl

  -- what is at a place of a list doesn't hang on what would be past its end
  pub get_d-inside : (xs : List A) (i : ℕ) (d e : A) → i < length xs → get_or xs i d ≡ get_or xs i e
  get_d-inside [] i d e h = absurd (omega arith)
  get_d-inside (x ∷ xs) zero d e h = refl
  get_d-inside (x ∷ xs) (suc i) d e h = get_d-inside xs i d e (omega arith)

pub count-length : (i n : ℕ) → length (count_from i n) ≡ n
count-length i zero = refl
count-length i (suc n) = ap suc (count-length (suc i) n)

pub count_at : (i n k d : ℕ) → k < n → get_or (count_from i n) k d ≡ i + k
count_at i zero k d h = absurd (omega arith)
count_at i (suc n) zero d h = omega arith
count_at i (suc n) (suc k) d h = omega (arith, count_at (suc i) n k d (omega arith))

places-tail : (x : ℕ) (xs : List ℕ) (i k : ℕ) → map (λ j. (x ∷ xs) ! j) (count_from (suc i) k) ≡ map (λ j. xs ! j) (count_from i k)
places-tail x xs i zero = refl
places-tail x xs i (suc k) = ap (λ (l : List ℕ). (xs ! i) ∷ l) (places-tail x xs (suc i) k)

-- the numbers at the first k places of a list of k numbers are the list
pub by-places : (k : ℕ) (xs : List ℕ) → length xs ≡ k → map (λ i. xs ! i) (count_from 0 k) ≡ xs
by-places zero [] e = refl
by-places zero (x ∷ xs) e = absurd (omega arith)
by-places (suc k) [] e = absurd (omega arith)
by-places (suc k) (x ∷ xs) e = ap (λ (l : List ℕ). x ∷ l) (places-tail x xs 0 k ∙ by-places k xs (omega arith))

-- what is at a place of a list that is made from the members
pub map_at : (f : ℕ → ℕ) (xs : List ℕ) (i : ℕ) → i < length xs → map f xs ! i ≡ f (xs ! i)
map_at f [] i h = absurd (omega arith)
map_at f (x ∷ xs) zero h = refl
map_at f (x ∷ xs) (suc i) h = map_at f xs i (omega arith)
