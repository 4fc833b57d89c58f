-- Tests on lists, and lists made from lists.
use Rattle.std.specs.Prelude.{ℕ, zero, suc, ◌<◌, Bool, ◌&&◌, get_or, eqb, Option, None, Some}
pub use Rattle.std.specs.List.{list_any as any, list_all as all, filter as keep, find}
use mathlib.Core.List.{List, [], ◌∷◌, ◌++◌, map, Memᴰ}

-- x is a member of xs
infix 50 ◌∈◌
abbrev pub ◌∈◌ : {A : Type 0} → A → List A → Type 0
x ∈ xs = Memᴰ x xs

module _ {A : Type 0} where
  -- the last member
  abbrev pub last_of : List A → Option A
  last_of [] = None
  last_of (x ∷ []) = Some x
  last_of (x ∷ y ∷ ys) = last_of (y ∷ ys)

module _ {A B : Type 0} where
  -- what each member makes, in the members' order
  abbrev pub each : List A → (A → List B) → List B
  each [] f = []
  each (x ∷ xs) f = f x ++ each xs f

module _ {A : Type 0} where
  -- every list of k members of xs, ordered by the first place at which two differ, there as xs is
  abbrev pub sequences : ℕ → List A → List (List A)
  sequences zero xs = [] ∷ []
  sequences (suc k) xs = each xs (λ x. map (λ l. x ∷ l) (sequences k xs))

-- k numbers from i on
abbrev pub count_from : ℕ → ℕ → List ℕ
count_from i zero = []
count_from i (suc k) = i ∷ count_from (suc i) k

-- the number at a place, 0 past the end
infixl 80 ◌!◌
abbrev pub ◌!◌ : List ℕ → ℕ → ℕ
xs ! i = get_or xs i 0

-- the number is a member; the two lists have the same members
abbrev pub member : List ℕ → ℕ → Bool
member xs n = any (eqb n) xs

abbrev pub same_set : List ℕ → List ℕ → Bool
same_set xs ys = all (member ys) xs && all (member xs) ys

-- each member is below a number
abbrev pub Below : ℕ → List ℕ → Type 0
Below b ks = (k : ℕ) → k ∈ ks → k < b
