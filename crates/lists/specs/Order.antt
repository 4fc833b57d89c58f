-- Lists of numbers: when two are the same, and their order by the first difference.
use Rattle.std.specs.Prelude.{ℕ, Bool, true, false, ◌&&◌, ◌||◌, ◌≡◌, ◌⊎◌, List, [], ◌∷◌, eqb, ltb, Option, None, Some}
use Rattle.lists.specs.Lists.{all}

abbrev pub same : List ℕ → List ℕ → Bool
same [] [] = true
same [] (y ∷ ys) = false
same (x ∷ xs) [] = false
same (x ∷ xs) (y ∷ ys) = eqb x y && same xs ys

-- the first stands strictly before the second; a list stands before each list that goes on from it
abbrev pub before : List ℕ → List ℕ → Bool
before [] [] = false
before [] (y ∷ ys) = true
before (x ∷ xs) [] = false
before (x ∷ xs) (y ∷ ys) = ltb x y || eqb x y && before xs ys

-- each stands strictly before all that follow it
abbrev pub rising : List (List ℕ) → Bool
rising [] = true
rising (x ∷ xs) = all (before x) xs && rising xs

-- of members that f puts in order: x is one of the kind, and all others stand after it; or there is none
abbrev pub Smallest : {A : Type 0} → (f : A → List ℕ) → (A → Type 0) → Option A → Type 0
Smallest f P None = (y : _) → P y → ⊥
Smallest f P (Some x) = P x × ((y : _) → P y → (y ≡ x) ⊎ (before (f x) (f y) ≡ true))
