-- Lists of numbers below limits, and each such list as one number in mixed radix.
use Rattle.std.specs.Prelude.{ℕ, zero, suc, ◌+◌, ◌*◌, ◌/◌, ◌%◌, Bool, true, false, ◌&&◌, List, [], ◌∷◌, ◌++◌, ltb}

abbrev pub product : List ℕ → ℕ
product [] = 1
product (b ∷ bs) = b * product bs

-- as many numbers as limits, each below its own
abbrev pub within : (limits : List ℕ) → List ℕ → Bool
within [] [] = true
within [] (n ∷ ns) = false
within (b ∷ bs) [] = false
within (b ∷ bs) (n ∷ ns) = ltb n b && within bs ns

-- the list as one number, in which each number has room for as many values as its limit
abbrev pub rank : (limits : List ℕ) → List ℕ → ℕ
rank [] ns = 0
rank (b ∷ bs) [] = 0
rank (b ∷ bs) (n ∷ ns) = n * product bs + rank bs ns

-- the list that a number stands for
abbrev pub unrank : (limits : List ℕ) → ℕ → List ℕ
unrank [] k = []
unrank (b ∷ bs) k = k / product bs ∷ unrank bs (k % product bs)

-- the k lowest digits of a number in a base, the lowest last; digit d stands as first + d
unfoldable pub lowest : (base first k n : ℕ) → List ℕ
lowest base first zero n = []
lowest base first (suc k) n = lowest base first k (n / base) ++ ((first + n % base) ∷ [])
