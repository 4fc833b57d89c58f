-- Decimal numerals with no sign and no leading zero.
use Rattle.std.specs.Prelude.{ℕ, zero, suc, ◌+◌, ◌*◌, ◌-◌, ◌/◌, ◌%◌, Bool, false, cond, not, ◌&&◌, List, [], ◌∷◌, ◌++◌, eqb, ltb, leb}
use Rattle.lists.specs.Lists.{all}

-- the digits of n, at most as many as the first argument
abbrev pub digits : ℕ → ℕ → List ℕ
digits zero n = []
digits (suc k) n = let more = digits k (n / 10) ++ ((48 + n % 10) ∷ []) in cond (ltb n 10) ((48 + n) ∷ []) more

-- the numeral of n, which has at most n + 1 digits
abbrev pub decimal : ℕ → List ℕ
decimal n = digits (suc n) n

-- no number of 64 bits has more digits
abbrev pub most_digits : ℕ
most_digits = 20

-- the number that digits spell when they follow the digits of v
abbrev pub value_from : ℕ → List ℕ → ℕ
value_from v [] = v
value_from v (b ∷ bs) = value_from (v * 10 + (b - 48)) bs

abbrev pub value : List ℕ → ℕ
value bs = value_from 0 bs

abbrev pub is_digit : ℕ → Bool
is_digit b = leb 48 b && leb b 57

-- a numeral: digits, with no leading zero
abbrev pub is_numeral : List ℕ → Bool
is_numeral [] = false
is_numeral (b ∷ []) = is_digit b
is_numeral (b ∷ c ∷ bs) = not (eqb b 48) && all is_digit (b ∷ c ∷ bs)
