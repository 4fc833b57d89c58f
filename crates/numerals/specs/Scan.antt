-- Where a byte stands in a text, and the numeral that a text is.
use Rattle.std.specs.Prelude.{ℕ, suc, cond, ◌&&◌, List, [], ◌∷◌, eqb, ltb, Option, None, Some}
use Rattle.lists.specs.Decimal.{value, is_numeral}

-- how many bytes stand before the first `byte`
unfoldable pub up_to : ℕ → List ℕ → ℕ
up_to byte [] = 0
up_to byte (x ∷ xs) = let rest = suc (up_to byte xs) in cond (eqb x byte) 0 rest

-- a numeral whose value is below a limit
unfoldable pub numeral_below : ℕ → List ℕ → Option ℕ
numeral_below below t = cond (is_numeral t && ltb (value t) below) (Some (value t)) None
