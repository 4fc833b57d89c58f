-- Texts as lists of bytes.
use Rattle.std.specs.Prelude.{ℕ, cond, List, [], ◌∷◌, eqb}
use Prim.Native.Char.{code}
use Prim.Native.String.{String, [] as []ˢ, ◌∷◌ as ◌∷ˢ◌}

-- a string's bytes (ASCII)
abbrev pub bytes : String → List ℕ
bytes []ˢ = []
bytes (c ∷ˢ s) = code c ∷ bytes s

-- the pieces of a text between the bytes `sep`: one more than there are such bytes
abbrev pub to_first : ℕ → List (List ℕ) → List (List ℕ)
to_first x [] = (x ∷ []) ∷ []
to_first x (p ∷ ps) = (x ∷ p) ∷ ps

abbrev pub pieces : ℕ → List ℕ → List (List ℕ)
pieces sep [] = [] ∷ []
pieces sep (x ∷ xs) = let rest = pieces sep xs in cond (eqb x sep) ([] ∷ rest) (to_first x rest)
