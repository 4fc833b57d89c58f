-- A line as it is written, from its key and numbers, and from its row.
use Rattle.std.specs.Prelude.{ℕ, ◌+◌, ◌*◌, cond, List, [], ◌∷◌, ◌++◌, length, eqb}
use Rattle.lists.specs.Decimal.{decimal, most_digits}
use Rattle.lists.specs.Radix.{unrank}
use Rattle.model.specs.Files.{key_line}
use Rattle.forms.specs.Forms.{kind_of, most_numbers}
use Rattle.forms.specs.declared.LineKind.{LineKind}

-- no line's numbers have more bytes, each with what ends it
abbrev pub most_of_numbers : ℕ
most_of_numbers = most_numbers * (most_digits + 1)

-- what ends a number, where so many of the line's numbers are left: "comma between", "each ended by byte 10"
unfoldable pub ender : ℕ → ℕ
ender left = cond (eqb left 0) 10 44

-- a line's numbers, each with what ends it
unfoldable pub numbers_text : List ℕ → List ℕ
numbers_text [] = []
numbers_text (n ∷ ns) = decimal n ++ (ender (length ns) ∷ numbers_text ns)

-- a line of a key and numbers
unfoldable pub line_of : (key numbers : List ℕ) → List ℕ
line_of key ns = key_line key ns

-- the line of a row
unfoldable pub row_text : LineKind → (row : ℕ) → List ℕ
row_text kind row = key_line (kind_of kind).form.key (unrank (kind_of kind).rooms row)
