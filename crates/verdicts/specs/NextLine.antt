-- The next line of a text: what the text's lines are from there on.
use Rattle.std.specs.Prelude.{ℕ, ◌+◌, ◌≤◌, ◌<◌, ◌≡◌, List, ◌∷◌, length, take, drop, Option, None, Some}
use Rattle.lists.specs.Text.{pieces}
use Rattle.model.specs.Files.{Line, Format, lines_of}
use Rattle.model.specs.InForm.{LineInForm}
use Rattle.numerals.specs.Scan.{up_to}

module _ {K : Type 0} (f : Format K) where
  -- the lines of what is left of a text
  abbrev pub lines_from : List ℕ → ℕ → List (Option (Line K))
  lines_from text at = lines_of f (pieces 10 (drop at text))

  -- the line stands at a place of the text, and what follows it begins at another
  pub record LineAt (text : List ℕ) (at : ℕ) (l : Line K) (next : ℕ) : Type 0 where
    pub line : lines_from text at ≡ Some l ∷ lines_from text next
    pub in-form : LineInForm f l
    pub later : at < next
    pub within : next ≤ length text

  -- the line at a place is out of form
  pub record NoLineAt (text : List ℕ) (at : ℕ) : Type 0 where
    pub rest : List (Option (Line K))
    pub line : lines_from text at ≡ None ∷ rest

-- no byte 10 ends what is left of a text
abbrev pub Unended : List ℕ → ℕ → Type 0
Unended text at = up_to 10 (drop at text) ≡ length (drop at text)

-- the bytes of the line at a place: those of what is left up to the first byte 10, which is there
pub record LineBytes (text : List ℕ) (at : ℕ) (s : List ℕ) : Type 0 where
  pub bytes : s ≡ take (up_to 10 (drop at text)) (drop at text)
  pub ended : at + length s < length text
