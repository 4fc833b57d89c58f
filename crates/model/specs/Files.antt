-- "Files": what drawing files and rule texts share. A format's parts of its own stand in the two modules below.
use Rattle.std.specs.Prelude.{ℕ, suc, Bool, true, false, cond, not, ◌&&◌, ◌||◌, length, take, eqb, ltb, leb, option_map, Option, None, Some}
use Prim.Native.String.{String}
use mathlib.Core.List.{List, [], ◌∷◌, ◌++◌, map}
use Rattle.lists.specs.Lists.{keep, find, ◌!◌, last_of}
use Rattle.lists.specs.Order.{same, before}
use Rattle.lists.specs.Text.{bytes, pieces}
use Rattle.lists.specs.Decimal.{decimal, value, is_numeral}
use Rattle.model.specs.Graph.{Triple}
use Rattle.model.specs.Refusals.{Outcome, accepted, refused}
use Rattle.model.specs.declared.Refusal.TheVariants.{Malformed, TooMany, Undeclared, Nonconforming, BadAction}
pub mod DrawingFile
pub mod RuleText

-- # The form of a line
-- "Keys come in this order": `turn` is a key's place in it. Each number of a line stays below a limit. "repeated keys strictly rising by
-- their numbers": `by` is how many of the first numbers count (0: the line stands once; none: free). `most` is how many lines of the kind
-- a file may have, where document 01 limits them.
pub record Form : Type 0 where
  pub turn : ℕ
  pub key : List ℕ
  pub below : List ℕ
  pub by : Option ℕ
  pub most : Option ℕ

abbrev pub form : ℕ → String → List ℕ → Option ℕ → Option ℕ → Form
form turn key below by most = record { turn = turn; key = bytes key; below = below; by = by; most = most }

-- "Lines are key=numbers": K are the keys of a format
pub record Line (K : Type 0) : Type 0 where
  pub key : K
  pub numbers : List ℕ

abbrev pub rises : Option ℕ → List ℕ → List ℕ → Bool
rises None x y = true
rises (Some n) x y = before (take n x) (take n y)

abbrev pub full : Option ℕ → ℕ → Bool
full None n = false
full (Some most) n = leb most n

abbrev pub commas : List ℕ → List ℕ
commas [] = []
commas (n ∷ []) = decimal n
commas (n ∷ m ∷ ns) = decimal n ++ (44 ∷ commas (m ∷ ns))

-- a line as it is written
abbrev pub key_line : (key numbers : List ℕ) → List ℕ
key_line key ns = key ++ (61 ∷ commas ns) ++ (10 ∷ [])

module _ {K : Type 0} (form_of : K → Form) where
  -- the numbers of the lines that have the key
  abbrev pub numbers_of : K → List (Line K) → List (List ℕ)
  numbers_of k ls = map (λ l. l.numbers) (keep (λ l. eqb (form_of l.key).turn (form_of k).turn) ls)

  -- in turn and order after the line above
  abbrev pub follows : Option (Line K) → Line K → Bool
  follows None l = true
  follows (Some a) l =
      let turn = (form_of a.key).turn in
      let next = form_of l.key in
      ltb turn next.turn || eqb turn next.turn && rises next.by a.numbers l.numbers

  abbrev pub line_text : K → List ℕ → List ℕ
  line_text k ns = key_line (form_of k).key ns

-- # From bytes to lines, from lines to values
-- What a line must meet, given the lines above it: it may stand there, besides its turn and order (else cause 1), what it names is declared
-- (3), it conforms (4), and it suits as an action line (5).
pub record Checks : Type 0 where
  pub placed : Bool
  pub declared : Bool
  pub conforming : Bool
  pub suited : Bool

abbrev pub checks : Bool → Bool → Bool → Bool → Checks
checks one three four five = record { placed = one; declared = three; conforming = four; suited = five }

-- a kind of file: its keys, their forms, the checks of a line, and whether none is missing at the end
pub record Format (K : Type 0) : Type 0 where
  pub keys : List K
  pub form_of : K → Form
  pub checks_at : (above : List (Line K)) → K → List ℕ → Checks
  pub complete : List (Line K) → Bool

-- as many numerals as limits, each number below its own
abbrev pub in_form : List ℕ → List (List ℕ) → Bool
in_form [] [] = true
in_form [] (t ∷ ts) = false
in_form (b ∷ bs) [] = false
in_form (b ∷ bs) (t ∷ ts) = is_numeral t && ltb (value t) b && in_form bs ts

module _ {K : Type 0} (f : Format K) where
  -- "key=numbers, comma between, no spaces": from the parts of a line between its bytes =
  abbrev pub line_of : List (List ℕ) → Option (Line K)
  line_of [] = None
  line_of (key ∷ []) = None
  line_of (key ∷ numbers ∷ []) =
      let ts = pieces 44 numbers in
      option_map {U = Line K} (λ k. record { key = k; numbers = map value ts })
      (find (λ k. same (f.form_of k).key key && in_form (f.form_of k).below ts) f.keys)
  line_of (key ∷ numbers ∷ more ∷ rest) = None

  -- "each ended by byte 10": what stands after the last byte 10 is nothing, or a line out of form
  abbrev pub lines_of : List (List ℕ) → List (Option (Line K))
  lines_of [] = []
  lines_of ([] ∷ []) = []
  lines_of ((b ∷ bs) ∷ []) = None ∷ []
  lines_of (l ∷ m ∷ ls) = line_of (pieces 61 l) ∷ lines_of (m ∷ ls)

  -- # A line under the lines above it
  abbrev pub checks_of : (above : List (Line K)) → Line K → Checks
  checks_of above l = f.checks_at above l.key l.numbers

  -- it may stand there, and there are already as many of its kind as may be
  abbrev pub in_place : (above : List (Line K)) → Line K → Bool
  in_place above l = follows f.form_of (last_of above) l && (checks_of above l).placed

  abbrev pub crowded : (above : List (Line K)) → Line K → Bool
  crowded above l = full (f.form_of l.key).most (length (numbers_of f.form_of l.key above))

  -- "the first bad line, tried 1 to 5"; a line "missing at the end" is "one past the last line"
  unfoldable pub reading : (above : List (Line K)) → List (Option (Line K)) → Outcome (List (Line K))
  reading above [] = cond (f.complete above) (accepted above) (refused (Malformed (suc (length above))))
  reading above (None ∷ ls) = refused (Malformed (suc (length above)))
  reading above (Some l ∷ ls) =
      let line = suc (length above) in
      let c = checks_of above l in
      let rest = reading (above ++ (l ∷ [])) ls in
      cond (not (in_place above l)) (refused (Malformed line))
      (cond (crowded above l) (refused (TooMany line))
      (cond (not c.declared) (refused (Undeclared line))
      (cond (not c.conforming) (refused (Nonconforming line))
      (cond (not c.suited) (refused (BadAction line)) rest))))

  unfoldable pub read : List ℕ → Outcome (List (Line K))
  read text = reading [] (lines_of (pieces 10 text))

-- the triple that three numbers of a line make
abbrev pub triple_of : List ℕ → Triple
triple_of x = record { source = x ! 0; name = x ! 1; target = x ! 2 }
