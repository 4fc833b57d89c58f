-- What a line in the code stands for, and the line that a text is.
use Rattle.std.specs.Prelude.{ℕ, ◌<◌, ◌≡◌, Bool, true, false, cond, ◌&&◌, ◌||◌, List, map, eqb, ltb, Option, None, Some, option_map}
use Rattle.lists.specs.Lists.{find}
use Rattle.lists.specs.Text.{pieces}
use Rattle.lists.specs.Decimal.{value}
use Rattle.lists.specs.Radix.{product, rank, unrank}
use Rattle.model.specs.Graph.{Scheme}
use Rattle.model.specs.Files.{Line, checks, Format, rises, in_form, line_of}
use Rattle.model.specs.Files.DrawingFile.{DrawingKey, drawing_format}
use Rattle.model.specs.Files.RuleText.{RuleKey, rule_format}
use Rattle.forms.specs.Forms.{of_drawing, turn_of, kind_of, packed_form, drawing_key, rule_key}
use Rattle.forms.specs.declared.LineKind.{LineKind}
use Rattle.text.specs.declared.lines.Line.{Line as PackedLine}
use Rattle.text.specs.declared.lines.Last.{Last}

-- # What a line stands for
-- the numbers that a row of the kind is made of
abbrev pub row_numbers : PackedLine → List ℕ
row_numbers l = unrank (kind_of l.kind).rooms l.row

abbrev pub drawing_line : PackedLine → Line DrawingKey
drawing_line l = record { key = drawing_key l.kind; numbers = row_numbers l }

abbrev pub rule_line : PackedLine → Line RuleKey
rule_line l = record { key = rule_key l.kind; numbers = row_numbers l }

-- the row has a number's room for each of the line's numbers
pub record Tabled (l : PackedLine) : Type 0 where
  pub row : l.row < product (kind_of l.kind).rooms

-- # The line that a text is
-- some kinds of line, as the format of texts with these alone
abbrev pub table_format : List LineKind → Format LineKind
table_format kinds =
    record {
      keys = kinds;
      form_of = λ k. (kind_of k).form;
      checks_at = λ above k x. checks true true true true;
      complete = λ ls. true;
    }

abbrev pub packed_line : Line LineKind → PackedLine
packed_line l = record { kind = l.key; row = rank (kind_of l.key).rooms l.numbers }

-- the kind whose key has this number
abbrev pub kind_with : ℕ → List LineKind → Option LineKind
kind_with key kinds = find (λ k. eqb (packed_form (kind_of k)).key key) kinds

unfoldable pub line_in : List LineKind → List ℕ → Option PackedLine
line_in kinds s = option_map packed_line (line_of (table_format kinds) (pieces 61 s))

-- the row of numbers between commas
unfoldable pub row_in : LineKind → List ℕ → Option ℕ
row_in kind s =
    let ts = pieces 44 s in
    cond (in_form (kind_of kind).form.below ts) (Some (rank (kind_of kind).rooms (map value ts))) None

-- what is read is the line that the format's definition gives, and it is in the table
pub record DrawingParsed (s : List ℕ) (r : Option PackedLine) : Type 0 where
  pub line : option_map drawing_line r ≡ line_of drawing_format (pieces 61 s)
  pub tabled : (l : PackedLine) → r ≡ Some l → Tabled l × (of_drawing l.kind ≡ true)

pub record RuleParsed (t : List ℕ) (r : Option PackedLine) : Type 0 where
  pub line : (s : Scheme) → option_map rule_line r ≡ line_of (rule_format s) (pieces 61 t)
  pub tabled : (l : PackedLine) → r ≡ Some l → Tabled l × (of_drawing l.kind ≡ false)

-- # Order
-- the line is in turn and order after another of its format
unfoldable pub after_line : PackedLine → PackedLine → Bool
after_line a l =
    ltb (turn_of a.kind) (turn_of l.kind)
    || eqb (turn_of a.kind) (turn_of l.kind) && rises (kind_of l.kind).form.by (row_numbers a) (row_numbers l)

pub record FreshLast (l : Last) : Type 0 where
  pub none : l.lines ≡ 0
  pub line : l.line ≡ None

unfoldable pub follows_last : Option PackedLine → PackedLine → Bool
follows_last None l = true
follows_last (Some a) l = after_line a l
