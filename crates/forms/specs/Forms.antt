-- The table of forms: the forms of document 01's lines, and how a line's numbers are kept as one.
use Rattle.std.specs.Prelude.{ℕ, ◌+◌, ◌*◌, ◌^◌, Bool, true, false, cond, List, [], ◌∷◌, ◌++◌, length, take, drop, ltb, option_map}
use Rattle.lists.specs.Radix.{product}
use Rattle.model.specs.Files.{Form}
use Rattle.model.specs.Files.DrawingFile.{DrawingKey, class=, name=, may=, node=, edge=, drawing_form}
use Rattle.model.specs.Files.RuleText.{RuleKey, op=, pnode=, pedge=, make=, arm=, put=, drop=, cut=, group=, rule_form}
use Rattle.graph.specs.Packed.{triple_rooms, node_rooms, declared_rooms}
use Rattle.forms.specs.declared.Form.{Form as PackedForm}
use Rattle.forms.specs.declared.LineKind.{LineKind}
use Rattle.forms.specs.declared.LineKind.TheVariants.{Class, Name, May, Node, Edge, Op, Pnode, Pedge, Make, Arm, Put, Drop, Cut, Group}

-- a kind of line: its form, and how many values each of its numbers has room for in the line's row
pub record Kind : Type 0 where
  pub form : Form
  pub rooms : List ℕ

-- the row of a triple, a node and a pattern node is its key as it is stored
abbrev pub drawing_kind : DrawingKey → Kind
drawing_kind class= = record { form = drawing_form class=; rooms = declared_rooms }
drawing_kind name= = record { form = drawing_form name=; rooms = declared_rooms }
drawing_kind may= = record { form = drawing_form may=; rooms = triple_rooms }
drawing_kind node= = record { form = drawing_form node=; rooms = node_rooms }
drawing_kind edge= = record { form = drawing_form edge=; rooms = triple_rooms }

abbrev pub rule_kind : RuleKey → Kind
rule_kind op= = record { form = rule_form op=; rooms = 2 ^ 16 ∷ [] }
rule_kind pnode= = record { form = rule_form pnode=; rooms = 2 ^ 6 ∷ 2 ∷ 2 ^ 32 ∷ [] }
rule_kind pedge= = record { form = rule_form pedge=; rooms = triple_rooms }
rule_kind make= = record { form = rule_form make=; rooms = 2 ^ 6 ∷ [] }
rule_kind arm= = record { form = rule_form arm=; rooms = 2 ^ 6 ∷ 2 ^ 16 ∷ [] }
rule_kind put= = record { form = rule_form put=; rooms = triple_rooms }
rule_kind drop= = record { form = rule_form drop=; rooms = 2 ^ 16 ∷ [] }
rule_kind cut= = record { form = rule_form cut=; rooms = triple_rooms }
rule_kind group= = record { form = rule_form group=; rooms = 2 ^ 16 ∷ 2 ^ 6 ∷ 2 ^ 6 ∷ 2 ^ 6 ∷ [] }

-- the kinds of line of a drawing file, and those of a rule text
abbrev pub drawing_kinds : List LineKind
drawing_kinds = Class ∷ Name ∷ May ∷ Node ∷ Edge ∷ []

abbrev pub rule_kinds : List LineKind
rule_kinds = Op ∷ Pnode ∷ Pedge ∷ Make ∷ Arm ∷ Put ∷ Drop ∷ Cut ∷ Group ∷ []

abbrev pub of_drawing : LineKind → Bool
of_drawing Class = true
of_drawing Name = true
of_drawing May = true
of_drawing Node = true
of_drawing Edge = true
of_drawing _ = false

-- a kind's place among all: those of a drawing file come first
abbrev pub turn_of : LineKind → ℕ
turn_of Class = 0
turn_of Name = 1
turn_of May = 2
turn_of Node = 3
turn_of Edge = 4
turn_of Op = 5
turn_of Pnode = 6
turn_of Pedge = 7
turn_of Make = 8
turn_of Arm = 9
turn_of Put = 10
turn_of Drop = 11
turn_of Cut = 12
turn_of Group = 13

-- the key of a kind of a drawing file
abbrev pub drawing_key : LineKind → DrawingKey
drawing_key Class = class=
drawing_key Name = name=
drawing_key May = may=
drawing_key Node = node=
drawing_key Edge = edge=
drawing_key _ = class=

-- the key of a kind of a rule text
abbrev pub rule_key : LineKind → RuleKey
rule_key Op = op=
rule_key Pnode = pnode=
rule_key Pedge = pedge=
rule_key Make = make=
rule_key Arm = arm=
rule_key Put = put=
rule_key Drop = drop=
rule_key Cut = cut=
rule_key Group = group=
rule_key _ = op=

unfoldable pub kind_of : LineKind → Kind
kind_of Class = drawing_kind class=
kind_of Name = drawing_kind name=
kind_of May = drawing_kind may=
kind_of Node = drawing_kind node=
kind_of Edge = drawing_kind edge=
kind_of Op = rule_kind op=
kind_of Pnode = rule_kind pnode=
kind_of Pedge = rule_kind pedge=
kind_of Make = rule_kind make=
kind_of Arm = rule_kind arm=
kind_of Put = rule_kind put=
kind_of Drop = rule_kind drop=
kind_of Cut = rule_kind cut=
kind_of Group = rule_kind group=

-- # A form as the table has it
-- bytes as one number in base 256, after the digits of v
abbrev pub key_from : ℕ → List ℕ → ℕ
key_from v [] = v
key_from v (b ∷ bs) = key_from (v * 256 + b) bs

-- a key's bytes as one number, after a 1; 0 where there are more than any key has
unfoldable pub key_number : List ℕ → ℕ
key_number bs = cond (ltb 5 (length bs)) 0 (key_from 1 bs)

-- no line has more numbers
abbrev pub most_numbers : ℕ
most_numbers = 4

abbrev pub padded : List ℕ → List ℕ
padded ns = take most_numbers (ns ++ (0 ∷ 0 ∷ 0 ∷ 0 ∷ []))

-- what leaves of a row the first n numbers, by which it must rise
abbrev pub divisor : (rooms : List ℕ) → (n : ℕ) → ℕ
divisor rooms n = product (drop n rooms)

unfoldable pub packed_form : Kind → PackedForm
unfolding key_number
packed_form k =
    record {
      key = key_number k.form.key;
      letters = length k.form.key;
      numbers = length k.form.below;
      below = padded k.form.below;
      room = padded k.rooms;
      by = option_map (divisor k.rooms) k.form.by;
      most = k.form.most;
    }
