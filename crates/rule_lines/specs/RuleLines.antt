-- A line of a rule text: what it must meet, told from what the lines above it hold.
use Rattle.std.specs.Prelude.{ℕ, suc, ◌/◌, ◌%◌, ◌^◌, ◌≤◌, ◌<◌, ◌≡◌, Bool, true, false, ◌&&◌, ◌||◌, List, map, length, take, eqb, leb, Option, None, Some, IfSome, Result}
use Rattle.std.specs.Option.{is_some}
use Rattle.std.specs.Bool.{⊤}
use Rattle.lists.specs.Order.{rising}
use Rattle.model.specs.Limits
use Rattle.model.specs.Graph.{Scheme, Pattern, row}
use Rattle.model.specs.Files.{Checks, checks, full}
use Rattle.model.specs.Files.RuleText.{RuleKey, op=, pnode=, pedge=, make=, arm=, put=, drop=, cut=, group=, rule_form, rule_format}
use Rattle.model.specs.InForm.{LineInForm}
use Rattle.model.specs.InForm.{code_of as key_code}
use Rattle.model.specs.declared.Refusal.{Refusal}
use Rattle.forms.specs.Forms.{of_drawing, turn_of, rule_key}
use Rattle.forms.specs.declared.LineKind.TheVariants.{Make}
use Rattle.graph.specs.Operations.{code_of}
use Rattle.text.specs.Lines.{rule_line, Tabled, follows_last}
use Rattle.text.specs.declared.lines.Line.{Line}
use Rattle.text.specs.declared.lines.Last.{Last}
use Rattle.graph.specs.Packed.{unpack_triple, unpack_arm, unpack_pattern_node, unpack_pattern}
use Rattle.graph.specs.declared.rule.PackedRule.{PackedRule}
use Rattle.verdicts.specs.Verdicts.{verdict}
use Rattle.pattern_lines.specs.PatternLines.{pnode_checks, pedge_checks}
use Rattle.action_lines.specs.ActionLines.{make_checks, arm_checks, put_checks, drop_checks, cut_checks, group_checks}

-- # A line under what the lines above it hold
unfoldable pub line_checks : Scheme → Pattern → (head : ℕ) → RuleKey → (row : ℕ) → Checks
line_checks s p head op= r = checks true true true true
line_checks s p head pnode= r = pnode_checks s p (unpack_pattern_node 0 r)
line_checks s p head pedge= r = pedge_checks s p (unpack_triple r)
line_checks s p head make= r = make_checks s r
line_checks s p head arm= r = arm_checks s p head (unpack_arm r)
line_checks s p head put= r = put_checks s p (unpack_triple r)
line_checks s p head drop= r = drop_checks p r
line_checks s p head cut= r = cut_checks s p (unpack_triple r)
line_checks s p head group= r = group_checks s p r

-- how many lines of the kind stand above, where document 01 limits them; of an action that has several lines, so many parts stand
unfoldable pub lines_above : Pattern → (parts : ℕ) → RuleKey → ℕ
lines_above p parts op= = parts
lines_above p parts pnode= = length p.nodes
lines_above p parts pedge= = length p.edges
lines_above p parts make= = parts
lines_above p parts arm= = parts
lines_above p parts put= = parts
lines_above p parts drop= = parts
lines_above p parts cut= = parts
lines_above p parts group= = parts

-- the last line above is an action line, of which make is the first kind
abbrev pub in_action : Option Line → Bool
in_action None = false
in_action (Some a) = leb (turn_of Make) (turn_of a.kind)

-- the line may stand there, besides its turn and order: op comes first, an action line stands under its own code, arm after make, and "value
-- 0 when given is 0"
unfoldable pub placed : Option Line → (code : ℕ) → RuleKey → (row : ℕ) → Bool
placed last code op= r = true
placed last code pnode= r = is_some last && (eqb (r / 2 ^ 32 % 2) 1 || eqb (r % 2 ^ 32) 0)
placed last code pedge= r = is_some last
placed last code make= r = is_some last && eqb code (key_code make=)
placed last code arm= r = in_action last
placed last code put= r = is_some last && eqb code (key_code put=)
placed last code drop= r = is_some last && eqb code (key_code drop=)
placed last code cut= r = is_some last && eqb code (key_code cut=)
placed last code group= r = is_some last && eqb code (key_code group=)

unfoldable pub rule_verdict : Scheme → PackedRule → Last → Line → Result ⊤ Refusal
rule_verdict s r last l =
    let k = rule_key l.kind in
    let p = unpack_pattern r.pattern in
    verdict (suc last.lines) (follows_last last.line l && placed last.line (code_of r.action.operation) k l.row)
    (full (rule_form k).most (lines_above p r.action.count k)) (line_checks s p r.action.head k l.row)

-- # What stands
abbrev pub nodes_in : PackedRule → List ℕ
nodes_in r = take r.pattern.order r.pattern.nodes

abbrev pub edges_in : PackedRule → List ℕ
edges_in r = take r.pattern.size r.pattern.edges

-- the arrays have the limits' lengths, and no more stands in them
pub record FitsRule (r : PackedRule) : Type 0 where
  pub nodes_room : length r.pattern.nodes ≡ Limits.pattern_nodes
  pub edges_room : length r.pattern.edges ≡ Limits.pattern_edges
  pub parts_room : length r.action.parts ≡ Limits.puts
  pub order : r.pattern.order ≤ Limits.pattern_nodes
  pub size : r.pattern.size ≤ Limits.pattern_edges
  pub count : r.action.count ≤ Limits.puts

-- and the edges can be searched by halving
pub record HeldRule (r : PackedRule) : Type 0 where
  pub fits : FitsRule r
  pub edges : rising (map row (unpack_pattern r.pattern).edges) ≡ true

-- a line's numbers are within the bounds of its form, and an arm line comes under a make line, whose class is one
pub record RowFits (head : ℕ) (l : Line) : Type 0 where
  pub kind : of_drawing l.kind ≡ false
  pub tabled : Tabled l
  pub in-form : (s : Scheme) → LineInForm (rule_format s) (rule_line l)
  pub under : rule_key l.kind ≡ arm= → head < Limits.classes

-- the line to be looked at is in form, and so is the last one above it
pub record Coming (r : PackedRule) (last : Last) (l : Line) : Type 0 where
  pub above : IfSome last.line Tabled
  pub few : suc last.lines < 2 ^ 64
  pub kind : of_drawing l.kind ≡ false
  pub tabled : Tabled l
  pub row : follows_last last.line l ≡ true → RowFits r.action.head l
