-- Rule texts: what a line adds to what the lines above it hold, and what a text holds.
use Rattle.std.specs.Prelude.{ℕ, ◌<◌, ◌≡◌, Bool, false, ◌&&◌, ◌||◌, List, [], ◌∷◌, ◌++◌, take, eqb, Option}
use Rattle.std.specs.Option.{is_some}
use Rattle.model.specs.Limits
use Rattle.model.specs.Files.RuleText.{RuleKey, op=, pnode=, pedge=, make=, arm=, put=, drop=, cut=, group=}
use Rattle.forms.specs.Forms.{of_drawing, rule_key}
use Rattle.text.specs.declared.lines.Line.{Line}
use Rattle.graph.specs.declared.rule.PackedRule.{PackedRule}
use Rattle.graph.specs.Operations.{code_of}
use Rattle.rule_lines.specs.RuleLines.{in_action, nodes_in, edges_in, FitsRule}

-- # What a line adds
abbrev pub HasRoomFor : PackedRule → RuleKey → (row : ℕ) → Type 0
HasRoomFor r op= x = x < 6
HasRoomFor r pnode= x = r.pattern.order < Limits.pattern_nodes
HasRoomFor r pedge= x = r.pattern.size < Limits.pattern_edges
HasRoomFor r make= x = Unit {0}
HasRoomFor r arm= x = r.action.count < Limits.puts
HasRoomFor r put= x = r.action.count < Limits.puts
HasRoomFor r drop= x = Unit {0}
HasRoomFor r cut= x = r.action.count < Limits.puts
HasRoomFor r group= x = Unit {0}

pub record Room (r : PackedRule) (l : Line) : Type 0 where
  pub kind : of_drawing l.kind ≡ false
  pub room : HasRoomFor r (rule_key l.kind) l.row

-- what stands, by the kinds of lines that made it
pub record Parts : Type 0 where
  pub code : ℕ
  pub nodes : List ℕ
  pub edges : List ℕ
  pub head : ℕ
  pub parts : List ℕ

abbrev pub parts_in : PackedRule → List ℕ
parts_in r = take r.action.count r.action.parts

abbrev pub parts_of : PackedRule → Parts
parts_of r = record { code = code_of r.action.operation; nodes = nodes_in r; edges = edges_in r; head = r.action.head; parts = parts_in r }

abbrev with_head : Parts → ℕ → Parts
with_head t x = record { code = t.code; nodes = t.nodes; edges = t.edges; head = x; parts = t.parts }

abbrev with_part : Parts → ℕ → Parts
with_part t x = record { code = t.code; nodes = t.nodes; edges = t.edges; head = t.head; parts = t.parts ++ (x ∷ []) }

unfoldable pub with : Parts → RuleKey → (row : ℕ) → Parts
with t op= x = record { code = x; nodes = t.nodes; edges = t.edges; head = t.head; parts = t.parts }
with t pnode= x = record { code = t.code; nodes = t.nodes ++ (x ∷ []); edges = t.edges; head = t.head; parts = t.parts }
with t pedge= x = record { code = t.code; nodes = t.nodes; edges = t.edges ++ (x ∷ []); head = t.head; parts = t.parts }
with t make= x = with_head t x
with t arm= x = with_part t x
with t put= x = with_part t x
with t drop= x = with_head t x
with t cut= x = with_part t x
with t group= x = with_head t x

pub record KeptRule (r : PackedRule) (l : Line) (r' : PackedRule) : Type 0 where
  pub fits : FitsRule r'
  pub parts : parts_of r' ≡ with (parts_of r) (rule_key l.kind) l.row

-- # What a text holds
-- code 0, or an action line, which comes after the pedge lines
unfoldable pub is_complete : Option Line → (code : ℕ) → Bool
is_complete last code = is_some last && (eqb code 0 || in_action last)
