-- A line of a drawing file: what it must meet, told from what the lines above it hold.
use Rattle.std.specs.Prelude.{ℕ, suc, ◌^◌, ◌<◌, ◌≡◌, true, cond, not, ◌&&◌, List, length, eqb, IfSome, Result}
use Rattle.std.specs.Bool.{⊤}
use Rattle.lists.specs.Lists.{any}
use Rattle.model.specs.Graph.{Triple, Scheme, Node, Instance, declares, is_object, is_value, is_functional, stands, permits}
use Rattle.model.specs.Files.{Checks, checks, full}
use Rattle.model.specs.Files.DrawingFile.{DrawingKey, class=, name=, may=, node=, edge=, drawing_form, drawing_format}
use Rattle.model.specs.InForm.{LineInForm}
use Rattle.forms.specs.Forms.{of_drawing, drawing_key}
use Rattle.text.specs.Lines.{drawing_line, Tabled, follows_last}
use Rattle.model.specs.declared.Refusal.{Refusal}
use Rattle.text.specs.declared.lines.Line.{Line}
use Rattle.text.specs.declared.lines.Last.{Last}
use Rattle.graph.specs.Packed.{unpack_triple, unpack_node}
use Rattle.verdicts.specs.Verdicts.{verdict, last_shares}

unfoldable pub may_checks : Scheme → Triple → Checks
may_checks s t =
    checks true (declares s.classes t.source && declares s.names t.name && declares s.classes t.target)
    (not (is_value s t.source)) true

-- the nodes above are apart already, and no edge stands yet
unfoldable pub node_checks : Scheme → List (Node ℕ) → Node ℕ → Checks
node_checks s ns n =
    checks true (declares s.classes n.class)
    (cond (is_object s n.class) (eqb n.value 0) (not (any (λ m. eqb m.class n.class && eqb m.value n.value) ns))) true

-- the edges above conform already and stand before this one, so that only the last can be of the same node and name
unfoldable pub edge_checks : Scheme → Instance → Triple → Checks
edge_checks s d e =
    checks true (stands d e.source && declares s.names e.name && stands d e.target)
    (permits s d e && not (is_functional s e.name && last_shares d.edges e)) true

unfoldable pub line_checks : Scheme → Instance → DrawingKey → (row : ℕ) → Checks
line_checks s d class= r = checks true true true true
line_checks s d name= r = checks true true true true
line_checks s d may= r = may_checks s (unpack_triple r)
line_checks s d node= r = node_checks s d.nodes (unpack_node r)
line_checks s d edge= r = edge_checks s d (unpack_triple r)

-- how many lines of the kind stand above, of those that document 01 limits
unfoldable pub lines_above : Scheme → Instance → DrawingKey → ℕ
lines_above s d class= = 0
lines_above s d name= = 0
lines_above s d may= = length s.permitted
lines_above s d node= = length d.nodes
lines_above s d edge= = length d.edges

unfoldable pub drawing_verdict : Scheme → Instance → Last → Line → Result ⊤ Refusal
drawing_verdict s d last l =
    let k = drawing_key l.kind in
    verdict (suc last.lines) (follows_last last.line l) (full (drawing_form k).most (lines_above s d k)) (line_checks s d k l.row)

-- the line to be looked at is in form, and so is the last one above it
pub record Coming (last : Last) (l : Line) : Type 0 where
  pub above : IfSome last.line Tabled
  pub few : suc last.lines < 2 ^ 64
  pub tabled : Tabled l
  pub kind : of_drawing l.kind ≡ true
  pub in-form : LineInForm drawing_format (drawing_line l)
