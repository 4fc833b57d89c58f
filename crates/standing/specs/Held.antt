-- The drawing that the lines of a file make, and what a further line adds to it.
use Rattle.std.specs.Prelude.{ℕ, ◌/◌, ◌%◌, ◌≤◌, ◌<◌, ◌≡◌, true, List, [], ◌∷◌, ◌++◌, map, length, ltb}
use Rattle.lists.specs.Lists.{all}
use Rattle.lists.specs.Order.{rising}
use Rattle.model.specs.Limits
use Rattle.model.specs.Graph.{Declared, Scheme, Instance, row, nodes_rise}
use Rattle.model.specs.Files.DrawingFile.{DrawingKey, class=, name=, may=, node=, edge=}
use Rattle.forms.specs.Forms.{of_drawing, drawing_key}
use Rattle.text.specs.declared.lines.Line.{Line}
use Rattle.graph.specs.Packed.{unpack_triple, unpack_node, unpack_declared, unpack_scheme, unpack_instance, Snug}
use Rattle.standing.specs.declared.Drawing.{Drawing}

-- # What stands
-- the arrays have the limits' lengths, and no more stands in them
pub record Fits (d : Drawing) : Type 0 where
  pub permitted_room : length d.scheme.permitted ≡ Limits.permitted
  pub nodes_room : length d.instance.nodes ≡ Limits.nodes
  pub edges_room : length d.instance.edges ≡ Limits.edges
  pub permissions : d.scheme.permissions ≤ Limits.permitted
  pub order : d.instance.order ≤ Limits.nodes
  pub size : d.instance.size ≤ Limits.edges
  pub classes : Snug d.scheme.classes
  pub names : Snug d.scheme.names

-- and what stands can be searched by halving
pub record Held (d : Drawing) : Type 0 where
  pub fits : Fits d
  pub triples : rising (map row (unpack_scheme d.scheme).permitted) ≡ true
  pub numbers : nodes_rise (unpack_instance d.instance) ≡ true

pub record FreshDrawing (d : Drawing) : Type 0 where
  pub scheme : unpack_scheme d.scheme ≡ record { classes = []; names = []; permitted = [] }
  pub instance : unpack_instance d.instance ≡ record { nodes = []; edges = [] }
  pub fits : Fits d

-- # What a line adds
abbrev declared : (row : ℕ) → Declared
declared r = record { number = r / 2; kind = r % 2 }

unfoldable pub scheme_with : Scheme → DrawingKey → (row : ℕ) → Scheme
scheme_with s class= r = record { classes = s.classes ++ (declared r ∷ []); names = s.names; permitted = s.permitted }
scheme_with s name= r = record { classes = s.classes; names = s.names ++ (declared r ∷ []); permitted = s.permitted }
scheme_with s may= r = record { classes = s.classes; names = s.names; permitted = s.permitted ++ (unpack_triple r ∷ []) }
scheme_with s node= r = s
scheme_with s edge= r = s

unfoldable pub instance_with : Instance → DrawingKey → (row : ℕ) → Instance
instance_with d class= r = d
instance_with d name= r = d
instance_with d may= r = d
instance_with d node= r = record { nodes = d.nodes ++ (unpack_node r ∷ []); edges = d.edges }
instance_with d edge= r = record { nodes = d.nodes; edges = d.edges ++ (unpack_triple r ∷ []) }

-- there is room for what the line adds, at the end of what stands
abbrev IsAbove : List Declared → (row : ℕ) → Type 0
IsAbove ds r = (r / 2 < Limits.classes) × (all (λ d. ltb d.number (r / 2)) ds ≡ true)

abbrev HasRoomFor : Drawing → DrawingKey → (row : ℕ) → Type 0
HasRoomFor d class= r = IsAbove (unpack_declared d.scheme.classes) r
HasRoomFor d name= r = IsAbove (unpack_declared d.scheme.names) r
HasRoomFor d may= r = d.scheme.permissions < Limits.permitted
HasRoomFor d node= r = d.instance.order < Limits.nodes
HasRoomFor d edge= r = d.instance.size < Limits.edges

pub record Room (d : Drawing) (l : Line) : Type 0 where
  pub kind : of_drawing l.kind ≡ true
  pub room : HasRoomFor d (drawing_key l.kind) l.row

pub record KeptLine (d : Drawing) (l : Line) (r : Drawing) : Type 0 where
  pub fits : Fits r
  pub scheme : unpack_scheme r.scheme ≡ scheme_with (unpack_scheme d.scheme) (drawing_key l.kind) l.row
  pub instance : unpack_instance r.instance ≡ instance_with (unpack_instance d.instance) (drawing_key l.kind) l.row
