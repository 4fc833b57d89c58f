-- "Drawing: class=number,kind; name=number,kind; may=class,name,class; node=number,class,value; edge=source,name,target."
use Rattle.std.specs.Prelude.{ℕ, suc, Bool, true, not, ◌&&◌, ◌||◌, List, [], ◌∷◌, ◌++◌, map, eqb, None, Some}
use Rattle.lists.specs.Lists.{each, ◌!◌}
use Rattle.model.specs.Limits
use Rattle.model.specs.Graph.{Declared, Scheme, Node, Instance, declares, is_object, is_value, row, stands, conforms}
use Rattle.model.specs.Operations.{node_row}
use Rattle.model.specs.Refusals.{Outcome, accepted, ◌>>=◌}
use Rattle.model.specs.Files.{Form, form, Line, Checks, checks, Format, numbers_of, read, line_text, triple_of}

pub data DrawingKey : Type 0 where
  class= name= may= node= edge= : DrawingKey

-- "repeated keys strictly rising by their numbers (node: by its number; class, name, arm: by the first number ..)"
abbrev pub drawing_form : DrawingKey → Form
drawing_form class= = form 0 "class" (Limits.classes ∷ Limits.kinds ∷ []) (Some 1) None
drawing_form name= = form 1 "name" (Limits.names ∷ Limits.kinds ∷ []) (Some 1) None
drawing_form may= = form 2 "may" (Limits.classes ∷ Limits.names ∷ Limits.classes ∷ []) (Some 3) (Some Limits.permitted)
drawing_form node= = form 3 "node" (suc Limits.last_number ∷ Limits.classes ∷ suc Limits.last_value ∷ []) (Some 1) (Some Limits.nodes)
drawing_form edge= = form 4 "edge" (suc Limits.last_number ∷ Limits.names ∷ suc Limits.last_number ∷ []) (Some 3) (Some Limits.edges)

abbrev pub DrawingLines : Type 0
DrawingLines = List (Line DrawingKey)

-- # What the lines say
abbrev pub declared_of : List ℕ → Declared
declared_of x = record { number = x ! 0; kind = x ! 1 }

abbrev pub node_of : List ℕ → Node ℕ
node_of x = record { number = x ! 0; class = x ! 1; value = x ! 2 }

abbrev pub scheme_in : DrawingLines → Scheme
scheme_in ls =
    record {
      classes = map declared_of (numbers_of drawing_form class= ls);
      names = map declared_of (numbers_of drawing_form name= ls);
      permitted = map triple_of (numbers_of drawing_form may= ls);
    }

abbrev pub instance_in : DrawingLines → Instance
instance_in ls =
    record { nodes = map node_of (numbers_of drawing_form node= ls); edges = map triple_of (numbers_of drawing_form edge= ls) }

-- # Causes 3 and 4
-- with the line, the file's instance conforms
abbrev pub conforms_with : DrawingLines → DrawingKey → List ℕ → Bool
conforms_with above k x = let now = above ++ (record { key = k; numbers = x } ∷ []) in conforms (scheme_in now) (instance_in now)

-- 3: "class, name or (pattern) node not declared above"; 4: "value .. on an object node; line breaks conformity, or a may starts at a value
-- class"
unfoldable pub drawing_checks : DrawingLines → DrawingKey → List ℕ → Checks
drawing_checks above class= x = checks true true true true
drawing_checks above name= x = checks true true true true
drawing_checks above may= x =
    let s = scheme_in above in
    let known = declares s.classes (x ! 0) && declares s.names (x ! 1) && declares s.classes (x ! 2) in
    checks true known (not (is_value s (x ! 0))) true
drawing_checks above node= x =
    let s = scheme_in above in
    let valued = not (is_object s (x ! 1)) || eqb (x ! 2) 0 in
    checks true (declares s.classes (x ! 1)) (valued && conforms_with above node= x) true
drawing_checks above edge= x =
    let d = instance_in above in
    let known = stands d (x ! 0) && declares (scheme_in above).names (x ! 1) && stands d (x ! 2) in
    checks true known (conforms_with above edge= x) true

-- "Keys come in this order"
abbrev pub drawing_keys : List DrawingKey
drawing_keys = class= ∷ name= ∷ may= ∷ node= ∷ edge= ∷ []

-- no line is required: "Empty text is an empty drawing."
unfoldable pub drawing_format : Format DrawingKey
drawing_format =
    record {
      keys = drawing_keys;
      form_of = drawing_form;
      checks_at = drawing_checks;
      complete = λ ls. true;
    }

pub record Contents : Type 0 where
  pub scheme : Scheme
  pub instance : Instance

unfoldable pub read_drawing : List ℕ → Outcome Contents
read_drawing text = read drawing_format text >>= λ ls. accepted (record { scheme = scheme_in ls; instance = instance_in ls })

-- # The file of a scheme and an instance
abbrev pub declared_row : Declared → List ℕ
declared_row d = d.number ∷ d.kind ∷ []

unfoldable pub file_text : Scheme → Instance → List ℕ
file_text s d =
    each s.classes (λ c. line_text drawing_form class= (declared_row c))
    ++ each s.names (λ n. line_text drawing_form name= (declared_row n))
    ++ each s.permitted (λ t. line_text drawing_form may= (row t))
    ++ each d.nodes (λ n. line_text drawing_form node= (node_row n))
    ++ each d.edges (λ e. line_text drawing_form edge= (row e))
