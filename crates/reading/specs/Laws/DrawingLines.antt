-- A line of a drawing file, under lines that pass: its checks, told from the scheme and the instance that those lines hold, and what it adds.
-- Lines that pass make an accepted file, which holds a sound drawing; in turn, a node stands before all edges, and rows rise.
use Prim.Native.Nat.{ℕ, suc, ◌/◌, ◌%◌}
use Rattle.std.proofs.Common.{arith, ◌∙◌, eqb-true, eq-eqb}
use Rattle.std.specs.Prelude.{◌≡◌, Bool, true, false, cond, ◌||◌, length, take}
use Rattle.std.proofs.Math.Path.{refl, ap, ap₂, sym}
use Rattle.std.proofs.Math.Bool.{not, ◌&&◌, and-true}
use mathlib.Core.List.{List, [], ◌∷◌, ◌++◌, map, map-append, map-map, append-nil}
use Rattle.std.proofs.lemmas.List.{length-map}
use Rattle.std.proofs.Math.Dec.{eqb}
use Rattle.lists.specs.Lists.{any, last_of}
use Rattle.lists.specs.Order.{rising}
use Rattle.lists.specs.Radix.{unrank}
use Rattle.model.specs.Graph.{Scheme, Instance, is_object, is_value, is_functional, row, stands, permits, declares, conforms}
use Rattle.model.specs.Limits
use Rattle.model.specs.Operations.{node_row}
use Rattle.model.specs.Sound.{Sound}
use Rattle.model.specs.Refusals.{accepted, ◌>>=◌}
use Rattle.model.specs.Files.{Line, full, numbers_of, follows, triple_of}
use Rattle.model.specs.Files.DrawingFile.{DrawingKey, class=, name=, may=, node=, edge=, drawing_form, DrawingLines, declared_of, node_of, scheme_in, instance_in}
use Rattle.model.specs.Files.DrawingFile.{drawing_checks, drawing_format, read_drawing}
use Rattle.model.proofs.Laws.Graph.{ListedDeclarations, listed-scheme}
use Rattle.model.proofs.Laws.Kinds.{object-not-value, value-class}
use Rattle.model.specs.InForm.{LineInForm}
use Rattle.model.proofs.Laws.Lines.{text_of, Readable, read-iff}
use Rattle.model.proofs.Laws.Passing.{Passing, numbers-append}
use Rattle.model.proofs.Laws.DrawingFiles.{drawing-regular, contents_in, rows_in_lem}
use Rattle.model.proofs.Laws.SoundFiles.{accepted-is-sound}
use Rattle.forms.specs.Forms.{drawing_kind}
use Rattle.graph.specs.Packed.{triple_rooms, node_rooms, declared_rooms, unpack_triple, unpack_node}
use Rattle.graph.proofs.Laws.Fields.{triple-fields, node-fields, declared-fields}
use Rattle.verdicts.specs.Verdicts.{verdict, last_shares}
use Rattle.verdicts.proofs.Laws.Verdicts.{verdict_of, Agree, agree_same, verdict-agrees}
use Rattle.verdicts.proofs.Laws.Edges.{edge-conforms, node-conforms}
use Rattle.verdicts.proofs.Laws.InTurn.{none-later, rows-rise-with}
use Rattle.standing.specs.Held.{scheme_with, instance_with}
use Rattle.drawing_lines.specs.DrawingLines.{may_checks, node_checks, edge_checks, line_checks, lines_above}

-- # A row and its numbers
row-triple : (r : ℕ) → triple_of (unrank triple_rooms r) ≡ unpack_triple r
row-triple r = ap triple_of (triple-fields r)

row-node : (r : ℕ) → node_of (unrank node_rooms r) ≡ unpack_node r
row-node r = ap node_of (node-fields r)

row-declared : (r : ℕ) → declared_of (unrank declared_rooms r) ≡ record { number = r / 2; kind = r % 2 }
row-declared r = ap declared_of (declared-fields r)

-- the line that a key and a row are
abbrev pub row_line : DrawingKey → (row : ℕ) → Line DrawingKey
row_line k r = record { key = k; numbers = unrank (drawing_kind k).rooms r }

-- # Lines that pass hold a sound drawing
pub passing-sound : (ls : DrawingLines) → Passing drawing_format ls → Sound (scheme_in ls) (instance_in ls)
unfolding read_drawing drawing_format
passing-sound ls h =
    let t = text_of drawing_format ls in
    let lines : Readable drawing_format t ls = record { written = record { text = refl; in-form = h.in-form }; pass = h.pass; complete = refl } in
    accepted-is-sound t (contents_in ls) (ap (λ o. o >>= λ ms. accepted (contents_in ms)) ((read-iff drawing_format drawing-regular t ls).1 lines))

-- # What a line adds
pub scheme-with : (above : DrawingLines) (k : DrawingKey) (r : ℕ) → scheme_in (above ++ (row_line k r ∷ [])) ≡ scheme_with (scheme_in above) k r
unfolding scheme_with
scheme-with above class= r = simp (numbers-append, map-append, row-declared, append-nil)
scheme-with above name= r = simp (numbers-append, map-append, row-declared, append-nil)
scheme-with above may= r = simp (numbers-append, map-append, row-triple, append-nil)
scheme-with above node= r = simp (numbers-append, append-nil)
scheme-with above edge= r = simp (numbers-append, append-nil)

pub instance-with : (above : DrawingLines) (k : DrawingKey) (r : ℕ) → instance_in (above ++ (row_line k r ∷ [])) ≡ instance_with (instance_in above) k r
unfolding instance_with
instance-with above class= r = simp (numbers-append, append-nil)
instance-with above name= r = simp (numbers-append, append-nil)
instance-with above may= r = simp (numbers-append, append-nil)
instance-with above node= r = simp (numbers-append, map-append, row-node, append-nil)
instance-with above edge= r = simp (numbers-append, map-append, row-triple, append-nil)

-- how many lines of its kind stand above it
crowded-by : (above : DrawingLines) (k : DrawingKey)
    → full (drawing_form k).most (length (numbers_of drawing_form k above)) ≡ full (drawing_form k).most (lines_above (scheme_in above) (instance_in above) k)
unfolding lines_above
crowded-by above class= = refl
crowded-by above name= = refl
crowded-by above may= = simp length-map
crowded-by above node= = simp length-map
crowded-by above edge= = simp length-map

-- # A line's checks
rise-of : {A : Type 0} (f : A → List ℕ) (n : ℕ) (xs : List A) (y : A) → rising (map (take n) (map f xs ++ (f y ∷ []))) ≡ true
    → rising (map (λ x. take n (f x)) (xs ++ (y ∷ []))) ≡ true
rise-of f n xs y h = rw map-append (rw (map-append, map-map) at h)

-- in turn under lines that pass
module _ (above : DrawingLines) (passing : Passing drawing_format above) where
  abbrev s : Scheme
  s = scheme_in above

  abbrev d : Instance
  d = instance_in above

  conforms-above : conforms s d ≡ true
  conforms-above = (passing-sound above passing).conforming

  module _ (r : ℕ) (in-form : LineInForm drawing_format (row_line node= r)) (in-turn : follows drawing_form (last_of above) (row_line node= r) ≡ true) where
    no-edge-yet : d.edges ≡ []
    unfolding drawing_format
    no-edge-yet = ap (map triple_of) (none-later drawing_format drawing-regular above (row_line node= r) passing in-form in-turn edge= (omega arith))

    nodes-rise-with : rising (map (λ m. m.number ∷ []) (d.nodes ++ (unpack_node r ∷ []))) ≡ true
    unfolding drawing_format
    nodes-rise-with =
        let rise = rows-rise-with drawing_format drawing-regular above (row_line node= r) passing in-form in-turn 1 refl in
        rise-of node_row 1 d.nodes (unpack_node r) (rw (← rows_in_lem above passing node=, ap node_row (row-node r)) at rise)

    conforms-with-node : conforms s (record { nodes = d.nodes ++ (unpack_node r ∷ []); edges = d.edges })
        ≡ not (is_value s (unpack_node r).class && any (λ m. eqb m.class (unpack_node r).class && eqb m.value (unpack_node r).value) d.nodes)
    conforms-with-node =
        let e = no-edge-yet in
        rw e (node-conforms eqb s (λ v w t. eq-eqb w v (sym (eqb-true v w t))) d.nodes (unpack_node r) (rw e at conforms-above) nodes-rise-with)

  module _ (r : ℕ) (in-form : LineInForm drawing_format (row_line edge= r)) (in-turn : follows drawing_form (last_of above) (row_line edge= r) ≡ true) where
    edges-rise-with : rising (map row (d.edges ++ (unpack_triple r ∷ []))) ≡ true
    unfolding drawing_format
    edges-rise-with =
        let rise = rows-rise-with drawing_format drawing-regular above (row_line edge= r) passing in-form in-turn 3 refl in
        rise-of row 3 d.edges (unpack_triple r) (rw (← rows_in_lem above passing edge=, ap row (row-triple r)) at rise)

    conforms-with-edge : conforms s (record { nodes = d.nodes; edges = d.edges ++ (unpack_triple r ∷ []) })
        ≡ (permits s d (unpack_triple r) && not (is_functional s (unpack_triple r).name && last_shares d.edges (unpack_triple r)))
    conforms-with-edge = edge-conforms eqb s d (unpack_triple r) conforms-above edges-rise-with

  -- a node of an object class has value 0, and shares nothing; one of a value class shares its value with none above
  value-suits : (c v : ℕ) (shared : Bool) → declares s.classes c ≡ true
      → cond (is_object s c) (eqb v 0) (not shared) ≡ ((not (is_object s c) || eqb v 0) && not (is_value s c && shared))
  value-suits c v shared h = go (is_object s c) refl
    where
      classes : ListedDeclarations Limits.classes s.classes
      classes = ((listed-scheme s).0 (passing-sound above passing).scheme).classes

      go : (t : Bool) → is_object s c ≡ t → cond (is_object s c) (eqb v 0) (not shared) ≡ ((not (is_object s c) || eqb v 0) && not (is_value s c && shared))
      go true e = rw (e, object-not-value s classes c e) (sym (and-true (eqb v 0)))
      go false e = rw (e, value-class s classes c h e)

  -- the checks of a line in turn come to those of the definition
  checks-agree : (k : DrawingKey) (r : ℕ) → LineInForm drawing_format (row_line k r) → follows drawing_form (last_of above) (row_line k r) ≡ true
      → Agree (line_checks s d k r) (drawing_checks above k (row_line k r).numbers)
  unfolding line_checks drawing_checks may_checks node_checks edge_checks scheme_with instance_with
  checks-agree class= r f t = agree_same refl
  checks-agree name= r f t = agree_same refl
  checks-agree may= r f t = agree_same (ap (may_checks s) (sym (row-triple r)))
  checks-agree node= r f t =
      let n = unpack_node r in
      record {
        declared = ap (λ m. declares s.classes m.class) (sym (row-node r));
        conforming =
            λ h.
            value-suits n.class n.value (any (λ m. eqb m.class n.class && eqb m.value n.value) d.nodes) h
            ∙ ap₂ ◌&&◌ (ap (λ m. not (is_object s m.class) || eqb m.value 0) (sym (row-node r)))
            (sym (ap₂ conforms (scheme-with above node= r) (instance-with above node= r) ∙ conforms-with-node r f t));
        suited = refl;
      }
  checks-agree edge= r f t =
      record {
        declared = ap (λ e. stands d e.source && declares s.names e.name && stands d e.target) (sym (row-triple r));
        conforming = λ h. sym (ap₂ conforms (scheme-with above edge= r) (instance-with above edge= r) ∙ conforms-with-edge r f t);
        suited = refl;
      }

  placed-anywhere : (k : DrawingKey) (x : List ℕ) → (drawing_checks above k x).placed ≡ true
  unfolding drawing_checks
  placed-anywhere class= x = refl
  placed-anywhere name= x = refl
  placed-anywhere may= x = refl
  placed-anywhere node= x = refl
  placed-anywhere edge= x = refl

  -- the verdict on a line, told from what the lines above it hold, is that of the definition
  pub line-verdict : (k : DrawingKey) (r : ℕ) → LineInForm drawing_format (row_line k r)
      → verdict (suc (length above)) (follows drawing_form (last_of above) (row_line k r)) (full (drawing_form k).most (lines_above s d k)) (line_checks s d k r)
      ≡ verdict_of drawing_format above (row_line k r)
  unfolding drawing_format
  line-verdict k r f =
      let line = suc (length above) in
      let in-turn = follows drawing_form (last_of above) (row_line k r) in
      let here = drawing_checks above k (row_line k r).numbers in
      let in_place : in-turn ≡ (in-turn && here.placed) =
      sym (ap (λ t. in-turn && t) (placed-anywhere k (row_line k r).numbers) ∙ and-true in-turn) in
      verdict-agrees line in-turn (full (drawing_form k).most (lines_above s d k)) (line_checks s d k r) here (checks-agree k r f)
      ∙ ap₂ (λ a b. verdict line a b here) in_place (sym (crowded-by above k))
