-- The file of a sound drawing is accepted, and opens to that drawing.
-- Each line's checks are read on the whole scheme and on the part of the drawing above it, and a part of a sound drawing conforms.
use Rattle.std.specs.Prelude.{ℕ, suc, ◌<◌, ◌≤◌, ◌≡◌, not, ◌&&◌, ◌||◌, length, leb}
use Rattle.std.proofs.Common.{arith, ◌∙◌, sym, subst, inl, inr, ⊎_elim, length-append}
use Rattle.std.proofs.Math.Path.{refl, ap, ap₂}
use Rattle.std.proofs.Math.Bool.{true}
use Rattle.std.proofs.lemmas.Bool.{false≢true}
use mathlib.Core.List.Memᴰ
use mathlib.Core.List.{List, [], ◌∷◌, ◌++◌, map, map-append, append_assoc, map-map}
use Rattle.std.proofs.lemmas.List.{length-map}
use Rattle.std.proofs.Math.Dec.{eqb}
use Rattle.lists.specs.Lists.{◌∈◌, ◌!◌}
use Rattle.lists.proofs.Laws.Lists.{both, one_of, not_so, fails, equals, at_most, any-member, in-append, in_map}
use Rattle.lists.proofs.Laws.Maps.{map_back, rising-front}
use Rattle.lists.specs.Radix.{within}
use Rattle.lists.proofs.Laws.Count.{within-cons}
use Rattle.model.specs.Limits
use Rattle.model.specs.Graph.{Declared, Triple, Scheme, Node, Instance, declares, is_object, is_value, row, stands, of_class, permits, conforms}
use Rattle.model.specs.Operations.{node_row}
use Rattle.model.specs.Sound.{Sound}
use Rattle.model.specs.Refusals.{accepted, ◌>>=◌}
use Rattle.model.specs.Files.{checks, numbers_of, triple_of}
use Rattle.model.specs.Files.DrawingFile.{DrawingKey, class=, name=, may=, node=, edge=, drawing_form, DrawingLines, drawing_checks}
use Rattle.model.specs.Files.DrawingFile.{drawing_format}
use Rattle.model.specs.Files.DrawingFile.{declared_of, node_of, scheme_in, instance_in, conforms_with, read_drawing, declared_row, file_text}
use Rattle.model.proofs.Laws.Graph.{ListedDeclarations, ListedScheme, listed-scheme, stands-node, joins-triple}
use Rattle.model.proofs.Laws.Sound.{well-formed, sound, permits-stand}
use Rattle.model.proofs.Laws.Lines.{text_of, read-iff}
use Rattle.model.proofs.Laws.Passing.{AtMost, in_order, numbers-append}
use Rattle.model.proofs.Laws.Keys.{rows_rise, RowsFit, lines-in-order, lines-pass, rows_back, earlier-above, earlier-now, later-not-yet}
use Rattle.model.proofs.Laws.DrawingFiles.{drawing-regular, drawing-key, rows_of, file_lines, file-text, contents_in}
use Rattle.model.proofs.Laws.Kinds.{kind-declared, object-not-value}
use Rattle.model.proofs.Laws.SoundFiles.{within-declared, may-checks, node-checks, edge-checks}

-- # Parts of a sound drawing
permits-by-nodes : (s : Scheme) (g h : Instance) (e : Triple) → g.nodes ≡ h.nodes → permits s g e ≡ true → permits s h e ≡ true
permits-by-nodes s g h e q p = rw q at p

-- # Rows and what they are the rows of
module _ {A : Type 0} (g : List ℕ → A) (h : A → List ℕ) (xs : List A) (back : (x : A) → g (h x) ≡ x) where
  rows-give : {ys : List (List ℕ)} → ys ≡ map h xs → map g ys ≡ xs
  rows-give e = ap (map g) e ∙ map_back g h xs (λ x i. back x)

  rows-part : (ys zs : List (List ℕ)) → ys ++ zs ≡ map h xs → xs ≡ map g ys ++ map g zs
  rows-part ys zs e = sym (rows-give e) ∙ map-append g ys zs

module _ (s : Scheme) (d : Instance) (h : Sound s d) where
  -- nodes and edges that come first in a sound drawing conform, if the edges' triples are permitted
  part-conforms : (part : Instance) (ms : List (Node ℕ)) (fs : List Triple) → d.nodes ≡ part.nodes ++ ms → d.edges ≡ part.edges ++ fs
      → ((e : Triple) → e ∈ part.edges → permits s part e ≡ true) → conforms s part ≡ true
  part-conforms part ms fs n e p =
      let f = well-formed s d h in
      let node : (m : Node ℕ) → m ∈ part.nodes → m ∈ d.nodes = λ m i. rw n ((in-append part.nodes ms).1 (inl i)) in
      let edge : (t : Triple) → t ∈ part.edges → t ∈ d.edges = λ t i. rw e ((in-append part.edges fs).1 (inl i)) in
      (sound s part h.scheme (record {
        few-nodes = omega (arith, f.few-nodes, ap length n, length-append part.nodes ms);
        nodes-rise = rising-front (λ m. m.number ∷ []) part.nodes ms (rw n at f.nodes-rise);
        few-edges = omega (arith, f.few-edges, ap length e, length-append part.edges fs);
        edges-rise = rising-front row part.edges fs (rw e at f.edges-rise);
        within = λ m i. f.within m (node m i);
        permitted = p;
        whole = λ t u i j. f.whole t u (edge t i) (edge u j);
        apart = λ m o i j. f.apart m o (node m i) (node o j);
      })).conforming

  -- # The rows of a sound drawing
  declared-below : (below : ℕ) (ds : List Declared) → ListedDeclarations below ds → (c : ℕ) → declares ds c ≡ true → c < below
  declared-below below ds l c e =
      let r = (any-member (λ d. eqb d.number c) ds).0 e in
      omega (arith, (l.within r.0 r.1).0, (equals r.0.number c).0 r.2)

  listed : ListedScheme s
  listed = (listed-scheme s).0 h.scheme

  class-below : (c : ℕ) → declares s.classes c ≡ true → c < Limits.classes
  class-below = declared-below Limits.classes s.classes listed.classes

  name_below : (n : ℕ) → declares s.names n ≡ true → n < Limits.names
  name_below = declared-below Limits.names s.names listed.names

  -- what is said of the class and value of a node
  node-class : (n : Node ℕ) → n ∈ d.nodes
      → (declares s.classes n.class ≡ true) × (n.value ≤ Limits.last_value) × ((not (is_object s n.class) || eqb n.value 0) ≡ true)
  node-class n i =
      let c = n.class in
      let v = n.value in
      let suits = one_of (not (is_object s c)) (eqb v 0) in
      ⊎_elim
      (λ e.
      let r = (both (is_value s c) (leb v Limits.last_value)).0 e in
      let plain = (fails (is_object s c)).1 (λ o. false≢true (sym (object-not-value s listed.classes c o) ∙ r.0)) in
      (kind-declared s.classes c 1 r.0, (at_most v Limits.last_value).0 r.1, suits.1 (inl ((not_so (is_object s c)).1 plain))))
      (λ e.
      let r = (both (is_object s c) (eqb v 0)).0 e in
      (kind-declared s.classes c 0 r.0, omega (arith, (equals v 0).0 r.1), suits.1 (inr r.1)))
      ((one_of (is_value s c && leb v Limits.last_value) (is_object s c && eqb v 0)).0 ((well-formed s d h).within n i).1)

  node-number : (i : ℕ) → stands d i ≡ true → i < suc Limits.last_number
  node-number i e = let r = (stands-node d i).0 e in let w = ((well-formed s d h).within r.0 r.1).0 in let q = r.2 in omega arith

  -- what is said of an edge
  edge-known : (e : Triple) → e ∈ d.edges → ((stands d e.source ≡ true) × (declares s.names e.name ≡ true)) × (stands d e.target ≡ true)
  edge-known e i =
      let p = (well-formed s d h).permitted e i in
      let ends = permits-stand d s e p in
      let t = (joins-triple s (of_class d e.source) e.name (of_class d e.target)).0 p in
      ((ends.0, subst (λ n. declares s.names n ≡ true) t.2.0.1 (listed.declared t.0 t.1).0.1), ends.1)

  three-within : {a b c m n o : ℕ} → m < a → n < b → o < c → within (a ∷ b ∷ c ∷ []) (m ∷ n ∷ o ∷ []) ≡ true
  three-within p q r = simp within-cons (p, (q, (r, refl)))

  declared-within : (below : ℕ) (ds : List Declared) → ListedDeclarations below ds → (x : List ℕ) → x ∈ map declared_row ds
      → within (below ∷ Limits.kinds ∷ []) x ≡ true
  declared-within below ds l x i =
      let r = (in_map declared_row ds).0 i in
      rw r.2 ((within-declared below r.0).1 (l.within r.0 r.1))

  rows-limited : (k : DrawingKey) (x : List ℕ) → x ∈ rows_of s d k → within (drawing_form k).below x ≡ true
  rows-limited class= x i = declared-within Limits.classes s.classes listed.classes x i
  rows-limited name= x i = declared-within Limits.names s.names listed.names x i
  rows-limited may= x i =
      let r = (in_map row s.permitted).0 i in
      let t = r.0 in
      let l = listed.declared t r.1 in
      let source = kind-declared s.classes t.source 0 l.0.0 in
      rw r.2 (three-within (class-below t.source source) (name_below t.name l.0.1) (class-below t.target l.1))
  rows-limited node= x i =
      let r = (in_map node_row d.nodes).0 i in
      let n = r.0 in
      let number = ((well-formed s d h).within n r.1).0 in
      let c = node-class n r.1 in
      let value = c.1 in
      rw r.2 (three-within {m = n.number} {o = n.value} (omega arith) (class-below n.class c.0) (omega arith))
  rows-limited edge= x i =
      let r = (in_map row d.edges).0 i in
      let e = r.0 in
      let k = edge-known e r.1 in
      rw r.2 (three-within (node-number e.source k.0.0) (name_below e.name k.0.1) (node-number e.target k.1))

  rows_fit : RowsFit drawing_format (rows_of s d)
  unfolding drawing_format
  rows_fit = record { rise = λ k i. rise k; limited = λ k i. rows-limited k; few = λ k i. few k }
    where
      rise : (k : DrawingKey) → rows_rise (drawing_form k).by (rows_of s d k) ≡ true
      rise class= = rw map-map listed.classes.rise
      rise name= = rw map-map listed.names.rise
      rise may= = rw map-map listed.rise
      rise node= = rw map-map (well-formed s d h).nodes-rise
      rise edge= = rw map-map (well-formed s d h).edges-rise

      few : (k : DrawingKey) → AtMost (drawing_form k).most (length (rows_of s d k))
      few class= = tt
      few name= = tt
      few may= = rw length-map listed.few
      few node= = rw length-map (well-formed s d h).few-nodes
      few edge= = rw length-map (well-formed s d h).few-edges

  -- # The lines of its file
  rows-in-file : (k : DrawingKey) → numbers_of drawing_form k (file_lines s d) ≡ rows_of s d k
  unfolding drawing_format
  rows-in-file k = rows_back drawing_format (rows_of s d) drawing_format.keys drawing-regular.turns-rise k (drawing-key k)

  file-in-order : in_order drawing_format (file_lines s d) ≡ true
  file-in-order = lines-in-order drawing_format (rows_of s d) drawing-regular rows_fit

  scheme-from : (ls : DrawingLines) → numbers_of drawing_form class= ls ≡ rows_of s d class= → numbers_of drawing_form name= ls ≡ rows_of s d name=
      → numbers_of drawing_form may= ls ≡ rows_of s d may= → scheme_in ls ≡ s
  scheme-from ls a b c =
      λ i. record {
        classes = rows-give declared_of declared_row s.classes (λ x. refl) a i;
        names = rows-give declared_of declared_row s.names (λ x. refl) b i;
        permitted = rows-give triple_of row s.permitted (λ x. refl) c i;
      }

  file-contents : contents_in (file_lines s d) ≡ record { scheme = s; instance = d }
  file-contents =
      λ i. record {
        scheme = scheme-from (file_lines s d) (rows-in-file class=) (rows-in-file name=) (rows-in-file may=) i;
        instance = record {
          nodes = rows-give node_of node_row d.nodes (λ x. refl) (rows-in-file node=) i;
          edges = rows-give triple_of row d.edges (λ x. refl) (rows-in-file edge=) i;
        };
      }

  -- at a line of the file
  module _ (above rest : DrawingLines) (k : DrawingKey) (x : List ℕ) (e : file_lines s d ≡ above ++ (record { key = k; numbers = x } ∷ rest)) where
    abbrev with-line : DrawingLines
    with-line = above ++ (record { key = k; numbers = x } ∷ [])

    rows_above : (j : DrawingKey) → (drawing_form j).turn < (drawing_form k).turn → numbers_of drawing_form j above ≡ rows_of s d j
    unfolding drawing_format
    rows_above j t = earlier-above drawing_format (file_lines s d) above rest record { key = k; numbers = x } file-in-order e j t ∙ rows-in-file j

    rows-now : (j : DrawingKey) → (drawing_form j).turn < (drawing_form k).turn → numbers_of drawing_form j with-line ≡ rows_of s d j
    unfolding drawing_format
    rows-now j t = earlier-now drawing_format (file_lines s d) above rest record { key = k; numbers = x } file-in-order e j t ∙ rows-in-file j

    -- the rows of a key with the line, and those below it, are all
    rows_split : (j : DrawingKey) → numbers_of drawing_form j with-line ++ numbers_of drawing_form j rest ≡ rows_of s d j
    rows_split j =
        sym (numbers-append drawing_form j with-line rest)
        ∙ ap (numbers_of drawing_form j) (append_assoc above (record { key = k; numbers = x } ∷ []) rest ∙ sym e)
        ∙ rows-in-file j

    classes-above : (drawing_form class=).turn < (drawing_form k).turn → (scheme_in above).classes ≡ s.classes
    classes-above t = rows-give declared_of declared_row s.classes (λ c. refl) (rows_above class= t)

    names-above : (drawing_form name=).turn < (drawing_form k).turn → (scheme_in above).names ≡ s.names
    names-above t = rows-give declared_of declared_row s.names (λ c. refl) (rows_above name= t)

    edges-split : d.edges ≡ (instance_in with-line).edges ++ (instance_in rest).edges
    edges-split = rows-part triple_of row d.edges (λ t. refl) (numbers_of drawing_form edge= with-line) (numbers_of drawing_form edge= rest) (rows_split edge=)

    -- with a line of a node or an edge, the scheme is whole, and a part of the drawing stands, which conforms
    part-with : (drawing_form may=).turn < (drawing_form k).turn
        → ((f : Triple) → f ∈ (instance_in with-line).edges → permits s (instance_in with-line) f ≡ true) → conforms_with above k x ≡ true
    part-with t p =
        subst (λ z. conforms z (instance_in with-line) ≡ true)
        (sym (scheme-from with-line (rows-now class= (omega arith)) (rows-now name= (omega arith)) (rows-now may= t)))
        (part-conforms (instance_in with-line) (instance_in rest).nodes (instance_in rest).edges
        (rows-part node_of node_row d.nodes (λ n. refl) (numbers_of drawing_form node= with-line) (numbers_of drawing_form node= rest) (rows_split node=))
        edges-split p)

  -- what a row says holds
  may-row : (x : List ℕ) → x ∈ rows_of s d may=
      → ((declares s.classes (x ! 0) && declares s.names (x ! 1) && declares s.classes (x ! 2)) ≡ true) × (not (is_value s (x ! 0)) ≡ true)
  may-row x i =
      let r = (in_map row s.permitted).0 i in
      let t = r.0 in
      let l = listed.declared t r.1 in
      let source = kind-declared s.classes t.source 0 l.0.0 in
      rw r.2 (simp both ((source, l.0.1), l.1), (not_so (is_value s t.source)).1 (object-not-value s listed.classes t.source l.0.0))

  node_row_lem : (x : List ℕ) → x ∈ rows_of s d node= → (declares s.classes (x ! 1) ≡ true) × ((not (is_object s (x ! 1)) || eqb (x ! 2) 0) ≡ true)
  node_row_lem x i = let r = (in_map node_row d.nodes).0 i in let c = node-class r.0 r.1 in rw r.2 (c.0, c.2)

  edge_row : (x : List ℕ) → x ∈ rows_of s d edge= → (stands d (x ! 0) && declares s.names (x ! 1) && stands d (x ! 2)) ≡ true
  edge_row x i = let r = (in_map row d.edges).0 i in rw r.2 (simp both (edge-known r.0 r.1))

  -- each line's checks hold
  node-conforms : (above rest : DrawingLines) (x : List ℕ) → file_lines s d ≡ above ++ (record { key = node=; numbers = x } ∷ rest)
      → conforms_with above node= x ≡ true
  unfolding drawing_format
  node-conforms above rest x e =
      let no_edge : (instance_in (above ++ (record { key = node=; numbers = x } ∷ []))).edges ≡ [] =
      ap (map triple_of) (later-not-yet drawing_format (file_lines s d) above rest record { key = node=; numbers = x } file-in-order e edge= (omega arith)) in
      part-with above rest node= x e (omega arith) (λ f j. absurd (Memᴰ.not-nil (subst (λ es. f ∈ es) no_edge j)))

  edge-conforms : (above rest : DrawingLines) (x : List ℕ) → file_lines s d ≡ above ++ (record { key = edge=; numbers = x } ∷ rest)
      → conforms_with above edge= x ≡ true
  edge-conforms above rest x e =
      let part = instance_in (above ++ (record { key = edge=; numbers = x } ∷ [])) in
      let nodes : part.nodes ≡ d.nodes = rows-give node_of node_row d.nodes (λ n. refl) (rows-now above rest edge= x e node= (omega arith)) in
      part-with above rest edge= x e (omega arith) (λ f j.
      let i : f ∈ d.edges = rw (edges-split above rest edge= x e) ((in-append part.edges (instance_in rest).edges).1 (inl j)) in
      permits-by-nodes s d part f (sym nodes) ((well-formed s d h).permitted f i))

  line-checks : (above rest : DrawingLines) (k : DrawingKey) (x : List ℕ) → file_lines s d ≡ above ++ (record { key = k; numbers = x } ∷ rest)
      → x ∈ rows_of s d k → drawing_checks above k x ≡ checks true true true true
  unfolding drawing_checks
  line-checks above rest class= x e i = refl
  line-checks above rest name= x e i = refl
  line-checks above rest may= x e i =
      let r = may-row x i in
      may-checks above x s (classes-above above rest may= x e (omega arith)) (names-above above rest may= x e (omega arith))
      ∙ ap₂ (λ a b. checks true a b true) r.0 r.1
  line-checks above rest node= x e i =
      let r = node_row_lem x i in
      node-checks above x s (classes-above above rest node= x e (omega arith)) (names-above above rest node= x e (omega arith))
      ∙ ap₂ (λ a b. checks true a b true) r.0
      ((both (not (is_object s (x ! 1)) || eqb (x ! 2) 0) (conforms_with above node= x)).1 (r.1, node-conforms above rest x e))
  line-checks above rest edge= x e i =
      edge-checks above x s (classes-above above rest edge= x e (omega arith)) (names-above above rest edge= x e (omega arith)) d
      (rows-give node_of node_row d.nodes (λ n. refl) (rows_above above rest edge= x e node= (omega arith)))
      ∙ ap₂ (λ a b. checks true a b true) (edge_row x i) (edge-conforms above rest x e)

-- the file of a sound drawing opens to it
pub read-write : (s : Scheme) (d : Instance) → Sound s d → read_drawing (file_text s d) ≡ accepted (record { scheme = s; instance = d })
unfolding read_drawing drawing_format
read-write s d h =
    let pass = lines-pass drawing_format (rows_of s d) drawing-regular (rows_fit s d h) (λ above rest l. line-checks s d h above rest l.key l.numbers) in
    ap (λ t. read_drawing t) (file-text s d)
    ∙ ap (λ o. o >>= λ ls. accepted (contents_in ls)) ((read-iff drawing_format drawing-regular (text_of drawing_format (file_lines s d)) (file_lines s d)).1 (record {
      written = record { text = refl; in-form = pass.in-form };
      pass = pass.pass;
      complete = refl;
    }))
    ∙ ap accepted (file-contents s d h)
