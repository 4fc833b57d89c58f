-- What an accepted drawing file holds is sound: sorted, within all limits, conforming.
-- Under a line of a key stand all lines of earlier keys and no line of later ones, so that the line's checks are read on the whole scheme.
use Prim.Native.Nat.{ℕ, suc, ◌<◌, ◌≤◌}
use native.Mathlib.Omega.{arith}
use Rattle.std.specs.Prelude.{◌≡◌, refl, ◌↔◌, not, ◌&&◌, ◌||◌, length, take, leb}
use Rattle.std.proofs.Math.Path.{ap, ap₂, sym, subst, fun_ext}
use Rattle.std.proofs.Common.{◌∙◌, inl, inr, ⊎_elim}
use Rattle.std.proofs.Math.Bool.{Bool, true}
use mathlib.Core.List.{List, [], ◌∷◌, ◌++◌, map, map-map}
use Rattle.std.proofs.Math.ListN.{length-map}
use Rattle.std.proofs.Math.Dec.{eqb}
use Rattle.lists.specs.Lists.{◌∈◌, any, ◌!◌}
use Rattle.lists.specs.Order.{rising}
use Rattle.lists.proofs.Laws.Lists.{both, one_of, not_so, at_most, in_map}
use Rattle.lists.specs.Radix.{within}
use Rattle.lists.proofs.Laws.Count.{within-cons}
use Rattle.model.specs.Limits
use Rattle.model.specs.Graph.{Declared, Triple, Scheme, Node, Instance, row, declares, of_kind, stands, is_object, is_value, conforms, conforms_by, nodes_rise}
use Rattle.model.specs.Graph.{in_values}
use Rattle.model.specs.Operations.{node_row}
use Rattle.model.specs.Sound.{Sound}
use Rattle.model.specs.Refusals.{accepted}
use Rattle.model.specs.Files.{Line, checks, triple_of}
use Rattle.model.specs.Files.DrawingFile.{DrawingKey, class=, name=, may=, node=, edge=, drawing_form, DrawingLines, drawing_checks}
use Rattle.model.specs.Files.DrawingFile.{drawing_format, Contents}
use Rattle.model.specs.Files.DrawingFile.{declared_of, node_of, scheme_in, instance_in, conforms_with, read_drawing, declared_row}
use Rattle.model.proofs.Laws.Graph.{ListedDeclarations, listed-scheme, conforming}
use Rattle.model.proofs.Laws.Kinds.{some-kind, object-class}
use Rattle.model.proofs.Laws.Sound.{sound, no-clash, permits-stand}
use Rattle.model.proofs.Laws.Passing.{Passing, passing-none, readable-passing, Meets, meets-iff, in_order, passing-snoc, passing-keeps}
use Rattle.model.proofs.Laws.Passing.{passing-in-order}
use Rattle.model.proofs.Laws.Keys.{RowsFit, passing-fits, earlier-above, later-not-yet}
use Rattle.model.proofs.Laws.Places.{Place, place-of-key}
use Rattle.model.proofs.Laws.DrawingFiles.{drawing-regular, drawing-key, rows_of, rows_in_lem, drawing-opened}

-- # Listed rows
pub within-declared : (below : ℕ) (d : Declared)
    → (within (below ∷ Limits.kinds ∷ []) (declared_row d) ≡ true) ↔ ((d.number < below) × (d.kind < Limits.kinds))
within-declared below d = (
  (λ h.
      let w = (within-cons below d.number (Limits.kinds ∷ []) (d.kind ∷ [])).0 h in
      (w.0, ((within-cons Limits.kinds d.kind [] []).0 w.1).0)),
  λ h. (within-cons below d.number (Limits.kinds ∷ []) (d.kind ∷ [])).1 (h.0, (within-cons Limits.kinds d.kind [] []).1 (h.1, refl)),
)

declarations-listed : (below : ℕ) (ds : List Declared) → rising (map (take 1) (map declared_row ds)) ≡ true
    → ((x : List ℕ) → x ∈ map declared_row ds → within (below ∷ Limits.kinds ∷ []) x ≡ true) → ListedDeclarations below ds
declarations-listed below ds h g =
    record { rise = rw map-map at h; within = λ d i. (within-declared below d).0 (g (declared_row d) ((in_map declared_row ds).1 (d, i, refl))) }

module _ (s : Scheme) (d : Instance) (h : RowsFit drawing_format (rows_of s d)) where
  classes-listed : ListedDeclarations Limits.classes s.classes
  unfolding drawing_format
  classes-listed = declarations-listed Limits.classes s.classes (h.rise class= (drawing-key class=)) (h.limited class= (drawing-key class=))

  names-listed : ListedDeclarations Limits.names s.names
  unfolding drawing_format
  names-listed = declarations-listed Limits.names s.names (h.rise name= (drawing-key name=)) (h.limited name= (drawing-key name=))

  few-rows : ((length s.permitted ≤ Limits.permitted) × (length d.nodes ≤ Limits.nodes)) × (length d.edges ≤ Limits.edges)
  unfolding drawing_format
  few-rows = (
    (rw length-map at (h.few may= (drawing-key may=)), rw length-map at (h.few node= (drawing-key node=))),
    rw length-map at (h.few edge= (drawing-key edge=)),
  )

  rows-rise : ((rising (map row s.permitted) ≡ true) × (nodes_rise d ≡ true)) × (rising (map row d.edges) ≡ true)
  unfolding drawing_format
  rows-rise = (
    (rw map-map at (h.rise may= (drawing-key may=)), rw map-map at (h.rise node= (drawing-key node=))),
    rw map-map at (h.rise edge= (drawing-key edge=)),
  )

-- # A line's checks
-- on the scheme and drawing whose parts stand above it
module _ (above : DrawingLines) (x : List ℕ) (s : Scheme) (classes : (scheme_in above).classes ≡ s.classes) (names : (scheme_in above).names ≡ s.names) where
  pub may-checks : drawing_checks above may= x
      ≡ checks true (declares s.classes (x ! 0) && declares s.names (x ! 1) && declares s.classes (x ! 2)) (not (is_value s (x ! 0))) true
  unfolding drawing_checks
  may-checks = rw (classes, names)

  pub node-checks : drawing_checks above node= x
      ≡ checks true (declares s.classes (x ! 1)) ((not (is_object s (x ! 1)) || eqb (x ! 2) 0) && conforms_with above node= x) true
  unfolding drawing_checks
  node-checks = ap (λ cs. checks true (declares cs (x ! 1)) ((not (of_kind 0 cs (x ! 1)) || eqb (x ! 2) 0) && conforms_with above node= x) true) classes

  pub edge-checks : (d : Instance) → (instance_in above).nodes ≡ d.nodes
      → drawing_checks above edge= x ≡ checks true (stands d (x ! 0) && declares s.names (x ! 1) && stands d (x ! 2)) (conforms_with above edge= x) true
  unfolding drawing_checks
  edge-checks d nodes =
      let at : ℕ → List (Node ℕ) → Bool = λ i is. any (λ n. eqb n.number i) is in
      ap₂ (λ ns is. checks true (at (x ! 0) is && declares ns (x ! 1) && at (x ! 2) is) (conforms_with above edge= x) true)
      names nodes

-- # What an accepted file holds is sound
empty-conforms : (s : Scheme) (d : Instance) → d.nodes ≡ [] → d.edges ≡ [] → conforms s d ≡ true
unfolding conforms_by
empty-conforms s d n e = rw (n, e)

abbrev Conforms : DrawingLines → Type 0
Conforms ls = conforms (scheme_in ls) (instance_in ls) ≡ true

-- before the first node nothing is drawn
nothing-drawn : (above : DrawingLines) (l : Line DrawingKey) → Passing drawing_format (above ++ (l ∷ [])) → (drawing_form l.key).turn < (drawing_form node=).turn
    → Conforms (above ++ (l ∷ []))
unfolding drawing_format
nothing-drawn above l p t =
    let now = above ++ (l ∷ []) in
    let o = passing-in-order drawing_format drawing-regular now p in
    empty-conforms (scheme_in now) (instance_in now)
    (ap (map node_of) (later-not-yet drawing_format now above [] l o refl node= t))
    (ap (map triple_of) (later-not-yet drawing_format now above [] l o refl edge= (omega arith)))

conforms-line : (above : DrawingLines) (k : DrawingKey) (x : List ℕ) → Passing drawing_format (above ++ (record { key = k; numbers = x } ∷ []))
    → Meets drawing_format above record { key = k; numbers = x } → Conforms (above ++ (record { key = k; numbers = x } ∷ []))
unfolding drawing_format drawing_checks
conforms-line above class= x p m = nothing-drawn above record { key = class=; numbers = x } p (omega arith)
conforms-line above name= x p m = nothing-drawn above record { key = name=; numbers = x } p (omega arith)
conforms-line above may= x p m = nothing-drawn above record { key = may=; numbers = x } p (omega arith)
conforms-line above node= x p m =
    ((both (not (is_object (scheme_in above) (x ! 1)) || eqb (x ! 2) 0) (conforms_with above node= x)).0 m.conforming).1
conforms-line above edge= x p m = m.conforming

module _ (ls : DrawingLines) (h : Passing drawing_format ls) where
  fits_in : RowsFit drawing_format (rows_of (scheme_in ls) (instance_in ls))
  unfolding drawing_format
  fits_in = subst (RowsFit drawing_format) (fun_ext (λ k. sym (rows_in_lem ls h k))) (passing-fits drawing_format drawing-regular ls h)

  classes-in : ListedDeclarations Limits.classes (scheme_in ls).classes
  classes-in = classes-listed (scheme_in ls) (instance_in ls) fits_in

  in_order_lem : in_order drawing_format ls ≡ true
  in_order_lem = passing-in-order drawing_format drawing-regular ls h

  conforms-in : Conforms ls
  conforms-in =
      (passing-keeps drawing_format (λ a. Passing drawing_format a × Conforms a)
      (λ above l p f e.
      let now = passing-snoc drawing_format above l p.0 f e in
      (now, conforms-line above l.key l.numbers now ((meets-iff drawing_format above l).0 e)))
      (passing-none drawing_format, empty-conforms (scheme_in []) (instance_in []) refl refl) ls h).1

  -- where a row's line stands, with all classes and names above it
  module _ (k : DrawingKey) (t : (drawing_form name=).turn < (drawing_form k).turn) (x : List ℕ)
      (p : Place drawing_format ls (record { key = k; numbers = x })) where
    classes-there : (scheme_in p.above).classes ≡ (scheme_in ls).classes
    unfolding drawing_format
    classes-there =
        ap (map declared_of) (earlier-above drawing_format ls p.above p.below record { key = k; numbers = x } in_order_lem p.split class= (omega arith))

    names-there : (scheme_in p.above).names ≡ (scheme_in ls).names
    unfolding drawing_format
    names-there = ap (map declared_of) (earlier-above drawing_format ls p.above p.below record { key = k; numbers = x } in_order_lem p.split name= t)

  placed : (k : DrawingKey) (x : List ℕ) → x ∈ rows_of (scheme_in ls) (instance_in ls) k → Place drawing_format ls (record { key = k; numbers = x })
  unfolding drawing_format
  placed k x i = place-of-key drawing_format drawing-regular ls h k (drawing-key k) x (subst (λ xs. x ∈ xs) (rows_in_lem ls h k) i)

  triple-declared : (t : Triple) → t ∈ (scheme_in ls).permitted
      → ((is_object (scheme_in ls) t.source ≡ true) × (declares (scheme_in ls).names t.name ≡ true)) × (declares (scheme_in ls).classes t.target ≡ true)
  unfolding drawing_format
  triple-declared t i =
      let p = placed may= (row t) ((in_map row (scheme_in ls).permitted).1 (t, i, refl)) in
      let c = may-checks p.above (row t) (scheme_in ls) (classes-there may= (omega arith) (row t) p) (names-there may= (omega arith) (row t) p) in
      let known = simp both at (sym (ap (λ d. d.declared) c) ∙ p.meets.declared) in
      let plain = (not_so (is_value (scheme_in ls) t.source)).0 (sym (ap (λ d. d.conforming) c) ∙ p.meets.conforming) in
      ((object-class (scheme_in ls) classes-in t.source known.0.0 plain, known.0.1), known.1)

  -- a node's number and value are within their limits, and its value suits its class
  in-values : (c v : ℕ) → declares (scheme_in ls).classes c ≡ true → (not (is_object (scheme_in ls) c) || eqb v 0) ≡ true → v < suc Limits.last_value
      → in_values (scheme_in ls) c v ≡ true
  in-values c v d g l =
      (one_of (is_value (scheme_in ls) c && leb v Limits.last_value) (is_object (scheme_in ls) c && eqb v 0)).1
      (⊎_elim
      (λ o. inr ((both (is_object (scheme_in ls) c) (eqb v 0)).1 (o, rw o at g)))
      (λ e. inl ((both (is_value (scheme_in ls) c) (leb v Limits.last_value)).1 (e, (at_most v Limits.last_value).1 (omega arith))))
      (some-kind (scheme_in ls).classes c classes-in d))

  node-within : (n : Node ℕ) → n ∈ (instance_in ls).nodes → (n.number ≤ Limits.last_number) × (in_values (scheme_in ls) n.class n.value ≡ true)
  unfolding drawing_format
  node-within n i =
      let x = node_row n in
      let j = (in_map node_row (instance_in ls).nodes).1 (n, i, refl) in
      let p = placed node= x j in
      let c = node-checks p.above x (scheme_in ls) (classes-there node= (omega arith) x p) (names-there node= (omega arith) x p) in
      let w = simp within-cons at (fits_in.limited node= (drawing-key node=) x j) in
      let valued = ((both (not (is_object (scheme_in ls) n.class) || eqb n.value 0) (conforms_with p.above node= x)).0
      (sym (ap (λ d. d.conforming) c) ∙ p.meets.conforming)).0 in
      let number = w.0 in
      (omega arith, in-values n.class n.value (sym (ap (λ d. d.declared) c) ∙ p.meets.declared) valued w.1.1.0)

  sound-in : Sound (scheme_in ls) (instance_in ls)
  sound-in =
      let s = scheme_in ls in
      let d = instance_in ls in
      let few = few-rows s d fits_in in
      let rise = rows-rise s d fits_in in
      let c = (conforming eqb s d).0 conforms-in in
      sound s d
      ((listed-scheme s).1 (record { classes = classes-in; names = names-listed s d fits_in; few = few.0.0; rise = rise.0.0; declared = triple-declared }))
      (record {
        few-nodes = few.0.1;
        nodes-rise = rise.0.1;
        few-edges = few.1;
        edges-rise = rise.1;
        within = node-within;
        permitted = c.permitted;
        whole = λ e f i. no-clash s d.edges d c.whole e f (permits-stand d s e (c.permitted e i)).0 i;
        apart = λ n m i. c.apart n i m;
      })

-- an accepted file holds a scheme and a drawing that are sorted, within all limits, and conform
pub accepted-is-sound : (t : List ℕ) (c : Contents) → read_drawing t ≡ accepted c → Sound c.scheme c.instance
accepted-is-sound t c h =
    let o = drawing-opened t c h in
    subst (λ (d : Contents). Sound d.scheme d.instance) o.holds (sound-in o.lines (readable-passing drawing_format o.readable))
