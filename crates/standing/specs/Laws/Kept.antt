-- What stands with one line more: a key at the end of those that stand, or a declared number above all others.
use Rattle.std.specs.Prelude.{ℕ, ◌+◌, ◌/◌, ◌%◌, ◌<◌, ◌≤◌, ◌≡◌, true, List, [], ◌∷◌, ◌++◌, map, length, take, set, ltb}
use Rattle.std.proofs.Common.{arith, ap, ◌∙◌, length-take}
use Rattle.std.proofs.Math.Path.{refl}
use Rattle.std.proofs.lemmas.Bool.{false≢true}
use Rattle.std.proofs.lemmas.List.{map-append, length-map}
use Rattle.std.proofs.Math.ListN.{length-set}
use Rattle.lists.specs.Lists.{all}
use Rattle.lists.proofs.Laws.OneMore.{stored_last}
use Rattle.model.specs.Limits
use Rattle.text.specs.declared.lines.Line.{Line}
use Rattle.forms.specs.Forms.{of_drawing}
use Rattle.forms.specs.declared.LineKind.{LineKind}
use Rattle.forms.specs.declared.LineKind.TheVariants.{Class, Name, May, Node, Edge}
use Rattle.graph.specs.Packed.{unpack_triple, unpack_node, unpack_declared, unpack_scheme, unpack_instance, Snug, DeclaredWith, FreshScheme, FreshInstance}
use Rattle.graph.specs.declared.scheme.PackedScheme.{PackedScheme}
use Rattle.graph.specs.declared.instance.PackedInstance.{PackedInstance}
use Rattle.graph.specs.declared.declarations.Declarations.{Declarations}
use Rattle.standing.specs.Held.{scheme_with, instance_with, FreshDrawing, Fits, Room, KeptLine}
use Rattle.standing.specs.declared.Drawing.{Drawing}

-- # The start
-- of no keys nothing is unpacked
none_stand : {A : Type 0} (f : ℕ → A) (n most : ℕ) (ks : List ℕ) → map f (take n ks) ≡ [] → length ks ≡ most → 0 < most → n ≤ most
none_stand f n most ks none room some = omega (arith, ap length none, length-map (take n ks) f, length-take n ks)

pub fresh : {s : PackedScheme} {i : PackedInstance} → FreshScheme s → FreshInstance i → FreshDrawing record { scheme = s; instance = i }
unfolding unpack_instance
fresh {s} {i} a b =
    let none = a.none in
    record {
      scheme = a.empty;
      instance = b.empty;
      fits =
          record {
            permitted_room = a.room;
            nodes_room = b.nodes_room;
            edges_room = b.edges_room;
            permissions = omega arith;
            order = none_stand unpack_node i.order Limits.nodes i.nodes (ap (λ g. g.nodes) b.empty) b.nodes_room (omega arith);
            size = none_stand unpack_triple i.size Limits.edges i.edges (ap (λ g. g.edges) b.empty) b.edges_room (omega arith);
            classes = a.snug.0;
            names = a.snug.1;
          };
    }

-- # A line more
only_edge : (kind : LineKind) → of_drawing kind ≡ true → (kind ≡ Class → ⊥) → (kind ≡ Name → ⊥) → (kind ≡ May → ⊥) → (kind ≡ Node → ⊥) → kind ≡ Edge
only_edge Class h class name may node = absurd (class refl)
only_edge Name h class name may node = absurd (name refl)
only_edge May h class name may node = absurd (may refl)
only_edge Node h class name may node = absurd (node refl)
only_edge Edge h class name may node = refl
only_edge _ h class name may node = absurd (false≢true h)

one_more : {A : Type 0} (f : ℕ → A) (ks : List ℕ) (n x : ℕ) → n < length ks → map f (take (n + 1) (set ks n x)) ≡ map f (take n ks) ++ (f x ∷ [])
one_more f ks n x h = rw (stored_last ks n x h) (map-append f (take n ks) (x ∷ []))

module _ (d : Drawing) (l : Line) (fits : Fits d) (room : Room d l) where
  -- # There is room
  -- of the numbers that a class or name line declares
  abbrev Declarable : Declarations → Type 0
  Declarable ds = ((l.row / 2 < Limits.classes) × (l.row % 2 < Limits.kinds)) × (Snug ds × (all (λ c. ltb c.number (l.row / 2)) (unpack_declared ds) ≡ true))

  pub class-room : l.kind ≡ Class → Declarable d.scheme.classes
  class-room e = let r = rw e at room.room in ((r.0, omega arith), (fits.classes, r.1))

  pub name-room : l.kind ≡ Name → Declarable d.scheme.names
  name-room e = let r = rw e at room.room in ((r.0, omega arith), (fits.names, r.1))

  pub may-room : l.kind ≡ May → d.scheme.permissions < length d.scheme.permitted
  may-room e = let r : d.scheme.permissions < Limits.permitted = rw e at room.room in omega (arith, fits.permitted_room)

  pub node-room : l.kind ≡ Node → d.instance.order < length d.instance.nodes
  node-room e = let r : d.instance.order < Limits.nodes = rw e at room.room in omega (arith, fits.nodes_room)

  pub edge-room : l.kind ≡ Edge → d.instance.size < length d.instance.edges
  edge-room e = let r : d.instance.size < Limits.edges = rw e at room.room in omega (arith, fits.edges_room)

  -- a line of a drawing file that is no class, name, may or node line
  pub is-edge : (l.kind ≡ Class → ⊥) → (l.kind ≡ Name → ⊥) → (l.kind ≡ May → ⊥) → (l.kind ≡ Node → ⊥) → l.kind ≡ Edge
  is-edge class name may node = only_edge l.kind room.kind class name may node

  -- # What stands then
  -- arrays of the same lengths, with no more in them than may be
  fits-then : {classes names : Declarations} {n o e : ℕ} {ps ns es : List ℕ} → Snug classes → Snug names
      → length ps ≡ length d.scheme.permitted → length ns ≡ length d.instance.nodes → length es ≡ length d.instance.edges
      → n ≤ Limits.permitted → o ≤ Limits.nodes → e ≤ Limits.edges
      → Fits
      record {
        scheme = record { classes = classes; names = names; permitted = ps; permissions = n };
        instance = record { nodes = ns; order = o; edges = es; size = e };
      }
  fits-then c m p q r i j k =
      record {
        permitted_room = p ∙ fits.permitted_room;
        nodes_room = q ∙ fits.nodes_room;
        edges_room = r ∙ fits.edges_room;
        permissions = i;
        order = j;
        size = k;
        classes = c;
        names = m;
      }

  pub kept-class : l.kind ≡ Class → {kind : ℕ} → kind ≡ l.row % 2 → {classes : Declarations} → DeclaredWith d.scheme.classes (l.row / 2) kind classes
      → KeptLine d l
      record {
        scheme = record { classes = classes; names = d.scheme.names; permitted = d.scheme.permitted; permissions = d.scheme.permissions };
        instance = d.instance;
      }
  unfolding unpack_scheme unpack_instance scheme_with instance_with
  kept-class e is made =
      record {
        fits = fits-then made.snug fits.names refl refl refl fits.permissions fits.order fits.size;
        scheme = rw (e, made.with, is);
        instance = rw e;
      }

  pub kept-name : l.kind ≡ Name → {kind : ℕ} → kind ≡ l.row % 2 → {names : Declarations} → DeclaredWith d.scheme.names (l.row / 2) kind names
      → KeptLine d l
      record {
        scheme = record { classes = d.scheme.classes; names = names; permitted = d.scheme.permitted; permissions = d.scheme.permissions };
        instance = d.instance;
      }
  unfolding unpack_scheme unpack_instance scheme_with instance_with
  kept-name e is made =
      record {
        fits = fits-then fits.classes made.snug refl refl refl fits.permissions fits.order fits.size;
        scheme = rw (e, made.with, is);
        instance = rw e;
      }

  pub kept-may : l.kind ≡ May
      → KeptLine d l
      record {
        scheme =
            record {
              classes = d.scheme.classes;
              names = d.scheme.names;
              permitted = set d.scheme.permitted d.scheme.permissions l.row;
              permissions = d.scheme.permissions + 1;
            };
        instance = d.instance;
      }
  unfolding unpack_scheme unpack_instance scheme_with instance_with
  kept-may e =
      let inside = may-room e in
      let stored = length-set d.scheme.permitted d.scheme.permissions l.row in
      record {
        fits = fits-then fits.classes fits.names stored refl refl (omega (arith, fits.permitted_room)) fits.order fits.size;
        scheme = rw (e, one_more unpack_triple d.scheme.permitted d.scheme.permissions l.row inside);
        instance = rw e;
      }

  pub kept-node : l.kind ≡ Node
      → KeptLine d l
      record {
        scheme = d.scheme;
        instance =
            record {
              nodes = set d.instance.nodes d.instance.order l.row;
              order = d.instance.order + 1;
              edges = d.instance.edges;
              size = d.instance.size;
            };
      }
  unfolding unpack_scheme unpack_instance scheme_with instance_with
  kept-node e =
      let inside = node-room e in
      let stored = length-set d.instance.nodes d.instance.order l.row in
      record {
        fits = fits-then fits.classes fits.names refl stored refl fits.permissions (omega (arith, fits.nodes_room)) fits.size;
        scheme = rw e;
        instance = rw (e, one_more unpack_node d.instance.nodes d.instance.order l.row inside);
      }

  pub kept-edge : l.kind ≡ Edge
      → KeptLine d l
      record {
        scheme = d.scheme;
        instance =
            record {
              nodes = d.instance.nodes;
              order = d.instance.order;
              edges = set d.instance.edges d.instance.size l.row;
              size = d.instance.size + 1;
            };
      }
  unfolding unpack_scheme unpack_instance scheme_with instance_with
  kept-edge e =
      let inside = edge-room e in
      let stored = length-set d.instance.edges d.instance.size l.row in
      record {
        fits = fits-then fits.classes fits.names refl refl stored fits.permissions fits.order (omega (arith, fits.edges_room));
        scheme = rw e;
        instance = rw (e, one_more unpack_triple d.instance.edges d.instance.size l.row inside);
      }
