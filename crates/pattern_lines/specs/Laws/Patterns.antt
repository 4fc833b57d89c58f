-- Pattern nodes are numbered by their places: which numbers stand, of which classes, and what a pattern is with one node or one edge more.
-- By induction on the nodes, which are numbered from any number on.
use Rattle.std.specs.Prelude.{ℕ, zero, suc, ◌+◌, ◌/◌, ◌%◌, ◌^◌, ◌<◌, ◌≡◌, refl, true, List, [], ◌∷◌, ◌++◌, map, length, get_or, eqb, ltb, Option}
use Rattle.std.proofs.Common.{arith, zero-add, ap, ◌∙◌, sym, ⊎_elim, lt-ltb, ltb-true}
use mathlib.Core.List.Memᴰ
use Rattle.std.proofs.lemmas.List.{map-append}
use Rattle.std.proofs.lemmas.Simd.{map-map}
use Rattle.lists.specs.Lists.{◌∈◌, count_from}
use Rattle.lists.specs.Order.{rising}
use Rattle.lists.proofs.Laws.Order.{rising-count-from}
use Rattle.lists.proofs.Laws.Lists.{equals, same_truth, eqb-symmetric, in-cons}
use Rattle.model.specs.Graph.{Triple, Scheme, Node, Pattern, has, joins, stands, of_class, permits}
use Rattle.model.proofs.Laws.Graph.{stands-node, of-class}
use Rattle.graph.specs.Packed.{unpack_triple, unpack_pattern_node, unpack_pattern_nodes, pattern_of, triple}
use Rattle.verdicts.proofs.Laws.Edges.{joins-classes}

-- # Nodes by their places
node_at : (i : ℕ) (ks : List ℕ) (d : ℕ) → d < length ks → unpack_pattern_node (i + d) (get_or ks d 0) ∈ unpack_pattern_nodes i ks
node_at i [] d h = absurd (omega arith)
node_at i (k ∷ ks) zero h = let e : i + 0 ≡ i = omega arith in Memᴰ.head (ap (λ j. unpack_pattern_node j k) e)
node_at i (k ∷ ks) (suc d) h =
    let e : i + suc d ≡ suc i + d = omega arith in
    Memᴰ.tail (Memᴰ.cast (ap (λ j. unpack_pattern_node j (get_or ks d 0)) e) (node_at (suc i) ks d (omega arith)))

place_of_lem : (i : ℕ) (ks : List ℕ) (n : Node (Option ℕ)) → n ∈ unpack_pattern_nodes i ks
    → (d : ℕ) × (d < length ks) × (n ≡ unpack_pattern_node (i + d) (get_or ks d 0))
place_of_lem i [] n h = absurd (Memᴰ.not-nil h)
place_of_lem i (k ∷ ks) n h =
    ⊎_elim
    (λ e. let z : i ≡ i + 0 = omega arith in (0, omega arith, e ∙ ap (λ j. unpack_pattern_node j k) z))
    (λ j.
    let r = place_of_lem (suc i) ks n j in
    let z : suc i + r.0 ≡ i + suc r.0 = omega arith in
    (suc r.0, omega (arith, r.1), r.2 ∙ ap (λ m. unpack_pattern_node m (get_or ks r.0 0)) z))
    (in-cons.0 h)

pub nodes-length : (i : ℕ) (ks : List ℕ) → length (unpack_pattern_nodes i ks) ≡ length ks
nodes-length i [] = refl
nodes-length i (k ∷ ks) = ap suc (nodes-length (suc i) ks)

nodes-numbered : (i : ℕ) (ks : List ℕ) → map (λ n. n.number) (unpack_pattern_nodes i ks) ≡ count_from i (length ks)
nodes-numbered i [] = refl
nodes-numbered i (k ∷ ks) = ap (λ (l : List ℕ). i ∷ l) (nodes-numbered (suc i) ks)

pub nodes-rise : (i : ℕ) (ks : List ℕ) → rising (map (λ n. n.number ∷ []) (unpack_pattern_nodes i ks)) ≡ true
nodes-rise i ks =
    ap rising (sym (map-map (λ k. k ∷ []) (λ n. n.number) (unpack_pattern_nodes i ks)) ∙ ap (map (λ k. k ∷ [])) (nodes-numbered i ks))
    ∙ rising-count-from i (length ks)

nodes-snoc : (i : ℕ) (ks : List ℕ) (k : ℕ)
    → unpack_pattern_nodes i (ks ++ (k ∷ [])) ≡ unpack_pattern_nodes i ks ++ (unpack_pattern_node (i + length ks) k ∷ [])
nodes-snoc i [] k = let e : i ≡ i + 0 = omega arith in ap (λ j. unpack_pattern_node j k ∷ []) e
nodes-snoc i (h ∷ ks) k =
    let e : suc i + length ks ≡ i + suc (length ks) = omega arith in
    ap (λ (ns : List (Node (Option ℕ))). unpack_pattern_node i h ∷ ns)
    (nodes-snoc (suc i) ks k ∙ ap (λ j. unpack_pattern_nodes (suc i) ks ++ (unpack_pattern_node j k ∷ [])) e)

-- # A pattern
-- the class of the node at a place
abbrev pub class_at : List ℕ → ℕ → ℕ
class_at nodes i = get_or nodes i 0 / 2 ^ 33 % 2 ^ 6

module _ (nodes edges : List ℕ) where
  abbrev p : Pattern
  p = pattern_of nodes edges

  pub stands-place : (i : ℕ) → stands (pattern_of nodes edges) i ≡ ltb i (length nodes)
  stands-place i =
      same_truth (stands p i) (ltb i (length nodes)) (
        (λ h.
            let r = (stands-node p i).0 h in
            let q = place_of_lem 0 nodes r.0 r.1 in
            let e : r.0.number ≡ 0 + q.0 = ap (λ n. n.number) q.2 in
            lt-ltb i (length nodes) (omega (arith, r.2, q.1))),
        λ h.
            (stands-node p i).1 (unpack_pattern_node (0 + i) (get_or nodes i 0), node_at 0 nodes i (ltb-true i (length nodes) h), zero-add i),
      )

  class-place : (i : ℕ) → i < length nodes → (k : ℕ) → of_class (pattern_of nodes edges) i k ≡ eqb k (class_at nodes i)
  class-place i h k =
      same_truth (of_class p i k) (eqb k (class_at nodes i)) (
        (λ o.
            let r = (of-class p i k).0 o in
            let q = place_of_lem 0 nodes r.0 r.1 in
            let e : r.0.number ≡ 0 + q.0 = ap (λ n. n.number) q.2 in
            let d : q.0 ≡ i = omega (arith, r.2.0) in
            (equals k (class_at nodes i)).1 (sym r.2.1 ∙ ap (λ n. n.class) q.2 ∙ ap (class_at nodes) d)),
        λ o.
            (of-class p i k).1 (
              unpack_pattern_node (0 + i) (get_or nodes i 0),
              node_at 0 nodes i h,
              (zero-add i, sym ((equals k (class_at nodes i)).0 o)),
            ),
      )

  -- the triple of classes that an edge needs, and one whose source is of a given class
  pub permits-places : (s : Scheme) (e : Triple) → e.source < length nodes → e.target < length nodes
      → permits s (pattern_of nodes edges) e ≡ has s.permitted (triple (class_at nodes e.source) e.name (class_at nodes e.target))
  permits-places s e h k =
      joins-classes s (of_class p e.source) (of_class p e.target) (class_at nodes e.source) e.name (class_at nodes e.target)
      (class-place e.source h) (class-place e.target k)

  pub joins-place : (s : Scheme) (K name q : ℕ) → q < length nodes
      → joins s (eqb K) name (of_class (pattern_of nodes edges) q) ≡ has s.permitted (triple K name (class_at nodes q))
  joins-place s K name q h =
      joins-classes s (eqb K) (of_class p q) K name (class_at nodes q)
      (eqb-symmetric K) (class-place q h)

  -- with one node more, numbered next, and with one edge more
  pub node-more : (k : ℕ)
      → pattern_of (nodes ++ (k ∷ [])) edges
      ≡ record { nodes = unpack_pattern_nodes 0 nodes ++ (unpack_pattern_node (length nodes) k ∷ []); edges = map unpack_triple edges }
  node-more k =
      ap (λ (ns : List (Node (Option ℕ))). record { nodes = ns; edges = map unpack_triple edges })
      (nodes-snoc 0 nodes k ∙ ap (λ j. unpack_pattern_nodes 0 nodes ++ (unpack_pattern_node j k ∷ [])) (zero-add (length nodes)))

  pub edge_more : (k : ℕ)
      → pattern_of nodes (edges ++ (k ∷ [])) ≡ record { nodes = unpack_pattern_nodes 0 nodes; edges = map unpack_triple edges ++ (unpack_triple k ∷ []) }
  edge_more k = ap (λ (es : List Triple). record { nodes = unpack_pattern_nodes 0 nodes; edges = es }) (map-append unpack_triple edges (k ∷ []))
