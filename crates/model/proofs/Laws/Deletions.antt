-- Node deletion and edge deletion: what is left lies within the old drawing, is sound, and has nothing at a deleted node.
-- Both keep some nodes and some edges, and a kept edge keeps its ends.
use Rattle.std.specs.Prelude.{ℕ, ◌≡◌, ◌↔◌, ◌⊎◌, Bool, not, ◌||◌}
use Rattle.std.proofs.Common.{arith, ◌∙◌, sym, inl, inr}
use Rattle.std.proofs.Math.Path.{refl, ap}
use Rattle.std.proofs.Math.Logic.{⊎_elim}
use Rattle.std.proofs.Math.Bool.{true, false}
use mathlib.Core.List.{List, [], ◌∷◌}
use Rattle.lists.specs.Lists.{◌∈◌, keep, ◌!◌, member}
use Rattle.lists.proofs.Laws.Lists.{neither, not_so, fails, in-keep, keep_all, keep-length}
use Rattle.lists.proofs.Laws.Order.{rising-map-keep}
use Rattle.model.specs.Graph.{Triple, Scheme, Node, Instance, row, has, stands, of_class}
use Rattle.model.specs.Operations.{images, images_of, node_deletion, edge_deletion}
use Rattle.model.proofs.Laws.Graph.{stands-node, of-class}
use Rattle.model.proofs.Laws.Sound.{WellFormed, joins-weaker}
use Rattle.model.specs.Meaning.{Within, NoImage, NoEdgeImage}
use Rattle.model.proofs.Laws.Images.{no-image, no-edge-image}

module _ (p : Node ℕ → Bool) (q : Triple → Bool) (d : Instance) where
  abbrev kept : Instance
  kept = record { nodes = keep p d.nodes; edges = keep q d.edges }

  kept-within : Within kept d
  kept-within = record { nodes = λ n i. ((in-keep p d.nodes).0 i).0; edges = λ t i. ((in-keep q d.edges).0 i).0 }

  -- an end of an edge keeps its class if it is kept
  kept-end : (i : ℕ) → ((n : Node ℕ) → n.number ≡ i → p n ≡ true) → (c : ℕ) → of_class d i c ≡ true → of_class kept i c ≡ true
  kept-end i k c h = let r = (of-class d i c).0 h in (of-class kept i c).1 (r.0, (in-keep p d.nodes).1 (r.1, k r.0 r.2.0), r.2)

  kept-well-formed : (s : Scheme) → ((e : Triple) → q e ≡ true → (n : Node ℕ) → (n.number ≡ e.source) ⊎ (n.number ≡ e.target) → p n ≡ true)
      → WellFormed s d → WellFormed s kept
  kept-well-formed s ends h =
      let w = kept-within in
      record {
        few-nodes = omega (arith, keep-length p d.nodes, h.few-nodes);
        nodes-rise = rising-map-keep (λ n. n.number ∷ []) p d.nodes h.nodes-rise;
        few-edges = omega (arith, keep-length q d.edges, h.few-edges);
        edges-rise = rising-map-keep row q d.edges h.edges-rise;
        within = λ n i. h.within n (w.nodes n i);
        permitted = λ e i.
            let k = (in-keep q d.edges).0 i in
            joins-weaker s (of_class d e.source) (of_class kept e.source) e.name (of_class d e.target) (of_class kept e.target)
            (kept-end e.source (λ n j. ends e k.1 n (inl j)))
            (kept-end e.target (λ n j. ends e k.1 n (inr j)))
            (h.permitted e k.0);
        whole = λ e f i j. h.whole e f (w.edges e i) (w.edges f j);
        apart = λ n m i j. h.apart n m (w.nodes n i) (w.nodes m j);
      }

-- # Node deletion
module _ (p : ℕ) (ms : List (List ℕ)) where
  abbrev gone : ℕ → Bool
  gone = member (images_of p ms)

  abbrev stays : Node ℕ → Bool
  stays n = not (gone n.number)

  abbrev free : Triple → Bool
  free e = not (gone e.source || gone e.target)

  free-ends : (e : Triple) → free e ≡ true → (gone e.source ≡ false) × (gone e.target ≡ false)
  free-ends e h = (neither (gone e.source) (gone e.target)).0 ((not_so (gone e.source || gone e.target)).0 h)

  pub node-deletion-within : (d : Instance) → Within (node_deletion p ms d) d
  unfolding node_deletion
  node-deletion-within = kept-within stays free

  pub node-deletion-well-formed : (s : Scheme) (d : Instance) → WellFormed s d → WellFormed s (node_deletion p ms d)
  unfolding node_deletion
  node-deletion-well-formed s d =
      kept-well-formed stays free d s (λ e k n.
      let r = free-ends e k in
      let stay : (i : ℕ) → gone i ≡ false → n.number ≡ i → stays n ≡ true = λ i f j. (not_so (gone n.number)).1 (ap gone j ∙ f) in
      ⊎_elim (stay e.source r.0) (stay e.target r.1))

  -- "Its images go, with every edge at them": of the nodes exactly those stay that are no image, and of the edges those with no end at one
  pub node-deletion-exactly : (d : Instance)
      → ((n : Node ℕ) → (n ∈ (node_deletion p ms d).nodes) ↔ ((n ∈ d.nodes) × NoImage p ms n.number))
      × ((t : Triple) → (t ∈ (node_deletion p ms d).edges) ↔ ((t ∈ d.edges) × NoImage p ms t.source × NoImage p ms t.target))
  unfolding node_deletion
  node-deletion-exactly d = (
    (λ n. (
      (λ h. let r = (in-keep stays d.nodes).0 h in (r.0, (no-image p ms n.number).0 ((not_so (gone n.number)).0 r.1))),
      λ h. (in-keep stays d.nodes).1 (h.0, (not_so (gone n.number)).1 ((no-image p ms n.number).1 h.1)),
    )),
    λ t. (
      (λ h.
          let r = (in-keep free d.edges).0 h in
          let q = free-ends t r.1 in
          (r.0, (no-image p ms t.source).0 q.0, (no-image p ms t.target).0 q.1)),
      λ h.
          let q = (neither (gone t.source) (gone t.target)).1 ((no-image p ms t.source).1 h.1, (no-image p ms t.target).1 h.2) in
          (in-keep free d.edges).1 (h.0, (not_so (gone t.source || gone t.target)).1 q),
    ),
  )

  -- so no image stands afterwards, and no edge has an end at one
  pub node-deletion-clears : (d : Instance) (m : List ℕ) → m ∈ ms
      → (stands (node_deletion p ms d) (m ! p) ≡ false)
      × ((e : Triple) → e ∈ (node_deletion p ms d).edges → (e.source ≡ m ! p → ⊥) × (e.target ≡ m ! p → ⊥))
  node-deletion-clears d m i =
      let left = node-deletion-exactly d in (
        (fails (stands (node_deletion p ms d) (m ! p))).1 (λ h.
            let r = (stands-node (node_deletion p ms d) (m ! p)).0 h in
            ((left.0 r.0).0 r.1).1 m i r.2),
        λ e j. let r = (left.1 e).0 j in ((λ k. r.1 m i k), λ k. r.2 m i k),
      )

-- # Edge deletion
module _ (ts : List Triple) (ms : List (List ℕ)) (d : Instance) where
  abbrev remains : Triple → Bool
  remains e = not (has (images ts ms) e)

  as-kept : edge_deletion ts ms d ≡ kept (λ n. true) remains d
  unfolding edge_deletion
  as-kept =
      ap (λ (ns : List (Node ℕ)). record { nodes = ns; edges = keep remains d.edges }) (sym (keep_all (λ n. true) d.nodes (λ n i. refl)))

  pub edge-deletion-within : Within (edge_deletion ts ms d) d
  edge-deletion-within = rw as-kept (kept-within (λ n. true) remains d)

  pub edge-deletion-well-formed : (s : Scheme) → WellFormed s d → WellFormed s (edge_deletion ts ms d)
  edge-deletion-well-formed s h = rw as-kept (kept-well-formed (λ n. true) remains d s (λ e k n o. refl) h)

  -- "Their images go": all nodes stay, and of the edges exactly those that are no image
  pub edge-deletion-exactly : ((edge_deletion ts ms d).nodes ≡ d.nodes)
      × ((t : Triple) → (t ∈ (edge_deletion ts ms d).edges) ↔ ((t ∈ d.edges) × NoEdgeImage ts ms t))
  unfolding edge_deletion
  edge-deletion-exactly = (
    refl,
    λ t. (
      (λ h. let r = (in-keep remains d.edges).0 h in (r.0, (no-edge-image ts ms t).0 ((not_so (has (images ts ms) t)).0 r.1))),
      λ h. (in-keep remains d.edges).1 (h.0, (not_so (has (images ts ms) t)).1 ((no-edge-image ts ms t).1 h.1)),
    ),
  )
