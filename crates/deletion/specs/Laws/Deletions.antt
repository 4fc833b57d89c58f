-- What is noted while all matchings are visited goes: that is node deletion and edge deletion as document 01 has them. Every image is noted, and a
-- key tells which edge of a sound instance it is.
use Rattle.std.specs.Prelude.{ℕ, ◌<◌, ◌≤◌, ◌^◌, ◌≡◌, not, ◌||◌, eqb}
use Rattle.std.proofs.Common.{arith, ap, ap₂, ◌∙◌, sym, eqb-true}
use mathlib.Core.List.{List, [], map, foldl}
use Rattle.lists.specs.Lists.{◌∈◌, all, member, Below}
use Rattle.lists.proofs.Laws.Lists.{both, any-member}
use Rattle.lists.proofs.Laws.Maps.{keep_same, map_back}
use Rattle.model.specs.Limits
use Rattle.model.specs.Graph.{Triple, Scheme, Node, Instance, Pattern, has, of_class}
use Rattle.model.specs.Matching.{matchings}
use Rattle.model.specs.Operations.{delete_node, delete_edges, images, images_of, node_deletion, edge_deletion}
use Rattle.model.specs.Sound.{Sound, SoundRule, suits, some_edges}
use Rattle.model.proofs.Laws.Graph.{stands-node, joins-triple, listed-scheme, listed-instance}
use Rattle.model.proofs.Laws.Sound.{well-formed}
use Rattle.graph.specs.Packed.{pack_triple, unpack_triple}
use Rattle.graph.proofs.Laws.Triples.{unpack-packed}
use Rattle.notes.specs.Notes.{sorted}
use Rattle.notes.specs.Visits.{edge_keys, node_keys, visited}
use Rattle.notes.specs.Laws.Images.{image-noted, noted-below, edge-noted}
use Rattle.deletion.specs.Deleted.{without_nodes, without_edges}

-- # Node deletion
pub node-deletion-noted : (s : Scheme) (p : Pattern) (d : Instance) (q : ℕ) → Sound s d → SoundRule s (record { pattern = p; action = delete_node q })
    → without_nodes (sorted (foldl (visited (node_keys q)) [] (matchings p d))) d ≡ node_deletion q (matchings p d) d
unfolding node_deletion suits
node-deletion-noted s p d q h r =
    let noted = sorted (foldl (visited (node_keys q)) [] (matchings p d)) in
    let gone = images_of q (matchings p d) in
    let same : (i : ℕ) → member noted i ≡ member gone i = image-noted s p d q h r.listed r.suited in
    ap₂ (λ (ns : List (Node ℕ)) (es : List Triple). record { nodes = ns; edges = es })
    (keep_same (λ n. not (member noted n.number)) (λ n. not (member gone n.number)) d.nodes (λ n i. ap not (same n.number)))
    (keep_same (λ e. not (member noted e.source || member noted e.target)) (λ e. not (member gone e.source || member gone e.target))
    d.edges
    (λ e i. ap₂ (λ a b. not (a || b)) (same e.source) (same e.target)))

pub node-deletion-below : (s : Scheme) (p : Pattern) (d : Instance) (q : ℕ) → Sound s d → SoundRule s (record { pattern = p; action = delete_node q })
    → Below (2 ^ 16) (sorted (foldl (visited (node_keys q)) [] (matchings p d)))
unfolding suits
node-deletion-below s p d q h r = noted-below s p d q h r.listed r.suited

-- # Edge deletion
-- the edges of a sound instance have keys: a declared name and the number of a node are within their rooms
module _ (s : Scheme) (d : Instance) (h : Sound s d) where
  name-room : (e : Triple) → e ∈ d.edges → e.name < 2 ^ 6
  name-room e i =
      let l = (listed-scheme s).0 h.scheme in
      let r = (joins-triple s (of_class d e.source) e.name (of_class d e.target)).0 ((well-formed s d h).permitted e i) in
      let c = (any-member (λ c. eqb c.number r.0.name) s.names).0 (l.declared r.0 r.1).0.1 in
      let same : c.0.number ≡ e.name = eqb-true c.0.number r.0.name c.2 ∙ r.2.0.1 in
      let limit : c.0.number < Limits.names = (l.names.within c.0 c.1).0 in
      omega arith

  target_room : (e : Triple) → e ∈ d.edges → e.target < 2 ^ 16
  target_room e i =
      let l = (listed-instance s d).0 h.listed in
      let r = (stands-node d e.target).0 (l.graph.ends e i).1 in
      let limit : r.0.number ≤ Limits.last_number = (l.within r.0 r.1).0 in
      let same : r.0.number ≡ e.target = r.2 in
      omega arith

  edges-have-keys : d.edges ≡ map unpack_triple (map pack_triple d.edges)
  edges-have-keys =
      sym (map_back unpack_triple pack_triple d.edges
      (λ e i. unpack-packed e.source e.name e.target (name-room e i) (target_room e i)))

pub edge-deletion-noted : (s : Scheme) (p : Pattern) (d : Instance) (parts : List ℕ) → Sound s d
    → SoundRule s (record { pattern = p; action = delete_edges (map unpack_triple parts) })
    → without_edges (sorted (foldl (visited (edge_keys parts)) [] (matchings p d))) d ≡ edge_deletion (map unpack_triple parts) (matchings p d) d
unfolding edge_deletion suits
edge-deletion-noted s p d parts h r =
    let ts = map unpack_triple parts in
    let noted = sorted (foldl (visited (edge_keys parts)) [] (matchings p d)) in
    let own = ((both (some_edges Limits.cuts ts) (all (has p.edges) ts)).0 r.suited).1 in
    ap (λ (es : List Triple). record { nodes = d.nodes; edges = es })
    (keep_same (λ e. not (member noted (pack_triple e))) (λ e. not (has (images ts (matchings p d)) e)) d.edges
    (λ e i. ap not (edge-noted s p d parts h own (map pack_triple d.edges) (edges-have-keys s d h) e i)))
