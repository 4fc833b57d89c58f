-- The operations together: an accepted one keeps a sound drawing sound; additions remove nothing, and deletions add nothing.
-- Action by action, from the laws of each; an image of a pattern node has that node's class.
use Rattle.std.specs.Prelude.{ℕ, ◌≡◌, true, List}
use Rattle.std.proofs.Common.{ap, ◌∙◌, sym}
use Rattle.std.proofs.Math.Path.{subst}
use Rattle.lists.specs.Lists.{◌∈◌, ◌!◌}
use Rattle.lists.proofs.Laws.Lists.{both, all-members}
use Rattle.model.specs.Graph.{Triple, Scheme, Instance, Pattern, of_class, permits}
use Rattle.model.specs.Matching.{image, matchings}
use Rattle.model.specs.Refusals.{accepted}
use Rattle.model.specs.Operations.{Action, pattern_only, add_node, add_edges, delete_node, delete_edges, abstract, Rule, perform, applied}
use Rattle.model.specs.Operations.{node_deletion, edge_deletion}
use Rattle.model.specs.Sound.{Sound, suits, SoundRule}
use Rattle.model.specs.Meaning.{Adds, adds-node, adds-edges, abstracts, Deletes, deletes-node, deletes-edges, Within}
use Rattle.model.proofs.Laws.Graph.{of-class, ListedScheme, listed-scheme, ListedPattern, listed-pattern}
use Rattle.model.proofs.Laws.Matchings.{image-node}
use Rattle.model.proofs.Laws.Sound.{WellFormed, well-formed, sound, joins-weaker}
use Rattle.model.proofs.Laws.Deletions.{node-deletion-within, node-deletion-well-formed, edge-deletion-within, edge-deletion-well-formed}
use Rattle.model.proofs.Laws.EdgeAddition.{edge-addition-within, edge-addition-well-formed}
use Rattle.model.proofs.Laws.NodeAddition.{node-addition-within, node-addition-well-formed}
use Rattle.model.proofs.Laws.Abstraction.{abstraction-within, abstraction-well-formed}

-- # What is kept
-- a matching sends a pattern node "to a drawing node of the same class"
image-of-class : {s : Scheme} (p : Pattern) (d : Instance) → ListedPattern s p → (m : List ℕ) → m ∈ matchings p d
    → (i c : ℕ) → of_class p i c ≡ true → of_class d (m ! i) c ≡ true
image-of-class p d l m h i c k =
    let r = (of-class p i c).0 k in
    let q = r.0 in
    let f = image-node p d m l h r.1 in
    let n = f.0 in
    let class = f.2.1.0 in
    (of-class d (m ! i) c).1 (n, f.1, (f.2.0 ∙ ap (λ j. m ! j) r.2.0, sym class ∙ r.2.1))

module _ (s : Scheme) (p : Pattern) (ms : List (List ℕ)) (d : Instance) (l : ListedScheme s) (h : WellFormed s d)
    (lands : (m : List ℕ) → m ∈ ms → (i c : ℕ) → of_class p i c ≡ true → of_class d (m ! i) c ≡ true) where
  image-permitted : (m : List ℕ) → m ∈ ms → (t : Triple) → permits s p t ≡ true → permits s d (image m t) ≡ true
  image-permitted m i t =
      joins-weaker s (of_class p t.source) (of_class d (m ! t.source)) t.name (of_class p t.target) (of_class d (m ! t.target))
      (lands m i t.source) (lands m i t.target)

  perform-well-formed : (a : Action) → suits s p a ≡ true → (e : Instance) → perform s a ms d ≡ accepted e → WellFormed s e
  unfolding perform suits
  perform-well-formed pattern_only k e f = let q : d ≡ e = cc in subst (WellFormed s) q h
  perform-well-formed (add_node K arms) k e f =
      let r = simp (both, all-members) at k in
      node-addition-well-formed K arms ms d s p l r.0.0.0 r.0.1 (λ a i. (r.1 a i).1) lands h e f
  perform-well-formed (add_edges ts) k e f =
      let r = simp (both, all-members) at k in
      edge-addition-well-formed s ts ms d h (λ m i t j. image-permitted m i t (r.1 t j)) e f
  perform-well-formed (delete_node q) k e f = let r : node_deletion q ms d ≡ e = cc in subst (WellFormed s) r (node-deletion-well-formed q ms s d h)
  perform-well-formed (delete_edges ts) k e f = let r : edge_deletion ts ms d ≡ e = cc in subst (WellFormed s) r (edge-deletion-well-formed ts ms d s h)
  perform-well-formed (abstract q K a b) k e f =
      let r = simp both at k in
      abstraction-well-formed q K a b ms d s p l r.0.0.0 r.0.1 r.1 h lands e f

-- from a conforming, sorted, limited drawing and a sound rule, as every accepted one is, each operation that is accepted leaves a conforming,
-- sorted, limited drawing
pub applied-is-sound : (s : Scheme) (r : Rule) (d e : Instance) → Sound s d → SoundRule s r → applied s r d ≡ accepted e → Sound s e
unfolding applied
applied-is-sound s r d e h k a =
    let p = r.pattern in
    let l = (listed-scheme s).0 h.scheme in
    let lands = image-of-class p d ((listed-pattern s p).0 k.listed) in
    sound s e h.scheme (perform-well-formed s p (matchings p d) d l (well-formed s d h) lands r.action k.suited e a)

-- # What is added and what is removed
module _ (s : Scheme) (ms : List (List ℕ)) (d e : Instance) where
  -- node addition, edge addition and abstraction leave every node and every edge of the old drawing
  pub additions-remove-nothing : {a : Action} → Adds a → perform s a ms d ≡ accepted e → Within d e
  unfolding perform
  additions-remove-nothing (adds-node {K = K} {arms = arms}) = node-addition-within K arms ms d e
  additions-remove-nothing (adds-edges {ts = ts}) = edge-addition-within s ts ms d e
  additions-remove-nothing (abstracts {p = p} {K = K} {a = a} {b = b}) = abstraction-within p K a b ms d e

  -- node deletion and edge deletion leave no node and no edge but old ones
  pub deletions-add-nothing : {a : Action} → Deletes a → perform s a ms d ≡ accepted e → Within e d
  unfolding perform
  deletions-add-nothing (deletes-node {p = p}) h = let r : node_deletion p ms d ≡ e = cc in rw r at (node-deletion-within p ms d)
  deletions-add-nothing (deletes-edges {ts = ts}) h = let r : edge_deletion ts ms d ≡ e = cc in rw r at (edge-deletion-within ts ms d)

  -- "Applying 0 changes nothing but counts and keeps a copy."
  pub pattern-only-changes-nothing : perform s pattern_only ms d ≡ accepted e → e ≡ d
  unfolding perform
  pattern-only-changes-nothing h = cc
