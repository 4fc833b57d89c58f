-- Edge addition: the smallest set of edges that holds the old ones and the images, sound if it is accepted.
-- Joining an edge keeps the order and puts in that edge alone; the tests of refusals 11 and 12 give the limit and the functional names.
use Prim.Native.Nat.{ℕ, ◌≤◌}
use Rattle.std.specs.Prelude.{◌≡◌, ◌↔◌, ◌⊎◌, true, false, cond, List, [], ◌∷◌, map, length, ltb, Option, None, Some}
use Rattle.std.proofs.Math.Path.{refl}
use Rattle.std.proofs.Common.{ap, ◌∙◌, sym, inl, inr, ⊎_elim}
use Rattle.std.proofs.Math.Bool.{Bool}
use mathlib.Core.List.Memᴰ
use borrow.Author.Tests.{ltb-false}
use Rattle.lists.specs.Lists.{◌∈◌, find}
use Rattle.lists.specs.Order.{same, before, rising}
use Rattle.lists.proofs.Laws.Lists.{in_map, in-cons, finds-none}
use Rattle.lists.proofs.Laws.Order.{same-list, before-transitive, before-total, rising-map, rising-determined}
use Rattle.lists.proofs.Laws.Maps.{map_back}
use Rattle.model.specs.Limits
use Rattle.model.specs.Graph.{Triple, Scheme, Node, Instance, row, permits, torn}
use Rattle.model.specs.Matching.{image}
use Rattle.model.specs.Refusals.{accepted}
use Rattle.model.specs.declared.Refusal.TheVariants.{EdgesFull}
use Rattle.model.specs.Operations.{join_edge, join_edges, images, unless_torn, edge_addition}
use Rattle.model.specs.Files.{triple_of}
use Rattle.model.proofs.Laws.Graph.{row-determines}
use Rattle.model.proofs.Laws.Images.{in-images}
use Rattle.model.proofs.Laws.Outcomes.{refused-not-accepted, unless-accepted}
use Rattle.model.proofs.Laws.Sound.{WellFormed, permits-stand, no-clash}
use Rattle.model.specs.Meaning.{Within, HoldsBoth, Joined}

-- # Joining
in-join_edge : (e : Triple) (es : List Triple) (t : Triple) → (t ∈ join_edge e es) ↔ ((t ≡ e) ⊎ (t ∈ es))
in-join_edge e [] t = in-cons
in-join_edge e (f ∷ fs) t = go (before (row e) (row f)) (same (row e) (row f)) refl (in-join_edge e fs t)
  where
    go : (a b : Bool) → same (row e) (row f) ≡ b → (t ∈ join_edge e fs) ↔ ((t ≡ e) ⊎ (t ∈ fs))
        → (t ∈ cond a (e ∷ f ∷ fs) (cond b (f ∷ fs) (f ∷ join_edge e fs))) ↔ ((t ≡ e) ⊎ (t ∈ (f ∷ fs)))
    go true b q more = in-cons
    go false true q more = (inr, ⊎_elim (λ p. Memᴰ.head (p ∙ row-determines e f ((same-list (row e) (row f)).0 q))) (λ i. i))
    go false false q more = (
      (λ h. ⊎_elim (λ p. inr (Memᴰ.head p)) (λ i. ⊎_elim inl (λ j. inr (Memᴰ.tail j)) (more.0 i)) (in-cons.0 h)),
      ⊎_elim (λ p. Memᴰ.tail (more.1 (inl p))) (λ i. ⊎_elim Memᴰ.head (λ j. Memᴰ.tail (more.1 (inr j))) (in-cons.0 i)),
    )

-- joined edges are the new ones and the old ones
in-joined : (new es : List Triple) (t : Triple) → (t ∈ join_edges new es) ↔ ((t ∈ new) ⊎ (t ∈ es))
in-joined [] es t = (inr, ⊎_elim (λ i. absurd (Memᴰ.not-nil i)) (λ i. i))
in-joined (e ∷ new) es t =
    let one = in-join_edge e es t in
    let more = in-joined new (join_edge e es) t in (
      (λ h. ⊎_elim (λ i. inl (Memᴰ.tail i)) (λ i. ⊎_elim (λ p. inl (Memᴰ.head p)) inr (one.0 i)) (more.0 h)),
      ⊎_elim (λ i. ⊎_elim (λ p. more.1 (inr (one.1 (inl p)))) (λ j. more.1 (inl j)) (in-cons.0 i)) (λ i. more.1 (inr (one.1 (inr i)))),
    )

pub join_edge-rises : (e : Triple) (es : List Triple) → rising (map row es) ≡ true → rising (map row (join_edge e es)) ≡ true
join_edge-rises e [] h = refl
join_edge-rises e (f ∷ fs) h =
    let r = (rising-map row f fs).0 h in
    go (before (row e) (row f)) (same (row e) (row f)) refl refl r.0 (join_edge-rises e fs r.1)
  where
    go : (a b : Bool) → before (row e) (row f) ≡ a → same (row e) (row f) ≡ b → ((t : Triple) → t ∈ fs → before (row f) (row t) ≡ true)
        → rising (map row (join_edge e fs)) ≡ true → rising (map row (cond a (e ∷ f ∷ fs) (cond b (f ∷ fs) (f ∷ join_edge e fs)))) ≡ true
    go true b p q first more =
        (rising-map row e (f ∷ fs)).1 (
          (λ t i.
              ⊎_elim
              (λ k. ap (λ (u : Triple). before (row e) (row u)) k ∙ p)
              (λ j. before-transitive (row e) (row f) (row t) p (first t j))
              (in-cons.0 i)),
          h,
        )
    go false true p q first more = h
    go false false p q first more =
        let last = before-total (row e) (row f) p q in
        (rising-map row f (join_edge e fs)).1 (
          (λ t i. ⊎_elim (λ k. ap (λ (u : Triple). before (row f) (row u)) k ∙ last) (first t) ((in-join_edge e fs t).0 i)),
          more,
        )

joined-rises : (new es : List Triple) → rising (map row es) ≡ true → rising (map row (join_edges new es)) ≡ true
joined-rises [] es h = h
joined-rises (e ∷ new) es h = joined-rises new (join_edge e es) (join_edge-rises e es h)

-- the old edges joined with the images are the one such list
module _ (ts : List Triple) (ms : List (List ℕ)) (d : Instance) where
  pub joined : rising (map row d.edges) ≡ true → Joined ts ms d (join_edges (images ts ms) d.edges)
  joined h =
      record {
        rise = joined-rises (images ts ms) d.edges h;
        members = λ t.
            let r = in-joined (images ts ms) d.edges t in
            let q = in-images ts ms t in
            ((λ i. ⊎_elim (λ j. inl (q.0 j)) inr (r.0 i)), λ i. r.1 (⊎_elim (λ j. inl (q.1 j)) inr i));
      }

  pub joined_once : (es fs : List Triple) → Joined ts ms d es → Joined ts ms d fs → es ≡ fs
  joined_once es fs h k =
      let rows : (gs hs : List Triple) → Joined ts ms d gs → Joined ts ms d hs → (z : List ℕ) → z ∈ map row gs → z ∈ map row hs =
      λ gs hs a b z i. let r = (in_map row gs).0 i in (in_map row hs).1 (r.0, (b.members r.0).1 ((a.members r.0).0 r.1), r.2) in
      let back : (gs : List Triple) → map triple_of (map row gs) ≡ gs = λ gs. map_back triple_of row gs (λ t i. refl) in
      sym (back es) ∙ ap (map triple_of) (rising-determined (map row es) (map row fs) h.rise k.rise (rows es fs h k) (rows fs es k h)) ∙ back fs

-- # An accepted edge addition
module _ (s : Scheme) (ts : List Triple) (ms : List (List ℕ)) (d : Instance) where
  abbrev union : List Triple
  union = join_edges (images ts ms) d.edges

  record Added (e : Instance) : Type 0 where
    result : e ≡ record { nodes = d.nodes; edges = union }
    few : length union ≤ Limits.edges
    whole : (n : Node ℕ) → n ∈ d.nodes → torn s union n.number ≡ false

  added : (e : Instance) → edge_addition s ts ms d ≡ accepted e → Added e
  unfolding edge_addition
  added e h =
      let r = unless-accepted (ltb Limits.edges (length union)) EdgesFull _ e h in
      let q = go (find tears d.nodes) refl r.1 in
      record { result = q.1; few = ltb-false Limits.edges (length union) r.0; whole = (finds-none tears d.nodes).0 q.0 }
    where
      tears : Node ℕ → Bool
      tears n = torn s union n.number

      go : (o : Option (Node ℕ)) → find tears d.nodes ≡ o → unless_torn o (record { nodes = d.nodes; edges = union }) ≡ accepted e
          → (find tears d.nodes ≡ None) × (e ≡ record { nodes = d.nodes; edges = union })
      go None p h = (p, cc)
      go (Some n) p h = absurd (refused-not-accepted h)

  -- "The images of all matchings are joined to the edges": an accepted edge addition leaves the nodes, has the old edges and the images, and
  -- no edge that any list which holds both does not have
  pub edge-addition-smallest : (e : Instance) → edge_addition s ts ms d ≡ accepted e
      → (e.nodes ≡ d.nodes) × HoldsBoth ts ms d e.edges × ((fs : List Triple) → HoldsBoth ts ms d fs → (t : Triple) → t ∈ e.edges → t ∈ fs)
  edge-addition-smallest e h =
      rw (added e h).result (
        refl,
        record {
          old = λ t i. (in-joined (images ts ms) d.edges t).1 (inr i);
          new = λ m i t j. (in-joined (images ts ms) d.edges (image m t)).1 (inl ((in-images ts ms (image m t)).1 (m, i, (t, j, refl))));
        },
        λ fs k t i. ⊎_elim (λ j.
            let r = (in-images ts ms t).0 j in
            rw r.2.2 (k.new r.0 r.1 r.2.0 r.2.1)) (k.old t) ((in-joined (images ts ms) d.edges t).0 i),
      )

  pub edge-addition-within : (e : Instance) → edge_addition s ts ms d ≡ accepted e → Within d e
  edge-addition-within e h =
      let r = edge-addition-smallest e h in
      record { nodes = λ n i. rw r.0 i; edges = r.1.old }

  pub edge-addition-well-formed : WellFormed s d → ((m : List ℕ) → m ∈ ms → (t : Triple) → t ∈ ts → permits s d (image m t) ≡ true)
      → (e : Instance) → edge_addition s ts ms d ≡ accepted e → WellFormed s e
  edge-addition-well-formed h k e a =
      let q = added e a in
      let permitted : (t : Triple) → t ∈ union → permits s d t ≡ true = λ t i. ⊎_elim (λ j.
      let r = (in-images ts ms t).0 j in
      rw r.2.2 (k r.0 r.1 r.2.0 r.2.1)) (h.permitted t) ((in-joined (images ts ms) d.edges t).0 i) in
      rw q.result (record {
        few-nodes = h.few-nodes;
        nodes-rise = h.nodes-rise;
        few-edges = q.few;
        edges-rise = joined-rises (images ts ms) d.edges h.edges-rise;
        within = h.within;
        permitted = permitted;
        whole = λ t u i. no-clash s union d q.whole t u (permits-stand d s t (permitted t i)).0 i;
        apart = h.apart;
      })
