-- Conformity of a graph with one edge or one node more, told from that of the graph: edges rise, so that an edge can only share its node and
-- its name with the last one before it.
use Rattle.std.specs.Prelude.{ℕ, ◌<◌, ◌≡◌, ◌↔◌, Bool, true, false, not, ◌&&◌, eqb, None, Some}
use Rattle.std.proofs.Common.{arith, ap, ◌∙◌, sym, subst, inr, ⊎_elim, eq-eqb}
use Rattle.std.proofs.Math.Path.{refl}
use Rattle.std.proofs.Math.Logic.Iff
use Rattle.std.proofs.lemmas.Bool.{false≢true}
use mathlib.Core.List.Memᴰ
use mathlib.Core.List.{List, [], ◌∷◌, ◌++◌, map}
use Rattle.lists.specs.Lists.{◌∈◌, any, find}
use Rattle.lists.specs.Order.{before, rising}
use Rattle.lists.proofs.Laws.Lists.{both, not_so, equals, differs, any-member, no_member, fails, same_truth, in-cons, in-append, finds-none}
use Rattle.lists.proofs.Laws.Order.{before-cons, before-irreflexive, rising-map}
use Rattle.lists.proofs.Laws.Apart.{found-member, rising-map-determines}
use Rattle.lists.proofs.Laws.OneMore.{rising-last, no-two-with}
use Rattle.model.specs.Graph.{Triple, Scheme, Node, Graph, is_value, is_functional, row, has, joins, stands, of_class, permits, clash, twins}
use Rattle.model.specs.Graph.{conforms_by, nodes_rise}
use Rattle.model.proofs.Laws.Graph.{has-edge, row-determines, stands-node, of-class, joins-triple, Conforming, conforming}
use Rattle.model.proofs.Laws.Sound.{permits-stand, no-clash, not-torn}
use Rattle.verdicts.specs.Verdicts.{last_shares}

-- # Edges of one node and one name
abbrev Shares : Triple → Triple → Type 0
Shares f e = (f.source ≡ e.source) × (f.name ≡ e.name)

-- of three rows in order, the second begins with the number with which the first and the last begin
between : (x y z : ℕ) (xs ys zs : List ℕ) → before (x ∷ xs) (y ∷ ys) ≡ true → before (y ∷ ys) (z ∷ zs) ≡ true → x ≡ z
    → (y ≡ z) × (before xs ys ≡ true) × (before ys zs ≡ true)
between x y z xs ys zs h k e =
    ⊎_elim
    (λ (l : x < y). ⊎_elim (λ (m : y < z). absurd (omega arith)) (λ q. let m = q.0 in absurd (omega arith)) ((before-cons y z ys zs).0 k))
    (λ p.
    let m = p.0 in
    ⊎_elim (λ (n : y < z). absurd (omega arith)) (λ q. (q.0, p.1, q.1)) ((before-cons y z ys zs).0 k))
    ((before-cons x y xs ys).0 h)

-- of three triples in order, the second shares what the first and the last share
shares-between : (a b e : Triple) → before (row a) (row b) ≡ true → before (row b) (row e) ≡ true → Shares a e → Shares b e
shares-between a b e h k m =
    let source = between a.source b.source e.source (a.name ∷ a.target ∷ []) (b.name ∷ b.target ∷ []) (e.name ∷ e.target ∷ []) h k m.0 in
    let name = between a.name b.name e.name (a.target ∷ []) (b.target ∷ []) (e.target ∷ []) source.1 source.2 m.1 in
    (source.0, name.0)

-- an edge after rising ones
module _ (e : Triple) where
  abbrev Last : List Triple → Type 0
  Last es = rising (map row (es ++ (e ∷ []))) ≡ true

  -- where an edge before it shares its node and its name, the last one does
  last-shares : (es : List Triple) → Last es → (last_shares es e ≡ true) ↔ ((f : Triple) × (f ∈ es) × Shares f e)
  unfolding last_shares
  last-shares [] h = ((λ k. absurd (false≢true k)), λ k. absurd (Memᴰ.not-nil k.1))
  last-shares (a ∷ []) h = (
    (λ k. (a, Memᴰ.head refl, (simp (both, equals) at k))),
    λ k. simp (both, equals) (subst (λ f. Shares f e) (Memᴰ.eq_of_singleton k.1) k.2),
  )
  last-shares (a ∷ b ∷ es) h =
      let r = (rising-map row a ((b ∷ es) ++ (e ∷ []))).0 h in
      let more = last-shares (b ∷ es) r.1 in
      let here = Memᴰ.head refl in (
        (λ k. let f = more.0 k in (f.0, Memᴰ.tail f.1, f.2)),
        λ k.
            more.1
            (⊎_elim
            (λ q. (b, here, shares-between a b e (r.0 b (Memᴰ.head refl)) (rising-last row (b ∷ es) e r.1 b here) (subst (λ f. Shares f e) q k.2)))
            (λ i. (k.0, i, k.2))
            (in-cons.0 k.1)),
      )

-- # Functional names
clashing : (s : Scheme) (f g : Triple)
    → (clash s f g ≡ true) ↔ (((is_functional s f.name ≡ true) × Shares f g) × (f.target ≡ g.target → ⊥))
clashing s f g = (
  (λ h. let r = simp (both, equals, not_so, differs) at h in ((r.0.0.0, (r.0.0.1, r.0.1)), r.1)),
  λ r. simp (both, equals, not_so, differs) (((r.0.0, r.0.1.0), r.0.1.1), r.1),
)

clash-symmetric : (s : Scheme) (f g : Triple) → clash s f g ≡ true → clash s g f ≡ true
clash-symmetric s f g h =
    let r = (clashing s f g).0 h in
    let name = r.0.1.1 in
    (clashing s g f).1 (((rw name at r.0.0), (sym r.0.1.0, sym name)), λ e. r.1 (sym e))

clash-irreflexive : (s : Scheme) (f : Triple) → clash s f f ≡ false
clash-irreflexive s f = (fails (clash s f f)).1 (λ h. ((clashing s f f).0 h).1 refl)

abbrev Unclashed : Scheme → List Triple → Type 0
Unclashed s es = (f g : Triple) → f ∈ es → g ∈ es → clash s f g ≡ false

module _ (s : Scheme) (es : List Triple) (e : Triple) (h : Last e es) where
  -- an edge before this one has another target, if both have one node and one name
  clash-last : (f : Triple) → f ∈ es → (clash s f e ≡ true) ↔ ((is_functional s e.name ≡ true) × Shares f e)
  clash-last f i = (
    (λ c. let r = (clashing s f e).0 c in let name = r.0.1.1 in ((rw name at r.0.0), r.0.1)),
    λ r.
        let name = r.1.1 in
        let same_row : f.target ≡ e.target → row e ≡ row f = λ t. cc in
        (clashing s f e).1 (
          (rw name r.0, r.1),
          λ t. before-irreflexive (row e) (ap (λ x. before x (row e)) (same_row t) ∙ rising-last row es e h f i),
        ),
  )

  abbrev torn-by-last : Bool
  torn-by-last = is_functional s e.name && last_shares es e

  clash-with : (torn-by-last ≡ true) ↔ ((f : Triple) × (f ∈ es) × (clash s f e ≡ true))
  clash-with = (
    (λ k.
        let r = (both (is_functional s e.name) (last_shares es e)).0 k in
        let f = (last-shares e es h).0 r.1 in
        (f.0, f.1, (clash-last f.0 f.1).1 (r.0, f.2))),
    λ f.
        let r = (clash-last f.0 f.1).0 f.2 in
        (both (is_functional s e.name) (last_shares es e)).1 (r.0, (last-shares e es h).1 (f.0, f.1, r.1)),
  )

  -- with the edge, no two edges clash exactly if its name isn't functional or the last edge doesn't share its node and its name
  unclashed-with : Unclashed s es → Unclashed s (es ++ (e ∷ [])) ↔ ((is_functional s e.name && last_shares es e) ≡ false)
  unclashed-with u =
      let w = no-two-with (clash s) (clash-irreflexive s) (clash-symmetric s) es e u in (
        (λ v. (fails torn-by-last).1 (λ k. let f = clash-with.0 k in false≢true (sym (w.0 v f.0 f.1) ∙ f.2))),
        λ k. w.1 (λ f i. (fails (clash s f e)).1 (λ c. false≢true (sym k ∙ clash-with.1 (f, i, c)))),
      )

-- # Conformity
module _ {Value : Type 0} (equal : Value → Value → Bool) (s : Scheme) where
  -- in a conforming graph no two edges clash, since the node at which they would clash stands
  conforming-unclashed : (g : Graph Value) → Conforming equal s g → Unclashed s g.edges
  conforming-unclashed g c e f i = no-clash s g.edges g c.whole e f (permits-stand g s e (c.permitted e i)).0 i

  -- a conforming graph with one edge more
  module _ (g : Graph Value) (e : Triple) (h : conforms_by equal s g ≡ true) (r : rising (map row (g.edges ++ (e ∷ []))) ≡ true) where
    abbrev with-edge : Graph Value
    with-edge = record { nodes = g.nodes; edges = g.edges ++ (e ∷ []) }

    before-it : Conforming equal s g
    before-it = (conforming equal s g).0 h

    pub edge-conforms : conforms_by equal s (record { nodes = g.nodes; edges = g.edges ++ (e ∷ []) })
        ≡ (permits s g e && not (is_functional s e.name && last_shares g.edges e))
    edge-conforms =
        same_truth (conforms_by equal s with-edge) (permits s g e && not (is_functional s e.name && last_shares g.edges e)) (
          (λ k.
              let c = (conforming equal s with-edge).0 k in
              simp (both, not_so) (
                c.permitted e ((in-append g.edges (e ∷ [])).1 (inr (Memᴰ.head refl))),
                (unclashed-with s g.edges e r (conforming-unclashed g before-it)).0 (conforming-unclashed with-edge c),
              )),
          λ k.
              let p = simp (both, not_so) at k in
              let u = (unclashed-with s g.edges e r (conforming-unclashed g before-it)).1 p.1 in
              (conforming equal s with-edge).1 (record {
                permitted =
                    λ f i.
                    ⊎_elim (before-it.permitted f) (λ j. subst (λ t. permits s g t ≡ true) (sym (Memᴰ.eq_of_singleton j)) p.0)
                    ((in-append g.edges (e ∷ [])).0 i);
                whole = λ n i. not-torn s (g.edges ++ (e ∷ [])) u n.number;
                apart = before-it.apart;
              }),
        )

  -- a conforming graph of nodes alone, with one node more
  module _ (symmetric : (v w : Value) → equal v w ≡ true → equal w v ≡ true) (ns : List (Node Value)) (n : Node Value)
      (h : conforms_by equal s (record { nodes = ns; edges = [] }) ≡ true)
      (r : rising (map (λ m. m.number ∷ []) (ns ++ (n ∷ []))) ≡ true) where
    abbrev with-node : Graph Value
    with-node = record { nodes = ns ++ (n ∷ []); edges = [] }

    -- a node above has the same class and an equal value
    abbrev shared : Bool
    shared = any (λ m. eqb m.class n.class && equal m.value n.value) ns

    other-number : (m : Node Value) → m ∈ ns → m.number ≡ n.number → ⊥
    other-number m i e =
        let f : Node Value → List ℕ = λ o. o.number ∷ [] in
        before-irreflexive (f n) (ap (λ k. before (k ∷ []) (f n)) (sym e) ∙ rising-last f ns n r m i)

    twin : (m o : Node Value)
        → (twins equal s m o ≡ true)
        ↔ ((((m.number ≡ o.number → ⊥) × (is_value s m.class ≡ true)) × (m.class ≡ o.class)) × (equal m.value o.value ≡ true))
    twin m o = simp (both, not_so, differs, equals) Iff.rfl

    twins-symmetric : (m o : Node Value) → twins equal s m o ≡ true → twins equal s o m ≡ true
    twins-symmetric m o t =
        let q = (twin m o).0 t in
        let class = q.0.1 in
        (twin o m).1 ((((λ e. q.0.0.0 (sym e)), (rw class at q.0.0.1)), sym class), symmetric m.value o.value q.1)

    twin-irreflexive : (m : Node Value) → twins equal s m m ≡ false
    twin-irreflexive m = (fails (twins equal s m m)).1 (λ t. ((twin m m).0 t).0.0.0 refl)

    twin-above : ((is_value s n.class && shared) ≡ true) ↔ ((m : Node Value) × (m ∈ ns) × (twins equal s m n ≡ true))
    twin-above = (
      (λ k.
          let v = (both (is_value s n.class) shared).0 k in
          let m = (any-member (λ m. eqb m.class n.class && equal m.value n.value) ns).0 v.1 in
          let q = simp (both, equals) at m.2 in
          (m.0, m.1, (twin m.0 n).1 (((other-number m.0 m.1, (rw q.0 v.0)), q.0), q.1))),
      λ m.
          let q = (twin m.0 n).0 m.2 in
          let class = q.0.1 in
          (both (is_value s n.class) shared).1 (
            (rw class at q.0.0.1),
            (any-member (λ m. eqb m.class n.class && equal m.value n.value) ns).1 (m.0, m.1, (simp (both, equals) (class, q.1))),
          ),
    )

    pub node-conforms : conforms_by equal s (record { nodes = ns ++ (n ∷ []); edges = [] })
        ≡ not (is_value s n.class && any (λ m. eqb m.class n.class && equal m.value n.value) ns)
    node-conforms =
        let above = (conforming equal s (record { nodes = ns; edges = [] })).0 h in
        let w = no-two-with (twins equal s) twin-irreflexive twins-symmetric ns n (λ m o i j. above.apart m i o j) in
        same_truth (conforms_by equal s with-node) (not (is_value s n.class && shared)) (
          (λ k.
              let c = (conforming equal s with-node).0 k in
              (not_so (is_value s n.class && shared)).1 ((fails (is_value s n.class && shared)).1 (λ t.
              let m = twin-above.0 t in
              false≢true (sym (w.0 (λ a b i j. c.apart a i b j) m.0 m.1) ∙ m.2)))),
          λ k.
              let none-twin = (not_so (is_value s n.class && shared)).0 k in
              let apart = w.1 (λ m i. (fails (twins equal s m n)).1 (λ t. false≢true (sym none-twin ∙ twin-above.1 (m, i, t)))) in
              (conforming equal s with-node).1 (record {
                permitted = λ e i. absurd (Memᴰ.not-nil i);
                whole = λ m i. refl;
                apart = λ a i b j. apart a b i j;
              }),
        )

-- # Permitted triples and nodes that are found
-- where one class passes at each end, one triple does
pub joins-classes : (s : Scheme) (from to : ℕ → Bool) (c name d : ℕ) → ((k : ℕ) → from k ≡ eqb k c) → ((k : ℕ) → to k ≡ eqb k d)
    → joins s from name to ≡ has s.permitted (record { source = c; name = name; target = d })
joins-classes s from to c name d f g =
    let t : Triple = record { source = c; name = name; target = d } in
    same_truth (joins s from name to) (has s.permitted t) (
      (λ h.
          let r = (joins-triple s from name to).0 h in
          let u = r.0 in
          let source = (equals u.source c).0 (sym (f u.source) ∙ r.2.0.0) in
          let target = (equals u.target d).0 (sym (g u.target) ∙ r.2.1) in
          let same_row : row t ≡ row u = cc in
          (has-edge s.permitted t).1 (Memᴰ.cast (row-determines t u same_row) r.1)),
      λ h.
          (joins-triple s from name to).1 (
            t,
            (has-edge s.permitted t).0 h,
            ((f c ∙ eq-eqb c c refl, refl), g d ∙ eq-eqb d d refl),
          ),
    )

module _ {Value : Type 0} (g : Graph Value) (i : ℕ) where
  pub absent : find (λ n. eqb n.number i) g.nodes ≡ None → stands g i ≡ false
  absent h = (no_member (λ n. eqb n.number i) g.nodes).1 ((finds-none (λ n. eqb n.number i) g.nodes).0 h)

  -- the node that is found
  module _ {n : Node Value} (h : find (λ m. eqb m.number i) g.nodes ≡ Some n) where
    found : (n ∈ g.nodes) × (n.number ≡ i)
    found = let r = found-member (λ m. eqb m.number i) g.nodes h in (r.0, (equals n.number i).0 r.1)

    pub found-stands : stands g i ≡ true
    found-stands = (stands-node g i).1 (n, found.0, found.1)

    pub found-class : nodes_rise g ≡ true → (c : ℕ) → of_class g i c ≡ eqb c n.class
    found-class r c =
        same_truth (of_class g i c) (eqb c n.class) (
          (λ k.
              let m = (of-class g i c).0 k in
              let number : m.0.number ∷ [] ≡ n.number ∷ [] = ap (λ j. j ∷ []) (m.2.0 ∙ sym found.1) in
              let e = rising-map-determines (λ o. o.number ∷ []) g.nodes r m.0 n m.1 found.0 number in
              (equals c n.class).1 (sym m.2.1 ∙ ap (λ o. o.class) e)),
          λ k. (of-class g i c).1 (n, found.0, (found.1, sym ((equals c n.class).0 k))),
        )
