-- A new node with its edges leaves a sound drawing sound, and whole within the new one: it serves node addition and abstraction.
-- The new number is above all others, so that what is new stands last, and no old edge starts at it.
use Rattle.std.specs.Prelude.{ℕ, suc, ◌+◌, ◌<◌, ◌≤◌, ◌≡◌, refl, Bool, true, false, cond, List, [], ◌∷◌, ◌++◌, map, eqb, ltb, leb}
use Rattle.std.proofs.Common.{arith, ap, ◌∙◌, sym, subst, inl, inr, ⊎_elim, length-append}
use Rattle.std.proofs.lemmas.Bool.{false≢true}
use mathlib.Core.List.Memᴰ
use Rattle.std.proofs.lemmas.List.{map-append}
use Rattle.std.proofs.lemmas.Simd.{map-map}
use Rattle.std.proofs.Math.ListN.{length}
use borrow.Author.Tests.{eqb-true, ltb-false, leb-true, leb-false}
use Rattle.lists.specs.Lists.{◌∈◌}
use Rattle.lists.specs.Order.{rising}
use Rattle.lists.proofs.Laws.Lists.{both, not_so, equals, differs, fails, in-cons, in-append, in_map}
use Rattle.lists.proofs.Laws.Order.{before-cons, rising-append, rising-heads}
use Rattle.model.specs.Limits
use Rattle.model.specs.Graph.{Triple, Scheme, Node, Instance, is_object, is_value, is_functional, row, joins, of_class, permits}
use Rattle.model.specs.Graph.{clash, twins, in_values}
use Rattle.model.specs.Refusals.{accepted}
use Rattle.model.specs.declared.Refusal.TheVariants.{NodesFull, NumbersFull, EdgesFull}
use Rattle.model.specs.Operations.{Arm, next_number, with_node, new_nodes}
use Rattle.model.proofs.Laws.Graph.{stands-node, of-class}
use Rattle.model.proofs.Laws.Outcomes.{unless-accepted, otherwise-accepted, in_turn-keeps}
use Rattle.model.proofs.Laws.Sound.{WellFormed, joins-weaker, permits-stand}
use Rattle.model.specs.Meaning.{Within, NextNumber, edge_at, next_node}
use Rattle.model.proofs.Laws.Within.{within-itself, within-through, of-class-within, permits-within}

-- the new number is above all numbers
pub below_next : (ns : List (Node ℕ)) (n : Node ℕ) → n ∈ ns → n.number < next_number ns
below_next [] n i = absurd (Memᴰ.not-nil i)
below_next (m ∷ ns) n i =
    ⊎_elim (λ e. let k = ap (λ (x : Node ℕ). x.number) e in omega arith) (λ j. omega (arith, below_next ns n j)) (in-cons.0 i)

-- the new number is that of document 01
pub next-number : (ns : List (Node ℕ)) → NextNumber ns (next_number ns)
next-number [] = inl (refl, refl)
next-number (m ∷ ns) = go (leb (next_number ns) (suc m.number)) refl (next-number ns)
  where
    here : (k : next_number ns ≤ suc m.number) → (l : Node ℕ) → l ∈ (m ∷ ns) → l.number ≤ m.number
    here k l i =
        ⊎_elim (λ e. let q = ap (λ (x : Node ℕ). x.number) e in omega arith) (λ j. omega (arith, below_next ns l j)) (in-cons.0 i)

    go : (t : Bool) → leb (next_number ns) (suc m.number) ≡ t → NextNumber ns (next_number ns) → NextNumber (m ∷ ns) (next_number (m ∷ ns))
    go true e r = let k = leb-true (next_number ns) (suc m.number) e in inr (m, Memᴰ.head refl, omega arith, here k)
    go false e r =
        let k = leb-false (next_number ns) (suc m.number) e in
        ⊎_elim
        (λ q. let z = q.1 in absurd (omega arith))
        (λ q.
        let z = q.2 in
        inr (
          q.0,
          Memᴰ.tail q.1,
          omega arith,
          λ l i. ⊎_elim (λ e. let y = ap (λ (x : Node ℕ). x.number) e in omega arith) (q.3 l) (in-cons.0 i),
        )) r

module _ (K : ℕ) (new : List Arm) (d : Instance) where
  abbrev pub number : ℕ
  number = next_number d.nodes

  abbrev pub node : Node ℕ
  node = next_node K d

  abbrev pub edge : Arm → Triple
  edge = edge_at number

  abbrev pub grown : Instance
  grown = record { nodes = d.nodes ++ (node ∷ []); edges = d.edges ++ map edge new }

  pub record Grows (e : Instance) : Type 0 where
    pub result : e ≡ grown
    pub few-nodes : length d.nodes < Limits.nodes
    pub in-range : number ≤ Limits.last_number
    pub few-edges : length d.edges + length (map edge new) ≤ Limits.edges

  pub grows : (e : Instance) → with_node K new d ≡ accepted e → Grows e
  unfolding with_node
  grows e h =
      let a = unless-accepted (leb Limits.nodes (length d.nodes)) NodesFull _ e h in
      let b = unless-accepted (ltb Limits.last_number number) NumbersFull _ e a.1 in
      let c = unless-accepted (ltb Limits.edges (length d.edges + length (map edge new))) EdgesFull _ e b.1 in
      let q = c.1 in
      record {
        result = cc;
        few-nodes = leb-false Limits.nodes (length d.nodes) a.0;
        in-range = ltb-false Limits.last_number number b.0;
        few-edges = ltb-false Limits.edges (length d.edges + length (map edge new)) c.0;
      }

  grown-within : Within d grown
  grown-within = record { nodes = λ n i. (in-append d.nodes (node ∷ [])).1 (inl i); edges = λ t i. (in-append d.edges (map edge new)).1 (inl i) }

  with-node-within : (e : Instance) → with_node K new d ≡ accepted e → Within d e
  with-node-within e h = rw (grows e h).result grown-within

  -- what a new node asks of its class and edges
  pub record NewNodeFits (s : Scheme) : Type 0 where
    pub object : is_object s K ≡ true
    pub no_value : is_value s K ≡ false
    pub rise : rising (map (λ a. a.name ∷ a.node ∷ []) new) ≡ true
    pub permitted : (a : Arm) → a ∈ new → joins s (eqb K) a.name (of_class d a.node) ≡ true
    pub one_each : (a b : Arm) → a ∈ new → b ∈ new → is_functional s a.name ≡ true → a.name ≡ b.name → a.node ≡ b.node

  module _ (s : Scheme) (h : WellFormed s d) (f : NewNodeFits s) where
    old-source : (t : Triple) → t ∈ d.edges → t.source < number
    old-source t i =
        let r = (stands-node d t.source).0 (permits-stand d s t (h.permitted t i)).0 in
        let e = r.2 in
        omega (arith, below_next d.nodes r.0 r.1)

    grown-permitted : (t : Triple) → t ∈ grown.edges → permits s grown t ≡ true
    grown-permitted t i =
        ⊎_elim
        (λ j. permits-within grown-within s t (h.permitted t j))
        (λ j.
        let r = (in_map edge new).0 j in
        let a = r.0 in
        rw r.2 (joins-weaker s (eqb K) (of_class grown number) a.name (of_class d a.node) (of_class grown a.node)
        (λ c k. (of-class grown number c).1 (node, (in-append d.nodes (node ∷ [])).1 (inr (Memᴰ.head refl)), (refl, eqb-true K c k)))
        (of-class-within grown-within a.node)
        (f.permitted a r.1)))
        ((in-append d.edges (map edge new)).0 i)

    new-source : (t : Triple) → t ∈ map edge new → t.source ≡ number
    new-source t i = ap (λ (u : Triple). u.source) ((in_map edge new).0 i).2

    new-whole : (t u : Triple) → t ∈ map edge new → u ∈ map edge new → is_functional s t.name ≡ true → t.name ≡ u.name → t.target ≡ u.target
    new-whole t u i j k e =
        let r = (in_map edge new).0 i in
        let q = (in_map edge new).0 j in
        let p = r.2 in
        let o = q.2 in
        let k' = rw p at k in
        let z = f.one_each r.0 q.0 r.1 q.1 k' (cc) in
        cc

    grown-whole : (t u : Triple) → t ∈ grown.edges → u ∈ grown.edges → clash s t u ≡ false
    grown-whole t u i j =
        (fails (clash s t u)).1 (λ c.
        let r = simp (both, equals, not_so, differs) at c in
        let e = r.0.0.1 in
        ⊎_elim
        (λ a. ⊎_elim
        (λ b. false≢true (sym (h.whole t u a b) ∙ c))
        (λ b. let k = new-source u b in omega (arith, old-source t a))
        ((in-append d.edges (map edge new)).0 j))
        (λ a. ⊎_elim
        (λ b. let k = new-source t a in omega (arith, old-source u b))
        (λ b. r.1 (new-whole t u a b r.0.0.0 r.0.1))
        ((in-append d.edges (map edge new)).0 j))
        ((in-append d.edges (map edge new)).0 i))

    old-node : (n : Node ℕ) → n ∈ grown.nodes → (n.class ≡ K → ⊥) → n ∈ d.nodes
    old-node n i k =
        ⊎_elim (λ j. j) (λ j. absurd (k (ap (λ (m : Node ℕ). m.class) (Memᴰ.eq_of_singleton j)))) ((in-append d.nodes (node ∷ [])).0 i)

    grown-apart : (n m : Node ℕ) → n ∈ grown.nodes → m ∈ grown.nodes → twins eqb s n m ≡ false
    grown-apart n m i j =
        (fails (twins eqb s n m)).1 (λ t.
        let r = simp (both, equals) at t in
        let k : n.class ≡ K → ⊥ = λ e. false≢true (sym f.no_value ∙ ap (is_value s) (sym e) ∙ r.0.0.1) in
        false≢true (sym (h.apart n m (old-node n i k) (old-node m j (λ e. k (r.0.1 ∙ e)))) ∙ t))

    grown-nodes-rise : rising (map (λ n. n.number ∷ []) grown.nodes) ≡ true
    grown-nodes-rise =
        rw map-append ((rising-append (map (λ n. n.number ∷ []) d.nodes) ((number ∷ []) ∷ [])).1 (
          h.nodes-rise,
          refl,
          λ x y i j.
              let r = (in_map (λ n. n.number ∷ []) d.nodes).0 i in
              rw (r.2, Memᴰ.eq_of_singleton j) ((before-cons r.0.number number [] []).1 (inl (below_next d.nodes r.0 r.1))),
        ))

    grown-edges-rise : rising (map row grown.edges) ≡ true
    grown-edges-rise =
        let arms = map (λ a. a.name ∷ a.node ∷ []) new in
        let rise = rw map-map at (rising-heads number arms f.rise) in
        rw map-append ((rising-append (map row d.edges) (map row (map edge new))).1 (
          h.edges-rise,
          rw map-map rise,
          λ x y i j.
              let r = (in_map row d.edges).0 i in
              let q = (in_map row (map edge new)).0 j in
              let t = r.0 in
              let u = q.0 in
              let l : t.source < u.source = (let k = new-source u q.1 in omega (arith, old-source t r.1)) in
              rw (r.2, q.2) ((before-cons t.source u.source (t.name ∷ t.target ∷ []) (u.name ∷ u.target ∷ [])).1 (inl l)),
        ))

    grown-within-limits : (n : Node ℕ) → number ≤ Limits.last_number → n ∈ grown.nodes
        → (n.number ≤ Limits.last_number) × (in_values s n.class n.value ≡ true)
    grown-within-limits n l i =
        ⊎_elim
        (h.within n)
        (λ j. let e : n ≡ node = Memᴰ.eq_of_singleton j in rw e (l, simp (f.object, f.no_value)))
        ((in-append d.nodes (node ∷ [])).0 i)

    with-node-well-formed : (e : Instance) → with_node K new d ≡ accepted e → WellFormed s e
    with-node-well-formed e a =
        let g = grows e a in
        rw g.result (record {
          few-nodes = simp length-append (omega (arith, g.few-nodes));
          nodes-rise = grown-nodes-rise;
          few-edges = simp length-append g.few-edges;
          edges-rise = grown-edges-rise;
          within = λ n. grown-within-limits n g.in-range;
          permitted = grown-permitted;
          whole = grown-whole;
          apart = grown-apart;
        })

fits-within : (K : ℕ) (new : List Arm) (s : Scheme) {d e : Instance} → Within d e → NewNodeFits K new d s → NewNodeFits K new e s
fits-within K new s {d} {e} w f =
    record {
      object = f.object;
      no_value = f.no_value;
      rise = f.rise;
      permitted = λ a i.
          joins-weaker s (eqb K) (eqb K) a.name (of_class d a.node) (of_class e a.node)
          (λ c h. h) (of-class-within w a.node) (f.permitted a i);
      one_each = f.one_each;
    }

-- # New nodes in turn, for the places that are not served
module _ {Place : Type 0} (K : ℕ) (served : Place → Instance → Bool) (edges : Place → List Arm) where
  at_place : (P : Instance → Type 0) (x : Place) (now next : Instance) → P now → (with_node K (edges x) now ≡ accepted next → P next)
      → cond (served x now) (accepted now) (with_node K (edges x) now) ≡ accepted next → P next
  at_place P x now next h k a = ⊎_elim (λ e. subst P e h) k (otherwise-accepted (served x now) (with_node K (edges x) now) now next a)

  -- all of the old drawing stays
  pub new-nodes-within : (places : List Place) (d e : Instance) → new_nodes K served edges places d ≡ accepted e → Within d e
  new-nodes-within places d e =
      in_turn-keeps _ (Within d) places d e
      (λ x i now next w. at_place (Within d) x now next w (λ h. within-through w (with-node-within K (edges x) now next h)))
      (within-itself d)

  -- a sound drawing stays sound, if each new node fits the old one
  pub new-nodes-well-formed : (s : Scheme) (places : List Place) (d e : Instance) → ((x : Place) → x ∈ places → NewNodeFits K (edges x) d s) → WellFormed s d
      → new_nodes K served edges places d ≡ accepted e → WellFormed s e
  new-nodes-well-formed s places d e f h a = (in_turn-keeps _ Both places d e keeps (h, within-itself d) a).0
    where
      Both : Instance → Type 0
      Both now = WellFormed s now × Within d now

      keeps : (x : Place) → x ∈ places → (now next : Instance) → Both now
          → cond (served x now) (accepted now) (with_node K (edges x) now) ≡ accepted next → Both next
      keeps x i now next b =
          at_place Both x now next b (λ k. (
            with-node-well-formed K (edges x) now s b.0 (fits-within K (edges x) s b.1 (f x i)) next k,
            within-through b.1 (with-node-within K (edges x) now next k),
          ))
