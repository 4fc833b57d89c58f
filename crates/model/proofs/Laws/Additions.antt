-- What new nodes a drawing gets, exactly: in turn, each place that is not served then gets one node, with exactly its edges.
-- By induction on the places; a later node has a larger number, so that its edges start elsewhere.
use Rattle.std.specs.Prelude.{ℕ, ◌<◌, ◌≡◌, refl, ◌↔◌, ◌⊎◌, Bool, true, false, cond, List, [], ◌∷◌, map}
use Rattle.std.proofs.Common.{arith, ap, sym, subst, inl, inr, ⊎_elim}
use mathlib.Core.List.Memᴰ
use Rattle.lists.specs.Lists.{◌∈◌}
use Rattle.lists.proofs.Laws.Lists.{in-cons, in-append, in_map}
use Rattle.model.specs.Graph.{Triple, Node, Instance}
use Rattle.model.specs.Refusals.{Outcome, accepted, in_turn}
use Rattle.model.specs.Operations.{Arm, next_number, with_node, new_nodes}
use Rattle.model.proofs.Laws.Graph.{stands-node}
use Rattle.model.proofs.Laws.Outcomes.{then-accepted}
use Rattle.model.specs.Meaning.{Within, SourcesStand, edge_at, next_node, Turn, New, WithNew}
use Rattle.model.proofs.Laws.NewNodes.{below_next, grows, new-nodes-within}

-- # One new node
source-below : (d : Instance) → SourcesStand d → (t : Triple) → t ∈ d.edges → t.source < next_number d.nodes
source-below d c t i =
    let r = (stands-node d t.source).0 (c t i) in
    let e = r.2 in
    omega (arith, below_next d.nodes r.0 r.1)

module _ (K : ℕ) where
  module _ (new : List Arm) (d : Instance) where
    abbrev number : ℕ
    number = next_number d.nodes

    abbrev added : List Triple
    added = map (edge_at number) new

    -- the drawing has got one node with its edges
    record Grown (e : Instance) : Type 0 where
      nodes : (n : Node ℕ) → (n ∈ e.nodes) ↔ ((n ∈ d.nodes) ⊎ (n ≡ next_node K d))
      edges : (t : Triple) → (t ∈ e.edges) ↔ ((t ∈ d.edges) ⊎ ((a : Arm) × (a ∈ new) × (t ≡ edge_at number a)))

    grown : (e : Instance) → with_node K new d ≡ accepted e → Grown e
    grown e h =
        rw (grows K new d e h).result (record {
          nodes = λ n. (
            (λ i. ⊎_elim inl (λ j. inr (Memᴰ.eq_of_singleton j)) ((in-append d.nodes (next_node K d ∷ [])).0 i)),
            λ i. (in-append d.nodes (next_node K d ∷ [])).1 (⊎_elim inl (λ k. inr (Memᴰ.head k)) i),
          );
          edges = λ t. (
            (λ i. ⊎_elim inl (λ j. inr ((in_map (edge_at number) new).0 j)) ((in-append d.edges added).0 i)),
            λ i. (in-append d.edges added).1 (⊎_elim inl (λ k. inr ((in_map (edge_at number) new).1 k)) i),
          );
        })

    grown-sources : (e : Instance) → Grown e → SourcesStand d → SourcesStand e
    grown-sources e g c t i =
        ⊎_elim
        (λ j.
        let r = (stands-node d t.source).0 (c t j) in
        (stands-node e t.source).1 (r.0, (g.nodes r.0).1 (inl r.1), r.2))
        (λ r. (stands-node e t.source).1 (next_node K d, (g.nodes (next_node K d)).1 (inr refl), sym (ap (λ (u : Triple). u.source) r.2)))
        ((g.edges t).0 i)

-- # New nodes in turn
module _ {Place : Type 0} (K : ℕ) (served : Place → Instance → Bool) (arms : Place → List Arm) where
  -- a new node's number is above all old ones
  pub new-above : {places : List Place} {d e : Instance} {x : Place} {n : Node ℕ} → New K served arms places d e x n
      → (m : Node ℕ) → m ∈ d.nodes → m.number < n.number
  new-above {d = d} r m i =
      let k = ap (λ (l : Node ℕ). l.number) r.next in
      let t = r.turn in
      omega (arith, below_next t.now.nodes m ((new-nodes-within K served arms t.front d t.now t.reached).nodes m i))

  abbrev step : Place → Instance → Outcome Instance
  step x now = cond (served x now) (accepted now) (with_node K (arms x) now)

  module _ (x : Place) (xs : List Place) (d u e : Instance) (goes : step x d ≡ accepted u) where
    abbrev turn-first : Turn K served arms (x ∷ xs) d x
    turn-first = record { front = []; back = xs; split = refl; now = d; reached = refl }

    abbrev turn-later : {y : Place} → Turn K served arms xs u y → Turn K served arms (x ∷ xs) d y
    turn-later t =
        record {
          front = x ∷ t.front;
          back = t.back;
          split = ap (λ (l : List Place). x ∷ l) t.split;
          now = t.now;
          reached = rw goes t.reached;
        }

    later : {y : Place} {n : Node ℕ} → New K served arms xs u e y n → New K served arms (x ∷ xs) d e y n
    later r = record { turn = turn-later r.turn; unserved = r.unserved; next = r.next; stays = r.stays; starts = r.starts }

    -- what the places behind x get
    behind : WithNew K served arms xs u e → (y : Place) → y ∈ xs
        → ((t : Turn K served arms (x ∷ xs) d y) × (Within t.now e) × (served y t.now ≡ true)) ⊎ ((n : Node ℕ) × New K served arms (x ∷ xs) d e y n)
    behind r y i = ⊎_elim (λ q. inl (turn-later q.0, q.1, q.2)) (λ q. inr (q.0, later q.1)) (r.gets y i)

    served-goes : served x d ≡ true → new_nodes K served arms xs u ≡ accepted e → WithNew K served arms xs u e → WithNew K served arms (x ∷ xs) d e
    served-goes t h r =
        let same : d ≡ u = (let g = rw t at goes in cc) in
        let old = new-nodes-within K served arms (x ∷ xs) d e (rw goes h) in
        record {
          old = old;
          nodes = λ n i. ⊎_elim (λ j. inl (rw same j)) (λ q. inr (q.0, later q.1)) (r.nodes n i);
          edges = λ v i. ⊎_elim (λ j. inl (rw same j)) (λ q. inr (q.0, q.1, later q.2, q.3)) (r.edges v i);
          gets = λ y i.
              ⊎_elim
              (λ k. rw k (inl (turn-first, old, t)))
              (behind r y)
              (in-cons.0 i);
        }

    module _ (c : SourcesStand d) (f : served x d ≡ false) (g : Grown K (arms x) d u) (w : Within u e) (r : WithNew K served arms xs u e) where
      -- an edge that starts at the new node
      own : (t : Triple) → t ∈ e.edges → t.source ≡ next_number d.nodes → (a : Arm) × (a ∈ arms x) × (t ≡ edge_at (next_number d.nodes) a)
      own t i k =
          ⊎_elim
          (λ j. ⊎_elim (λ l. absurd (omega (arith, source-below d c t l))) (λ q. q) ((g.edges t).0 j))
          (λ q. let z = q.3 in absurd (omega (arith, new-above q.2 (next_node K d) ((g.nodes (next_node K d)).1 (inr refl)))))
          (r.edges t i)

      first : New K served arms (x ∷ xs) d e x (next_node K d)
      first =
          record {
            turn = turn-first;
            unserved = f;
            next = refl;
            stays = w.nodes (next_node K d) ((g.nodes (next_node K d)).1 (inr refl));
            starts = λ t. (
              (λ h. own t h.0 h.1),
              λ h. (w.edges t ((g.edges t).1 (inr h)), ap (λ (v : Triple). v.source) h.2),
            );
          }

      unserved-goes : WithNew K served arms (x ∷ xs) d e
      unserved-goes =
          record {
            old = record { nodes = λ n i. w.nodes n ((g.nodes n).1 (inl i)); edges = λ t i. w.edges t ((g.edges t).1 (inl i)) };
            nodes = λ n i.
                ⊎_elim
                (λ j. ⊎_elim inl (λ k. inr (x, subst (New K served arms (x ∷ xs) d e x) (sym k) first)) ((g.nodes n).0 j))
                (λ q. inr (q.0, later q.1))
                (r.nodes n i);
            edges = λ t i.
                ⊎_elim
                (λ j. ⊎_elim inl (λ q. inr (x, next_node K d, first, ap (λ (v : Triple). v.source) q.2)) ((g.edges t).0 j))
                (λ q. inr (q.0, q.1, later q.2, q.3))
                (r.edges t i);
            gets = λ y i.
                ⊎_elim
                (λ k. inr (next_node K d, subst (λ (z : Place). New K served arms (x ∷ xs) d e z (next_node K d)) (sym k) first))
                (behind r y)
                (in-cons.0 i);
          }

  -- "gets a new K node with exactly those edges": what new nodes in turn make of a drawing, and nothing else
  pub new-nodes-exactly : (places : List Place) (d e : Instance) → SourcesStand d → new_nodes K served arms places d ≡ accepted e
      → WithNew K served arms places d e
  new-nodes-exactly [] d e c h =
      let same : d ≡ e = cc in
      record {
        old = new-nodes-within K served arms [] d e h;
        nodes = λ n i. inl (rw same i);
        edges = λ t i. inl (rw same i);
        gets = λ y i. absurd (Memᴰ.not-nil i);
      }
  new-nodes-exactly (x ∷ xs) d e c h =
      let r = (then-accepted (step x d) (λ u. in_turn xs step u) e).0 h in
      go (served x d) refl r.0 r.1 r.2 (λ k. new-nodes-exactly xs r.0 e k r.2)
    where
      go : (t : Bool) → served x d ≡ t → (u : Instance) → step x d ≡ accepted u → new_nodes K served arms xs u ≡ accepted e
          → (SourcesStand u → WithNew K served arms xs u e) → WithNew K served arms (x ∷ xs) d e
      go true p u s k more =
          let same : d ≡ u = (let g = rw p at s in cc) in
          served-goes x xs d u e s p k (more (subst SourcesStand same c))
      go false p u s k more =
          let g = grown K (arms x) d u (rw p at s) in
          unserved-goes x xs d u e s c p g (new-nodes-within K served arms xs u e k) (more (grown-sources K (arms x) d u g c))
