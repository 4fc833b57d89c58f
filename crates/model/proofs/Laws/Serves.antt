-- What node addition and abstraction leave, exactly: nothing new but the new nodes with their edges, and every matching and every group served.
-- What a node of the old drawing serves it goes on serving, since no new edge starts at it.
use Rattle.std.specs.Prelude.{ℕ, ◌≡◌, refl, ◌↔◌, true, List}
use Rattle.std.proofs.Common.{arith, ap, ◌∙◌, ⊎_elim}
use Rattle.std.proofs.Math.Logic.Iff
use mathlib.Core.List.Memᴰ
use Rattle.lists.specs.Lists.{◌∈◌}
use Rattle.lists.proofs.Laws.Lists.{same_set_lem, both, equals, any-member, all-members, in_map}
use Rattle.model.specs.Graph.{Triple, Scheme, Node, Instance}
use Rattle.model.specs.Refusals.{accepted}
use Rattle.model.specs.Operations.{Arm, arms_at, served, node_addition, targets, groups_of, grouped, group_arms, abstraction}
use Rattle.model.proofs.Laws.Graph.{has-edge}
use Rattle.model.proofs.Laws.Sound.{WellFormed, permits-stand}
use Rattle.model.specs.Meaning.{Within, SourcesStand, edge_at, New, WithNew}
use Rattle.model.proofs.Laws.Abstraction.{abstraction-within}
use Rattle.model.proofs.Laws.Additions.{new-above, new-nodes-exactly}
use Rattle.model.proofs.Laws.Groups.{in-targets}

-- every edge of a sound drawing starts at a node
pub sources-stand : {s : Scheme} {d : Instance} → WellFormed s d → SourcesStand d
sources-stand {s} {d} h t i = (permits-stand d s t (h.permitted t i)).0

-- # Node addition
-- a K node "has all the arm edges"
pub served-node : (K : ℕ) (edges : List Arm) (d : Instance)
    → (served K edges d ≡ true) ↔ ((n : Node ℕ) × (n ∈ d.nodes) × ((n.class ≡ K) × ((a : Arm) → a ∈ edges → edge_at n.number a ∈ d.edges)))
served-node K edges d = simp (has-edge, both, equals, any-member, all-members) Iff.rfl

served-within : (K : ℕ) (edges : List Arm) {d e : Instance} → Within d e → served K edges d ≡ true → served K edges e ≡ true
served-within K edges {d} {e} w h =
    let r = (served-node K edges d).0 h in
    (served-node K edges e).1 (r.0, w.nodes r.0 r.1, (r.2.0, λ a i. w.edges (edge_at r.0.number a) (r.2.1 a i)))

module _ (K : ℕ) (arms : List Arm) (ms : List (List ℕ)) (d e : Instance) (c : SourcesStand d) (h : node_addition K arms ms d ≡ accepted e) where
  -- "In rising order, a matching for which no K node, old or just added, has all the arm edges to its images gets a new K node with exactly
  -- those edges"
  pub node-addition-exactly : WithNew K (λ m now. served K (arms_at m arms) now) (λ m. arms_at m arms) ms d e
  unfolding node_addition
  node-addition-exactly = new-nodes-exactly K (λ m now. served K (arms_at m arms) now) (λ m. arms_at m arms) ms d e c h

  -- afterwards each matching is served
  pub node-addition-serves : (m : List ℕ) → m ∈ ms → served K (arms_at m arms) e ≡ true
  node-addition-serves m i =
      ⊎_elim
      (λ r. served-within K (arms_at m arms) r.1 r.2)
      (λ r.
      let n = r.0 in
      let new = r.1 in
      (served-node K (arms_at m arms) e).1
      (n, new.stays, (ap (λ (k : Node ℕ). k.class) new.next, λ a j. ((new.starts (edge_at n.number a)).1 (a, j, refl)).0)))
      (node-addition-exactly.gets m i)

-- # Abstraction
-- a K node "has exactly that group as its b-targets"
pub grouped-node : (K b : ℕ) (d : Instance) (g : List ℕ)
    → (grouped K b d g ≡ true)
    ↔ ((n : Node ℕ) × (n ∈ d.nodes) × ((n.class ≡ K) × ((i : ℕ) → (i ∈ targets d.edges b n.number) ↔ (i ∈ g))))
grouped-node K b d g = simp (same_set_lem, both, equals, any-member) Iff.rfl

module _ (p K a b : ℕ) (ms : List (List ℕ)) (d e : Instance) (c : SourcesStand d) (h : abstraction p K a b ms d ≡ accepted e) where
  -- "A group for which no K node of the old drawing has exactly that group as its b-targets gets a new K node with those b-edges"
  pub abstraction-exactly : WithNew K (λ group now. grouped K b d group) (group_arms b) (groups_of p a ms d) d e
  unfolding abstraction
  abstraction-exactly = new-nodes-exactly K (λ group now. grouped K b d group) (group_arms b) (groups_of p a ms d) d e c h

  abbrev edge : ℕ → ℕ → Triple
  edge i j = record { source = i; name = b; target = j }

  -- an old node's b-targets stay as they are
  old-targets : (n : Node ℕ) → n ∈ d.nodes → (i : ℕ) → (i ∈ targets e.edges b n.number) ↔ (i ∈ targets d.edges b n.number)
  old-targets n j i = (
    (λ k.
        ⊎_elim
        (λ l. (in-targets d.edges b n.number i).1 l)
        (λ r. let z = r.3 in absurd (omega (arith, new-above _ _ _ r.2 n j)))
        (abstraction-exactly.edges (edge n.number i) ((in-targets e.edges b n.number i).0 k))),
    λ k.
        (in-targets e.edges b n.number i).1
        ((abstraction-within p K a b ms d e h).edges (edge n.number i) ((in-targets d.edges b n.number i).0 k)),
  )

  new-targets : (g : List ℕ) (n : Node ℕ) → New K (λ group now. grouped K b d group) (group_arms b) (groups_of p a ms d) d e g n
      → (i : ℕ) → (i ∈ targets e.edges b n.number) ↔ (i ∈ g)
  new-targets g n new i = (
    (λ k.
        let r = (new.starts (edge n.number i)).0 ((in-targets e.edges b n.number i).0 k, refl) in
        let q = (in_map arm g).0 r.1 in
        Memᴰ.cast (ap (λ (t : Triple). t.target) r.2 ∙ ap (λ (x : Arm). x.node) q.2) q.1),
    λ k. (in-targets e.edges b n.number i).1 ((new.starts (edge n.number i)).1 (arm i, (in_map arm g).1 (i, k, refl), refl)).0,
  )
    where
      arm : ℕ → Arm
      arm i = record { name = b; node = i }

  -- afterwards, for each group, some K node has exactly that group as its b-targets
  pub abstraction-serves : (g : List ℕ) → g ∈ groups_of p a ms d → grouped K b e g ≡ true
  abstraction-serves g i =
      ⊎_elim
      (λ r.
      let q = (grouped-node K b d g).0 r.2 in
      let n = q.0 in
      (grouped-node K b e g).1
      (n, (abstraction-within p K a b ms d e h).nodes n q.1, (q.2.0, λ j. Iff.trans (old-targets n q.1 j) (q.2.1 j))))
      (λ r.
      let n = r.0 in
      let new = r.1 in
      (grouped-node K b e g).1 (n, new.stays, (ap (λ (k : Node ℕ). k.class) new.next, new-targets g n new)))
      (abstraction-exactly.gets g i)
