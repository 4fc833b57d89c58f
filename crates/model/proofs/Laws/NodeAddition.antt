-- Node addition: what an accepted one leaves is sound and has all of the old drawing.
-- A matching's arms have rising names, hence no two of one name, and lead to nodes of the pattern nodes' classes.
use Rattle.std.specs.Prelude.{ℕ, ◌≡◌, true, List, [], ◌∷◌, map, eqb}
use Rattle.std.proofs.lemmas.Simd.{map-map}
use Rattle.lists.specs.Lists.{◌∈◌, ◌!◌}
use Rattle.lists.specs.Order.{rising}
use Rattle.lists.proofs.Laws.Lists.{in_map}
use Rattle.lists.proofs.Laws.Order.{before-heads, rising-map-by}
use Rattle.lists.proofs.Laws.Apart.{rising-map-determines}
use Rattle.model.specs.Graph.{Scheme, Instance, Pattern, is_object, joins, of_class}
use Rattle.model.specs.Refusals.{accepted}
use Rattle.model.specs.Operations.{Arm, arms_at, served, node_addition}
use Rattle.model.proofs.Laws.Graph.{ListedScheme}
use Rattle.model.proofs.Laws.Sound.{WellFormed, joins-weaker}
use Rattle.model.specs.Meaning.{Within}
use Rattle.model.proofs.Laws.Kinds.{object-not-value}
use Rattle.model.proofs.Laws.NewNodes.{NewNodeFits, new-nodes-within, new-nodes-well-formed}

module _ (K : ℕ) (arms : List Arm) (ms : List (List ℕ)) (d : Instance) where
  pub node-addition-within : (e : Instance) → node_addition K arms ms d ≡ accepted e → Within d e
  unfolding node_addition
  node-addition-within e = new-nodes-within K (λ m now. served K (arms_at m arms) now) (λ m. arms_at m arms) ms d e

  module _ (s : Scheme) (p : Pattern) (l : ListedScheme s) (object : is_object s K ≡ true) (rise : rising (map (λ a. a.name ∷ []) arms) ≡ true)
      (permitted : (a : Arm) → a ∈ arms → joins s (eqb K) a.name (of_class p a.node) ≡ true) where
    abbrev at : List ℕ → Arm → Arm
    at m a = record { name = a.name; node = m ! a.node }

    arms-fit : (m : List ℕ) → ((i c : ℕ) → of_class p i c ≡ true → of_class d (m ! i) c ≡ true) → NewNodeFits K (arms_at m arms) d s
    arms-fit m lands =
        record {
          object = object;
          no_value = object-not-value s l.classes K object;
          rise = rw map-map (rising-map-by (λ a. a.name ∷ []) (λ a. a.name ∷ m ! a.node ∷ [])
              (λ a b. before-heads a.name b.name (m ! a.node ∷ []) (m ! b.node ∷ [])) arms rise);
          permitted = λ x i.
              let r = (in_map (at m) arms).0 i in
              let a = r.0 in
              rw r.2 (joins-weaker s (eqb K) (eqb K) a.name (of_class p a.node) (of_class d (m ! a.node))
              (λ c h. h) (lands a.node) (permitted a r.1));
          one_each = λ x y i j k e.
              let r = (in_map (at m) arms).0 i in
              let q = (in_map (at m) arms).0 j in
              let u = r.2 in
              let v = q.2 in
              let z = rising-map-determines (λ a. a.name ∷ []) arms rise r.0 q.0 r.1 q.1 (cc) in
              cc;
        }

    pub node-addition-well-formed : ((m : List ℕ) → m ∈ ms → (i c : ℕ) → of_class p i c ≡ true → of_class d (m ! i) c ≡ true) → WellFormed s d
        → (e : Instance) → node_addition K arms ms d ≡ accepted e → WellFormed s e
    unfolding node_addition
    node-addition-well-formed lands h e =
        new-nodes-well-formed K (λ m now. served K (arms_at m arms) now) (λ m. arms_at m arms) s ms d e (λ m i. arms-fit m (lands m i)) h
