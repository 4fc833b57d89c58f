-- Abstraction: what an accepted one leaves is sound and has all of the old drawing.
-- A group is a part of the images, in their order, and its edges have a multivalued name.
use Rattle.std.specs.Prelude.{ℕ, ◌≡◌, true, List, [], ◌∷◌, map, eqb}
use Rattle.std.proofs.Common.{arith}
use Rattle.std.proofs.lemmas.Simd.{map-map}
use Rattle.lists.specs.Lists.{◌∈◌, ◌!◌}
use Rattle.lists.proofs.Laws.Lists.{in_map}
use Rattle.lists.proofs.Laws.Order.{rising-heads}
use Rattle.model.specs.Graph.{Scheme, Instance, Pattern, is_object, is_multivalued, joins, of_class}
use Rattle.model.specs.Refusals.{accepted}
use Rattle.model.specs.Operations.{Arm, groups_of, grouped, group_arms, abstraction}
use Rattle.model.proofs.Laws.Graph.{ListedScheme}
use Rattle.model.proofs.Laws.Sound.{WellFormed, joins-weaker}
use Rattle.model.specs.Meaning.{Within}
use Rattle.model.proofs.Laws.Kinds.{one-kind, object-not-value}
use Rattle.model.proofs.Laws.Groups.{only-images-grouped, groups-by-smallest}
use Rattle.model.proofs.Laws.NewNodes.{NewNodeFits, new-nodes-within, new-nodes-well-formed}

module _ (q K a b : ℕ) (ms : List (List ℕ)) (d : Instance) where
  pub abstraction-within : (e : Instance) → abstraction q K a b ms d ≡ accepted e → Within d e
  unfolding abstraction
  abstraction-within e = new-nodes-within K (λ group now. grouped K b d group) (group_arms b) (groups_of q a ms d) d e

  module _ (s : Scheme) (p : Pattern) (l : ListedScheme s) (object : is_object s K ≡ true) (multivalued : is_multivalued s b ≡ true)
      (permitted : joins s (eqb K) b (of_class p q) ≡ true) (h : WellFormed s d)
      (lands : (m : List ℕ) → m ∈ ms → (i c : ℕ) → of_class p i c ≡ true → of_class d (m ! i) c ≡ true) where
    group-fits : (g : List ℕ) → g ∈ groups_of q a ms d → NewNodeFits K (group_arms b g) d s
    group-fits g i =
        let rise = ((groups-by-smallest q a ms d h.nodes-rise).0 g i).1 in
        record {
          object = object;
          no_value = object-not-value s l.classes K object;
          rise = rw map-map (rw map-map at (rising-heads b (map (λ j. j ∷ []) g) rise));
          permitted = λ x j.
              let r = (in_map {B = Arm} (λ k. record { name = b; node = k }) g).0 j in
              let m = (only-images-grouped q a ms d g i r.0 r.1).1 in
              let image = joins-weaker s (eqb K) (eqb K) b (of_class p q) (of_class d (m.0 ! q)) (λ c k. k) (lands m.0 m.1 q) permitted in
              rw (r.2, m.2) image;
          one_each = λ x y j k f e.
              let r = (in_map {B = Arm} (λ n. record { name = b; node = n }) g).0 j in
              let functional = rw r.2 at f in
              let z = one-kind s.names b l.names 0 1 functional multivalued in
              absurd (omega arith);
        }

    pub abstraction-well-formed : (e : Instance) → abstraction q K a b ms d ≡ accepted e → WellFormed s e
    unfolding abstraction
    abstraction-well-formed e = new-nodes-well-formed K (λ group now. grouped K b d group) (group_arms b) s (groups_of q a ms d) d e group-fits h
