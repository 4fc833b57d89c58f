-- What the groups of abstraction are: each image of p is in exactly one, two are in one group if they have the same a-targets, and groups
-- come by smallest member. A group is the part of the images that have the targets of its first member, hence of any of its members.
use Rattle.std.specs.Prelude.{ℕ, ◌≡◌, refl, ◌↔◌, Bool, true, cond, ◌&&◌, List, [], ◌∷◌, map, eqb}
use Rattle.std.proofs.Common.{ap, ◌∙◌, sym, subst, eqb-true, eq-eqb}
use Rattle.std.proofs.Math.Path.{fun_ext}
use Rattle.std.proofs.Math.Logic.Iff
use mathlib.Core.List.Memᴰ
use Rattle.std.proofs.lemmas.Simd.{map-map}
use Rattle.lists.specs.Lists.{◌∈◌, keep, each, ◌!◌, member, same_set}
use Rattle.lists.specs.Order.{rising}
use Rattle.lists.proofs.Laws.Lists.{same_truth, same_set_lem, both, equals, in-keep, in_map, in-numbers}
use Rattle.lists.proofs.Laws.Places.{first_member}
use Rattle.lists.proofs.Laws.Order.{rising-map-keep}
use Rattle.lists.proofs.Laws.Maps.{map_same, each-if}
use Rattle.model.specs.Graph.{Triple, Instance, stands, nodes_rise}
use Rattle.model.specs.Operations.{images_of, targets, groups_of}
use Rattle.model.proofs.Laws.Graph.{row-determines, stands-node}

-- # Targets
-- the a-targets of a node: where its edges named a lead
pub in-targets : (es : List Triple) (a i j : ℕ) → (j ∈ targets es a i) ↔ (record { source = i; name = a; target = j } ∈ es)
in-targets es a i j = (
  (λ h.
      let r = (in_map (λ e. e.target) (keep (from i) es)).0 h in
      let k = (in-keep (from i) es).0 r.1 in
      let q = simp (both, equals) at k.1 in
      let t = r.0 in
      let u = r.2 in
      let s = q.0 in
      let n = q.1 in
      Memᴰ.cast (row-determines (record { source = i; name = a; target = j }) t (cc)) k.0),
  λ h.
      (in_map (λ e. e.target) (keep (from i) es)).1
      (record { source = i; name = a; target = j }, (in-keep (from i) es).1 (h, simp (both, equals) (refl, refl)), refl),
)
  where
    from : ℕ → Triple → Bool
    from i e = eqb e.source i && eqb e.name a

-- # Numbers grouped by the sets that f gives them
abbrev like : (ℕ → List ℕ) → ℕ → ℕ → Bool
like f i j = same_set (f i) (f j)

module _ (f : ℕ → List ℕ) (is : List ℕ) where
  abbrev part : ℕ → List ℕ
  part i = keep (like f i) is

  abbrev leads : ℕ → Bool
  leads i = eqb (part i ! 0) i

  abbrev parts : List (List ℕ)
  parts = each is (λ i. cond (leads i) (part i ∷ []) [])

  like-itself : (i : ℕ) → like f i i ≡ true
  like-itself i = (same_set_lem (f i) (f i)).1 (λ k. Iff.rfl)

  part_same : (i j : ℕ) → like f i j ≡ true → part i ≡ part j
  part_same i j h =
      let e = (same_set_lem (f i) (f j)).0 h in
      ap (λ (p : ℕ → Bool). keep p is) (fun_ext (λ k.
      same_truth (like f i k) (like f j k) (
        (λ q. (same_set_lem (f j) (f k)).1 (λ x. Iff.trans (Iff.symm (e x)) ((same_set_lem (f i) (f k)).0 q x))),
        λ q. (same_set_lem (f i) (f k)).1 (λ x. Iff.trans (e x) ((same_set_lem (f j) (f k)).0 q x)),
      )))

  a-part : (g : List ℕ) → g ∈ parts → (i : ℕ) × (i ∈ is) × (g ≡ part i)
  a-part g h =
      let r = (in_map part (keep leads is)).0 (rw (each-if leads part is) at h) in
      (r.0, ((in-keep leads is).0 r.1).0, r.2)

  -- the part of any of its members
  part_of : (g : List ℕ) → g ∈ parts → (i : ℕ) → i ∈ g → g ≡ part i
  part_of g h i j =
      let r = a-part g h in
      let e = r.2 in
      e ∙ part_same r.0 i ((in-keep (like f r.0) is).0 (rw e at j)).1

  in-part : (i : ℕ) → i ∈ is → i ∈ part i
  in-part i h = (in-keep (like f i) is).1 (h, like-itself i)

  part-listed : (i : ℕ) → i ∈ is → part i ∈ parts
  part-listed i h =
      let c = part i ! 0 in
      let r = (in-keep (like f i) is).0 (first_member (part i) 0 (in-part i h)) in
      let e = part_same i c r.1 in
      rw (each-if leads part is) ((in_map part (keep leads is)).1
      (c, (in-keep leads is).1 (r.0, eq-eqb (part c ! 0) c (ap (λ (l : List ℕ). l ! 0) (sym e))), e))

  part-has-first : (g : List ℕ) → g ∈ parts → (g ! 0) ∈ g
  part-has-first g h = let r = a-part g h in rw r.2 (first_member (part r.0) 0 (in-part r.0 r.1))

  part-rises : rising (map (λ i. i ∷ []) is) ≡ true → (g : List ℕ) → g ∈ parts → rising (map (λ i. i ∷ []) g) ≡ true
  part-rises h g i = let r = a-part g i in rw r.2 (rising-map-keep (λ i. i ∷ []) (like f r.0) is h)

  parts-rise : rising (map (λ i. i ∷ []) is) ≡ true → rising (map (λ g. g ! 0 ∷ []) parts) ≡ true
  parts-rise h =
      rw (each-if leads part is, map-map)
      (rw (map_same (λ i. part i ! 0 ∷ []) (λ i. i ∷ []) (keep leads is)
      (λ i j. ap (λ (n : ℕ). n ∷ []) (eqb-true (part i ! 0) i ((in-keep leads is).0 j).1))) (rising-map-keep (λ i. i ∷ []) leads is h))

-- # The groups of a pattern node's images
module _ (p a : ℕ) (ms : List (List ℕ)) (d : Instance) where
  -- the images that stand, in rising order
  abbrev sources : List ℕ
  sources = keep (member (images_of p ms)) (map (λ n. n.number) d.nodes)

  abbrev a_targets : ℕ → List ℕ
  a_targets i = targets d.edges a i

  in-sources : (i : ℕ) → (i ∈ sources) ↔ ((stands d i ≡ true) × ((m : List ℕ) × (m ∈ ms) × (i ≡ m ! p)))
  in-sources i = (
    (λ h.
        let r = (in-keep (member (images_of p ms)) (map (λ n. n.number) d.nodes)).0 h in
        let q = (in_map (λ n. n.number) d.nodes).0 r.0 in
        ((stands-node d i).1 (q.0, q.1, sym q.2), (in_map (λ m. m ! p) ms).0 ((in-numbers (images_of p ms) i).0 r.1))),
    λ h.
        let q = (stands-node d i).0 h.0 in
        (in-keep (member (images_of p ms)) (map (λ n. n.number) d.nodes)).1
        ((in_map (λ n. n.number) d.nodes).1 (q.0, q.1, sym q.2), (in-numbers (images_of p ms) i).1 ((in_map (λ m. m ! p) ms).1 h.1)),
  )

  -- each image of p is in exactly one group
  pub image-in-one-group : (m : List ℕ) → m ∈ ms → stands d (m ! p) ≡ true
      → (g : List ℕ) × (g ∈ groups_of p a ms d) × ((m ! p) ∈ g) × ((h : List ℕ) → h ∈ groups_of p a ms d → (m ! p) ∈ h → h ≡ g)
  image-in-one-group m i s =
      let j = (in-sources (m ! p)).1 (s, (m, i, refl)) in
      let g = part a_targets sources (m ! p) in
      (g, part-listed a_targets sources (m ! p) j, in-part a_targets sources (m ! p) j, λ h k. part_of a_targets sources h k (m ! p))

  -- "House: only images of p are grouped"
  pub only-images-grouped : (g : List ℕ) → g ∈ groups_of p a ms d → (i : ℕ) → i ∈ g → (stands d i ≡ true) × ((m : List ℕ) × (m ∈ ms) × (i ≡ m ! p))
  only-images-grouped g h i j = (in-sources i).0 ((in-keep (like a_targets i) sources).0 (rw (part_of a_targets sources g h i j) at j)).0

  -- "grouped by equal sets of a-targets ..; images with no a-edge form one group"
  pub grouped-by-targets : (g h : List ℕ) → g ∈ groups_of p a ms d → h ∈ groups_of p a ms d → (i j : ℕ) → i ∈ g → j ∈ h
      → (g ≡ h) ↔ ((k : ℕ) → (k ∈ targets d.edges a i) ↔ (k ∈ targets d.edges a j))
  grouped-by-targets g h u v i j x y =
      let e = part_of a_targets sources g u i x in
      let q = part_of a_targets sources h v j y in (
        (λ z. (same_set_lem (a_targets i) (a_targets j)).0 ((in-keep (like a_targets i) sources).0 (subst (λ (l : List ℕ). j ∈ l) (sym z ∙ e) y)).1),
        λ z. e ∙ part_same a_targets sources i j ((same_set_lem (a_targets i) (a_targets j)).1 z) ∙ sym q,
      )

  -- "Groups are taken by smallest member": each group has a first member and rises, and the first members of the groups rise
  pub groups-by-smallest : nodes_rise d ≡ true
      → ((g : List ℕ) → g ∈ groups_of p a ms d → ((g ! 0) ∈ g) × (rising (map (λ i. i ∷ []) g) ≡ true))
      × (rising (map (λ g. g ! 0 ∷ []) (groups_of p a ms d)) ≡ true)
  groups-by-smallest h =
      let rise = rising-map-keep (λ i. i ∷ []) (member (images_of p ms)) (map (λ n. n.number) d.nodes) (rw map-map h) in
      ((λ g i. (part-has-first a_targets sources g i, part-rises a_targets sources rise g i)), parts-rise a_targets sources rise)
