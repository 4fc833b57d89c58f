-- New nodes for the groups that images lead are what abstraction makes: the groups of the definition are those of the runs, since a run has the
-- node's targets, these rise, and rising numbers that have the same members are the same.
use Prim.Native.Nat.{ℕ, ◌+◌, ◌*◌, ◌/◌, ◌%◌, ◌^◌, ◌<◌, ◌≤◌}
use Rattle.std.proofs.Common.{arith, ap₂, ◌∙◌, subst}
use Rattle.std.specs.Prelude.{◌≡◌, refl, ◌↔◌, true, false, ◌&&◌, ◌||◌, length, take, Result}
use Rattle.std.proofs.Math.Path.{ap, sym}
use Rattle.std.specs.Bool.{⊤}
use Rattle.std.proofs.Math.Logic.Iff
use Rattle.std.proofs.Math.Bool.{Bool, cond}
use mathlib.Core.List.Memᴰ
use mathlib.Core.List.{List, [], ◌∷◌, ◌++◌, map, map-map, foldl}
use Rattle.std.proofs.lemmas.List.{length-map}
use Rattle.std.proofs.Math.Dec.{eqb}
use borrow.Author.Tests.{eq-eqb, ne_eqb, eqb-true}
use Rattle.lists.specs.Lists.{◌∈◌, any, keep, each, ◌!◌, member, same_set, Below}
use Rattle.lists.specs.Order.{same}
use Rattle.lists.proofs.Laws.Lists.{both, same_truth, same_set_lem, in-keep, in_map, keep-map, keep-length}
use Rattle.lists.proofs.Laws.Maps.{each_same, map_same, map_back, keep_same}
use Rattle.lists.proofs.Laws.Order.{same-list}
use Rattle.model.specs.Limits
use Rattle.model.specs.Graph.{Scheme, Instance, Pattern, of_class, stands}
use Rattle.model.specs.Matching.{matchings}
use Rattle.model.specs.Operations.{abstract, with_node, new_nodes, images_of, targets, groups, grouped, group_arms, abstraction}
use Rattle.model.specs.Refusals.{Outcome, accepted, refused, ◌>>=◌, in_turn}
use Rattle.model.specs.declared.Refusal.{Refusal}
use Rattle.model.specs.Sound.{Sound, SoundRule, suits}
use Rattle.model.proofs.Laws.Graph.{stands-node, of-class, joins-triple, listed-instance}
use Rattle.keys.specs.Keys.{keys_rise}
use Rattle.keys.specs.Laws.Keys.{rise-cons, keys-determined, keep-rises}
use Rattle.graph.specs.Packed.{unpack_triple, unpack_node, unpack_arm, instance_of, unpack_instance}
use Rattle.graph.specs.declared.instance.PackedInstance.{PackedInstance}
use Rattle.notes.specs.Notes.{sorted}
use Rattle.notes.specs.Visits.{node_keys, visited}
use Rattle.notes.specs.Laws.Images.{images-noted, noted-below}
use Rattle.growth.specs.Growth.{Makes}
use Rattle.edge_runs.specs.Runs.{run_of, lowest, targets_at, has_targets}
use Rattle.groups.specs.Groups.{numbers_of, alike, arms_led_by}
use Rattle.abstraction.specs.Grouped.{GrowsTo, added_with, added_at, grouped_to}

-- # Targets
-- keys of one run rise by their lowest numbers
lowest-rises : (run : ℕ) (ks : List ℕ) → ((k : ℕ) → k ∈ ks → k / 2 ^ 16 ≡ run) → keys_rise ks ≡ true → keys_rise (map lowest ks) ≡ true
lowest-rises run [] h r = r
lowest-rises run (x ∷ ks) h r =
    (rise-cons (lowest x) (map lowest ks)).1 (
      (λ t i.
          let m = (in_map lowest ks).0 i in
          let k = m.0 in
          let e : t ≡ k % 2 ^ 16 = m.2 in
          let l : x < k = ((rise-cons x ks).0 r).0 k m.1 in
          let p : k / 2 ^ 16 ≡ run = h k (Memᴰ.tail m.1) in
          let q : x / 2 ^ 16 ≡ run = h x (Memᴰ.head refl) in
          omega arith),
      lowest-rises run ks (λ k i. h k (Memᴰ.tail i)) ((rise-cons x ks).0 r).1,
    )

module _ (edges : List ℕ) (rise : keys_rise edges ≡ true) where
  targets-rise : (run : ℕ) → keys_rise (targets_at edges run) ≡ true
  unfolding targets_at
  targets-rise run =
      let p : ℕ → Bool = λ k. eqb (k / 2 ^ 16) run in
      lowest-rises run (keep p edges) (λ k i. eqb-true (k / 2 ^ 16) run ((in-keep p edges).0 i).1) (keep-rises p edges rise)

-- a node's targets are those of its run
targets-of-run : (edges : List ℕ) (name i : ℕ) → name < 2 ^ 6 → targets (map unpack_triple edges) name i ≡ targets_at edges (run_of name i)
unfolding targets_at
targets-of-run edges name i h =
    ap (map (λ e. e.target)) (keep-map unpack_triple (λ e. eqb e.source i && eqb e.name name) edges)
    ∙ map-map (λ e. e.target) unpack_triple (keep (λ k. eqb (k / 2 ^ 22) i && eqb (k / 2 ^ 16 % 2 ^ 6) name) edges)
    ∙ ap (map lowest)
    (keep_same (λ k. eqb (k / 2 ^ 22) i && eqb (k / 2 ^ 16 % 2 ^ 6) name) (λ k. eqb (k / 2 ^ 16) (run_of name i)) edges (λ k j. of-run k))
  where
    of-run : (k : ℕ) → (eqb (k / 2 ^ 22) i && eqb (k / 2 ^ 16 % 2 ^ 6) name) ≡ eqb (k / 2 ^ 16) (run_of name i)
    of-run k = same_truth (eqb (k / 2 ^ 22) i && eqb (k / 2 ^ 16 % 2 ^ 6) name) (eqb (k / 2 ^ 16) (run_of name i)) (
      (λ t.
          let r = (both (eqb (k / 2 ^ 22) i) (eqb (k / 2 ^ 16 % 2 ^ 6) name)).0 t in
          let p : k / 2 ^ 22 ≡ i = eqb-true _ _ r.0 in
          let q : k / 2 ^ 16 % 2 ^ 6 ≡ name = eqb-true _ _ r.1 in
          eq-eqb (k / 2 ^ 16) (run_of name i) (omega arith)),
      λ t.
          let e : k / 2 ^ 16 ≡ i * 2 ^ 6 + name = eqb-true _ _ t in
          (both (eqb (k / 2 ^ 22) i) (eqb (k / 2 ^ 16 % 2 ^ 6) name)).1
          (eq-eqb (k / 2 ^ 22) i (omega arith), eq-eqb (k / 2 ^ 16 % 2 ^ 6) name (omega arith)),
    )

-- # Sets of rising numbers
same-rising : (xs ys : List ℕ) → keys_rise xs ≡ true → keys_rise ys ≡ true → same_set xs ys ≡ same xs ys
same-rising xs ys h k =
    same_truth (same_set xs ys) (same xs ys) (
      (λ t. (same-list xs ys).1 (keys-determined xs ys h k (λ i. ((same_set_lem xs ys).0 t i).0) (λ i. ((same_set_lem xs ys).0 t i).1))),
      λ t. (same_set_lem xs ys).1 (λ i. subst (λ (l : List ℕ). (i ∈ xs) ↔ (i ∈ l)) ((same-list xs ys).0 t) Iff.rfl),
    )

same-symmetric : (xs ys : List ℕ) → same xs ys ≡ same ys xs
same-symmetric xs ys =
    same_truth (same xs ys) (same ys xs) (
      (λ t. (same-list ys xs).1 (sym ((same-list xs ys).0 t))),
      λ t. (same-list xs ys).1 (sym ((same-list ys xs).0 t)),
    )

-- # Steps in turn
module _ {S : Type 0} where
  then_same : (o : Outcome S) (f g : S → Outcome S) → ((t : S) → f t ≡ g t) → (o >>= f) ≡ (o >>= g)
  then_same (accepted t) f g h = h t
  then_same (refused r) f g h = refl

  turn-same : {A : Type 0} (f g : A → S → Outcome S) (xs : List A) → ((x : A) → x ∈ xs → (s : S) → f x s ≡ g x s) → (s : S)
      → in_turn xs f s ≡ in_turn xs g s
  turn-same f g [] h s = refl
  turn-same f g (x ∷ xs) h s =
      ap (λ o. o >>= λ t. in_turn xs f t) (h x (Memᴰ.head refl) s)
      ∙ then_same (g x s) (λ t. in_turn xs f t) (λ t. in_turn xs g t) (turn-same f g xs (λ y i. h y (Memᴰ.tail i)))

  -- for what some members make, where the others go by
  turn-each : {A B : Type 0} (leads : A → Bool) (make : A → B) (f : B → S → Outcome S) (xs : List A) (s : S)
      → in_turn (each xs (λ x. cond (leads x) (make x ∷ []) [])) f s ≡ in_turn xs (λ x now. cond (leads x) (f (make x) now) (accepted now)) s
  turn-each leads make f [] s = refl
  turn-each leads make f (x ∷ xs) s = go (leads x) (turn-each leads make f xs)
    where
      go : (t : Bool)
          → ((u : S)
          → in_turn (each xs (λ x. cond (leads x) (make x ∷ []) [])) f u ≡ in_turn xs (λ x now. cond (leads x) (f (make x) now) (accepted now)) u)
          → in_turn (cond t (make x ∷ []) [] ++ each xs (λ x. cond (leads x) (make x ∷ []) [])) f s
          ≡ (cond t (f (make x) s) (accepted s) >>= λ u. in_turn xs (λ x now. cond (leads x) (f (make x) now) (accepted now)) u)
      go true more = then_same (f (make x) s) _ _ more
      go false more = more s

-- # Groups
-- some of the numbers of those that pass pass
any-kept : (p q : ℕ → Bool) (f : ℕ → ℕ) (xs : List ℕ) → any p (map f (keep q xs)) ≡ any (λ x. q x && p (f x)) xs
any-kept p q f [] = refl
any-kept p q f (x ∷ xs) = go (q x) (any-kept p q f xs)
  where
    go : (t : Bool) → any p (map f (keep q xs)) ≡ any (λ x. q x && p (f x)) xs
        → any p (map f (cond t (x ∷ keep q xs) (keep q xs))) ≡ (t && p (f x) || any (λ x. q x && p (f x)) xs)
    go true e = ap (λ b. p (f x) || b) e
    go false e = e

any-map : {A : Type 0} (p : A → Bool) (f : ℕ → A) (xs : List ℕ) → any p (map f xs) ≡ any (λ x. p (f x)) xs
any-map p f [] = refl
any-map p f (x ∷ xs) = ap (λ b. p (f x) || b) (any-map p f xs)

any_same : (p q : ℕ → Bool) (xs : List ℕ) → ((x : ℕ) → p x ≡ q x) → any p xs ≡ any q xs
any_same p q [] h = refl
any_same p q (x ∷ xs) h = ap₂ ◌||◌ (h x) (any_same p q xs h)

no-members : (xs : List ℕ) → length xs ≡ 0 → (x : ℕ) → x ∈ xs → ⊥
no-members [] e x i = Memᴰ.not-nil i
no-members (y ∷ xs) e x i = omega arith

module _ (class a b : ℕ) (nodes edges images : List ℕ) (named : (a < 2 ^ 6) × (b < 2 ^ 6)) (edges_rise : keys_rise edges ≡ true)
    (images_rise : keys_rise images ≡ true) (below : Below (2 ^ 16) images) where
  abbrev d : Instance
  d = instance_of nodes edges

  same-targets : (i j : ℕ)
      → same_set (targets d.edges a i) (targets d.edges a j) ≡ same (targets_at edges (run_of a j)) (targets_at edges (run_of a i))
  same-targets i j =
      rw (targets-of-run edges a i named.0, targets-of-run edges a j named.0)
      (same-rising (targets_at edges (run_of a i)) (targets_at edges (run_of a j))
      (targets-rise edges edges_rise (run_of a i)) (targets-rise edges edges_rise (run_of a j))
      ∙ same-symmetric (targets_at edges (run_of a i)) (targets_at edges (run_of a j)))

  group-alike : (i : ℕ) → keep (λ j. same_set (targets d.edges a i) (targets d.edges a j)) images ≡ alike edges a images i
  group-alike i = keep_same _ _ images (λ j k. same-targets i j)

  abbrev leads : ℕ → Bool
  leads i = eqb (alike edges a images i ! 0) i

  groups-alike : groups d.edges a images ≡ each images (λ i. cond (leads i) (alike edges a images i ∷ []) [])
  groups-alike =
      each_same images _ _ (λ i j. ap (λ (group : List ℕ). cond (eqb (group ! 0) i) (group ∷ []) []) (group-alike i))

  -- # One group
  module _ (group : List ℕ) (rise : keys_rise group ≡ true) (few : Below (2 ^ 16) group) where
    arms-targets : map lowest (map (λ j. b * 2 ^ 16 + j) group) ≡ group
    arms-targets = map_back lowest (λ j. b * 2 ^ 16 + j) group (λ j i. let l = few j i in omega arith)

    arms-unpacked : map unpack_arm (map (λ j. b * 2 ^ 16 + j) group) ≡ group_arms b group
    arms-unpacked =
        map-map unpack_arm (λ j. b * 2 ^ 16 + j) group
        ∙ map_same (λ j. unpack_arm (b * 2 ^ 16 + j)) (λ j. record { name = b; node = j }) group (λ j i.
        let l : j < 2 ^ 16 = few j i in
        let name : (b * 2 ^ 16 + j) / 2 ^ 16 ≡ b = omega arith in
        let node : (b * 2 ^ 16 + j) % 2 ^ 16 ≡ j = omega arith in
        ap₂ (λ (n m : ℕ). record { name = n; node = m }) name node)

    served-alike : any (has_targets edges b (map (λ j. b * 2 ^ 16 + j) group)) (numbers_of class nodes) ≡ grouped class b d group
    unfolding numbers_of
    served-alike =
        any-kept (has_targets edges b (map (λ j. b * 2 ^ 16 + j) group)) (λ n. eqb (n / 2 ^ 32 % 2 ^ 6) class) (λ n. n / 2 ^ 38) nodes
        ∙ any_same _ _ nodes (λ n. ap (λ t. eqb (n / 2 ^ 32 % 2 ^ 6) class && t) (at (n / 2 ^ 38)))
        ∙ sym (any-map _ unpack_node nodes)
      where
        at : (n : ℕ) → has_targets edges b (map (λ j. b * 2 ^ 16 + j) group) n ≡ same_set (targets d.edges b n) group
        at n =
            rw (arms-targets, targets-of-run edges b n named.1)
            (sym (same-rising (targets_at edges (run_of b n)) group (targets-rise edges edges_rise (run_of b n)) rise))

  -- # Each image in turn
  abbrev led-group : ℕ → Instance → Outcome Instance
  led-group i now =
      let group = alike edges a images i in
      cond (grouped class b d group) (accepted now) (with_node class (group_arms b group) now)

  step-alike : (i : ℕ) → i ∈ images → (now : Instance)
      → added_at class images a edges (numbers_of class nodes) b i now ≡ cond (leads i) (led-group i now) (accepted now)
  unfolding added_with arms_led_by
  step-alike i j now = go (leads i)
    where
      group : List ℕ
      group = alike edges a images i

      arms : List ℕ
      arms = map (λ j. b * 2 ^ 16 + j) group

      like-itself : i ∈ group
      like-itself = (in-keep _ images).1 (j, (same-list (targets_at edges (run_of a i)) (targets_at edges (run_of a i))).1 refl)

      some-arms : length arms ≡ 0 → ⊥
      some-arms e = no-members group (sym (length-map group (λ j. b * 2 ^ 16 + j)) ∙ e) i like-itself

      rise : keys_rise group ≡ true
      rise = keep-rises _ images images_rise

      few : Below (2 ^ 16) group
      few k l = below k ((in-keep _ images).0 l).0

      go : (t : Bool)
          → cond (eqb (length (cond t arms [])) 0 || any (has_targets edges b (cond t arms [])) (numbers_of class nodes)) (accepted now)
          (with_node class (map unpack_arm (cond t arms [])) now)
          ≡ cond t (led-group i now) (accepted now)
      go true = rw (ne_eqb (length arms) 0 some-arms, served-alike group rise few, arms-unpacked group rise few)
      go false = refl

  groups-of-arms : in_turn images (added_at class images a edges (numbers_of class nodes) b) (instance_of nodes edges)
      ≡ grouped_to class a b images (instance_of nodes edges)
  unfolding grouped_to
  groups-of-arms =
      let step : List ℕ → Instance → Outcome Instance =
      λ group now. cond (grouped class b d group) (accepted now) (with_node class (group_arms b group) now) in
      turn-same _ _ images step-alike d
      ∙ sym (turn-each leads (alike edges a images) step images d)
      ∙ ap (λ (gs : List (List ℕ)). in_turn gs step d) (sym groups-alike)

-- # What code makes
-- numbers of nodes that fit
pub numbers-below : (class : ℕ) (nodes numbers : List ℕ) → Below (2 ^ 54) nodes → numbers ≡ numbers_of class nodes → Below (2 ^ 16) numbers
unfolding numbers_of
numbers-below class nodes numbers below e k i =
    let m = (in_map (λ n. n / 2 ^ 38) (keep (λ n. eqb (n / 2 ^ 32 % 2 ^ 6) class) nodes)).0 (subst (λ (l : List ℕ). k ∈ l) e i) in
    let q : k ≡ m.0 / 2 ^ 38 = m.2 in
    let l : m.0 < 2 ^ 54 = below m.0 ((in-keep _ nodes).0 m.1).0 in
    omega arith

pub numbers-few : (class : ℕ) (nodes numbers : List ℕ) → numbers ≡ numbers_of class nodes → length numbers ≤ length nodes
unfolding numbers_of
numbers-few class nodes numbers e =
    let kept = keep (λ n. eqb (n / 2 ^ 32 % 2 ^ 6) class) nodes in
    omega (arith, ap length e, length-map kept (λ n. n / 2 ^ 38), keep-length (λ n. eqb (n / 2 ^ 32 % 2 ^ 6) class) nodes)

-- with the look-ups as they are made
module _ (d : PackedInstance) (class a b : ℕ) (images numbers : List ℕ) (numbered : numbers ≡ numbers_of class (take d.order d.nodes))
    (edges_rise : keys_rise (take d.size d.edges) ≡ true) (images_rise : keys_rise images ≡ true) (below : Below (2 ^ 16) images)
    (l : a < 2 ^ 6) (m : b < 2 ^ 6) (asked edges served : List ℕ) (by to : ℕ) (e : asked ≡ images) (f : by ≡ a) (g : edges ≡ take d.size d.edges)
    (h : served ≡ numbers) (k : to ≡ b) where
  abbrev in_groups : Outcome Instance
  in_groups = in_turn asked (added_at class asked by edges served to) (unpack_instance d)

  made : in_groups ≡ grouped_to class a b images (unpack_instance d)
  unfolding unpack_instance
  made =
      rw (e, f, g, h, k, numbered)
      (groups-of-arms class a b (take d.order d.nodes) (take d.size d.edges) images (l, m) edges_rise images_rise below)

  pub groups-made : (v : Result ⊤ Refusal) (grown : PackedInstance) → GrowsTo in_groups v grown
      → Makes (grouped_to class a b images (unpack_instance d)) v grown
  groups-made v grown grows =
      record {
        fits = record { few_nodes = grows.addable.few_nodes; few_edges = grows.addable.few_edges };
        makes = grows.outcome ∙ made;
      }

-- # Of the images that are noted
module _ (s : Scheme) (p : Pattern) (d : Instance) (q K a b : ℕ) (sound : Sound s d)
    (rule : SoundRule s (record { pattern = p; action = abstract q K a b })) where
  -- the images' edges are permitted, so that their pattern node stands
  node-stands : stands p q ≡ true
  unfolding suits
  node-stands =
      let suited = simp both at rule.suited in
      let t = (joins-triple s (eqb K) b (of_class p q)).0 suited.1 in
      let n = (of-class p q t.0.target).0 t.2.1 in
      (stands-node p q).1 (n.0, n.1, n.2.0)

  abbrev noted_images : List ℕ
  noted_images = sorted (foldl (visited (node_keys q)) [] (matchings p d))

  noted : noted_images ≡ keep (member (images_of q (matchings p d))) (map (λ n. n.number) d.nodes)
  noted = images-noted s p d q sound rule.listed node-stands

  pub abstraction-noted : grouped_to K a b (sorted (foldl (visited (node_keys q)) [] (matchings p d))) d ≡ abstraction q K a b (matchings p d) d
  unfolding grouped_to abstraction
  abstraction-noted =
      ap (λ (images : List ℕ). new_nodes K (λ group now. grouped K b d group) (group_arms b) (groups d.edges a images) d) noted

  pub images-below : Below (2 ^ 16) (sorted (foldl (visited (node_keys q)) [] (matchings p d)))
  images-below = noted-below s p d q sound rule.listed node-stands

  pub images-few : length (sorted (foldl (visited (node_keys q)) [] (matchings p d))) ≤ Limits.nodes
  images-few =
      omega (
        arith,
        ap length noted,
        keep-length (member (images_of q (matchings p d))) (map (λ n. n.number) d.nodes),
        length-map d.nodes (λ n. n.number),
        ((listed-instance s d).0 sound.listed).graph.few-nodes,
      )
