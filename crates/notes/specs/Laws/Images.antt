-- The images of a pattern node, and of the pattern's own edges, as they are noted: all of them, since they are nodes and edges of the instance and
-- there is room for as many.
use Rattle.std.specs.Prelude.{ℕ, ◌%◌, ◌^◌, ◌<◌, ◌≡◌, refl, ◌↔◌, Bool, true}
use Rattle.std.proofs.Common.{arith, ◌∙◌, sym, subst, inr, ⊎_elim}
use Rattle.std.proofs.Math.Path.{ap}
use mathlib.Core.List.Memᴰ
use mathlib.Core.List.{List, [], ◌∷◌, map, map-map, foldl}
use Rattle.std.proofs.Math.ListN.{length, length-map}
use Rattle.lists.specs.Lists.{◌∈◌, all, keep, each, member, ◌!◌, Below}
use Rattle.lists.proofs.Laws.Lists.{all-members, in-keep, in_map, in-each, in-numbers, in_count, same_truth}
use Rattle.lists.proofs.Laws.Maps.{each_same}
use Rattle.model.specs.Graph.{Triple, Scheme, Instance, Pattern, stands, has, nodes_rise, pattern_listed}
use Rattle.model.specs.Matching.{image, matchings}
use Rattle.model.specs.Operations.{images, images_of}
use Rattle.model.specs.Sound.{Sound}
use Rattle.model.proofs.Laws.Graph.{has-edge, stands-node, listed-instance, listed-pattern}
use Rattle.model.proofs.Laws.Matchings.{in-matchings, image-node}
use Rattle.model.proofs.Laws.Images.{in-images}
use Rattle.keys.specs.Keys.{keys_rise}
use Rattle.keys.specs.Laws.Keys.{keep-rises}
use Rattle.graph.specs.Packed.{unpack_triple, pack_triple}
use Rattle.graph.proofs.Laws.Triples.{packed-unpack}
use Rattle.notes.specs.Notes.{most, note_all, sorted}
use Rattle.notes.specs.Visits.{edge_key, edge_keys, node_keys, visited}
use Rattle.notes.specs.Laws.Noting.{sorted-as, sorted-member, same-member, in-noted, noted-few, visits-flat}

-- keys among few enough are all noted
all_noted : (among ks : List ℕ) → length among < most → ((k : ℕ) → k ∈ ks → k ∈ among) → (k : ℕ) → (k ∈ note_all [] ks) ↔ (k ∈ ks)
all_noted among ks l f k =
    let r = in-noted [] ks (omega (arith, noted-few among ks f)) k in
    ((λ h. ⊎_elim (λ i. absurd (Memᴰ.not-nil i)) (λ i. i) (r.0 h)), λ h. r.1 (inr h))

each-one : {A B : Type 0} (f : A → B) (xs : List A) → each xs (λ x. f x ∷ []) ≡ map f xs
each-one f [] = refl
each-one f (x ∷ xs) = ap (λ l. f x ∷ l) (each-one f xs)

numbers-rise : (d : Instance) → nodes_rise d ≡ true → keys_rise (map (λ n. n.number) d.nodes) ≡ true
unfolding keys_rise
numbers-rise d h = rw map-map h

node-keys : (q : ℕ) → q < 2 ^ 16 → (m : List ℕ) → node_keys q m ≡ m ! q ∷ []
node-keys q l m = let e : q % 2 ^ 16 ≡ q = omega arith in rw e refl

-- of triples that are kept as keys, a key tells which it is
key-determines : (ts : List Triple) (keys : List ℕ) → ts ≡ map unpack_triple keys
    → (t u : Triple) → t ∈ ts → u ∈ ts → pack_triple t ≡ pack_triple u → t ≡ u
key-determines ts keys stored t u i j e =
    let a = (in_map unpack_triple keys).0 (rw stored at i) in
    let b = (in_map unpack_triple keys).0 (rw stored at j) in
    let same : a.0 ≡ b.0 = packed-unpack a.0 ∙ ap pack_triple (sym a.2) ∙ e ∙ ap pack_triple b.2 ∙ sym (packed-unpack b.0) in
    a.2 ∙ ap unpack_triple same ∙ sym b.2

module _ (s : Scheme) (p : Pattern) (d : Instance) where
  abbrev ms : List (List ℕ)
  ms = matchings p d

  -- # The images of a pattern node
  module _ (q : ℕ) (sound : Sound s d) (listed : pattern_listed s p ≡ true) (there : stands p q ≡ true) where
    abbrev numbers : List ℕ
    numbers = map (λ n. n.number) d.nodes

    place-low : q < 2 ^ 16
    place-low =
        let l = (listed-pattern s p).0 listed in
        let n = (stands-node p q).0 there in
        let i : q ∈ map (λ n. n.number) p.nodes = (in_map (λ n. n.number) p.nodes).1 (n.0, n.1, sym n.2) in
        omega (arith, l.graph.few-nodes, ((in_count 0 (length p.nodes) q).0 (rw l.numbered at i)).1)

    image-number : (k : ℕ) → k ∈ images_of q ms → k ∈ numbers
    image-number k i =
        let m = (in_map (λ m. m ! q) ms).0 i in
        let n = (stands-node p q).0 there in
        let f = image-node p d m.0 ((listed-pattern s p).0 listed) m.1 n.1 in
        (in_map (λ n. n.number) d.nodes).1 (f.0, f.1, m.2 ∙ ap (λ j. m.0 ! j) (sym n.2) ∙ sym f.2.0)

    noted-images : foldl (visited (node_keys q)) [] ms ≡ note_all [] (images_of q ms)
    noted-images =
        visits-flat (node_keys q) [] ms
        ∙ ap (note_all []) (each_same ms (node_keys q) (λ m. m ! q ∷ []) (λ m i. node-keys q place-low m) ∙ each-one (λ m. m ! q) ms)

    in-noted-images : (k : ℕ) → (k ∈ note_all [] (images_of q ms)) ↔ (k ∈ images_of q ms)
    in-noted-images =
        all_noted numbers (images_of q ms)
        (omega (arith, length-map d.nodes (λ n. n.number), ((listed-instance s d).0 sound.listed).graph.few-nodes)) image-number

    -- a number is noted exactly if it is an image
    pub image-noted : (k : ℕ) → member (sorted (foldl (visited (node_keys q)) [] (matchings p d))) k ≡ member (images_of q (matchings p d)) k
    image-noted k =
        sorted-member (foldl (visited (node_keys q)) [] ms) k
        ∙ ap (λ l. member l k) noted-images
        ∙ same-member (note_all [] (images_of q ms)) (images_of q ms) k (in-noted-images k)

    pub images-noted :
        sorted (foldl (visited (node_keys q)) [] (matchings p d))
        ≡ keep (member (images_of q (matchings p d))) (map (λ n. n.number) d.nodes)
    images-noted =
        let image : ℕ → Bool = member (images_of q ms) in
        ap sorted noted-images
        ∙ sorted-as (note_all [] (images_of q ms)) (keep image numbers)
        (keep-rises image numbers (numbers-rise d ((listed-instance s d).0 sound.listed).graph.nodes-rise))
        (λ k. (
          (λ i. let j = (in-noted-images k).0 i in (in-keep image numbers).1 (image-number k j, (in-numbers (images_of q ms) k).1 j)),
          λ i. (in-noted-images k).1 ((in-numbers (images_of q ms) k).0 ((in-keep image numbers).0 i).1),
        ))

    pub noted-below : Below (2 ^ 16) (sorted (foldl (visited (node_keys q)) [] (matchings p d)))
    noted-below k i =
        let j = ((in-keep _ numbers).0 (subst (λ (l : List ℕ). k ∈ l) images-noted i)).0 in
        let n = (in_map (λ n. n.number) d.nodes).0 j in
        let e : k ≡ n.0.number = n.2 in
        omega (arith, (((listed-instance s d).0 sound.listed).within n.0 n.1).0)

  -- # The images of the pattern's own edges
  module _ (parts : List ℕ) (sound : Sound s d) (own : all (has p.edges) (map unpack_triple parts) ≡ true) where
    abbrev keys : List ℕ
    keys = each ms (edge_keys parts)

    lands : (m : List ℕ) → m ∈ ms → (t : ℕ) → t ∈ parts → image m (unpack_triple t) ∈ d.edges
    lands m i t j =
        let k = (all-members (has p.edges) (map unpack_triple parts)).0 own (unpack_triple t) ((in_map unpack_triple parts).1 (t, j, refl)) in
        ((in-matchings p d m).0 i).lands (unpack_triple t) ((has-edge p.edges (unpack_triple t)).0 k)

    key-of-edge : (k : ℕ) → k ∈ keys → k ∈ map pack_triple d.edges
    key-of-edge k i =
        let m = (in-each ms (edge_keys parts)).0 i in
        let t = (in_map (edge_key m.0) parts).0 m.2 in
        (in_map pack_triple d.edges).1 (image m.0 (unpack_triple t.0), lands m.0 m.1 t.0 t.1, t.2)

    edges-noted : (k : ℕ)
        → member (sorted (foldl (visited (edge_keys parts)) [] (matchings p d))) k ≡ member (each (matchings p d) (edge_keys parts)) k
    edges-noted k =
        let few : length (map pack_triple d.edges) < most =
        omega (arith, length-map d.edges pack_triple, ((listed-instance s d).0 sound.listed).graph.few-edges) in
        sorted-member (foldl (visited (edge_keys parts)) [] ms) k
        ∙ ap (λ l. member l k) (visits-flat (edge_keys parts) [] ms)
        ∙ same-member (note_all [] keys) keys k (all_noted (map pack_triple d.edges) keys few key-of-edge k)

    -- an edge's key is noted exactly if the edge is an image
    pub edge-noted : (edges : List ℕ) → d.edges ≡ map unpack_triple edges → (e : Triple) → e ∈ d.edges
        → member (sorted (foldl (visited (edge_keys parts)) [] (matchings p d))) (pack_triple e) ≡ has (images (map unpack_triple parts) (matchings p d)) e
    edge-noted edges stored e there =
        edges-noted (pack_triple e)
        ∙ same_truth (member keys (pack_triple e)) (has (images (map unpack_triple parts) ms) e) (
          (λ h.
              let m = (in-each ms (edge_keys parts)).0 ((in-numbers keys (pack_triple e)).0 h) in
              let t = (in_map (edge_key m.0) parts).0 m.2 in
              (has-edge (images (map unpack_triple parts) ms) e).1
              ((in-images (map unpack_triple parts) ms e).1 (
                m.0,
                m.1,
                (
                  unpack_triple t.0,
                  (in_map unpack_triple parts).1 (t.0, t.1, refl),
                  key-determines d.edges edges stored e (image m.0 (unpack_triple t.0)) there (lands m.0 m.1 t.0 t.1) t.2,
                ),
              ))),
          λ h.
              let m = (in-images (map unpack_triple parts) ms e).0 ((has-edge (images (map unpack_triple parts) ms) e).0 h) in
              let t = (in_map unpack_triple parts).0 m.2.1 in
              (in-numbers keys (pack_triple e)).1
              ((in-each ms (edge_keys parts)).1 (
                m.0,
                m.1,
                (in_map (edge_key m.0) parts).1 (
                  t.0,
                  t.1,
                  ap pack_triple m.2.2 ∙ ap (λ u. pack_triple (image m.0 u)) t.2,
                ),
              )),
        )
