-- The edges and the images of all matchings, as they are noted: joined as keys they are joined as triples, and where there is no room for one more
-- key, they are too many edges.
use Rattle.std.specs.Prelude.{ℕ, ◌/◌, ◌%◌, ◌^◌, ◌<◌, ◌≤◌, ◌≡◌, refl, Bool, true, false, ltb}
use Rattle.std.proofs.Common.{arith, ◌∙◌, ⊎_elim}
use Rattle.std.proofs.Math.Path.{ap, sym}
use mathlib.Core.List.{List, [], ◌∷◌, ◌++◌, map, map-map, foldl}
use Rattle.std.proofs.Math.ListN.{length}
use Rattle.std.proofs.lemmas.List.{length-map}
use borrow.Author.Tests.{lt-ltb, ltb-true, ltb-false}
use Rattle.lists.specs.Lists.{◌∈◌, each, ◌!◌}
use Rattle.lists.proofs.Laws.Lists.{both, all-members, in_map, in-each}
use Rattle.lists.proofs.Laws.Maps.{each_same, map_same, map_each}
use Rattle.model.specs.Limits
use Rattle.model.specs.Graph.{Triple, Scheme, Instance, Pattern, stands}
use Rattle.model.specs.Matching.{image, matchings}
use Rattle.model.specs.Operations.{add_edges, join_edges, images, edge_addition}
use Rattle.model.specs.Sound.{Sound, SoundRule, suits}
use Rattle.model.proofs.Laws.Graph.{stands-node, listed-instance, ListedInstance, listed-pattern}
use Rattle.model.proofs.Laws.Matchings.{image-node}
use Rattle.model.proofs.Laws.Sound.{permits-stand}
use Rattle.keys.specs.Keys.{keys_rise, join_key}
use Rattle.graph.specs.Packed.{unpack_triple, instance_of}
use Rattle.graph.proofs.Laws.Keys.{rising-triples, join-triple}
use Rattle.graph.proofs.Laws.Triples.{unpack-packed}
use Rattle.notes.specs.Notes.{most, note_all, sorted}
use Rattle.notes.specs.Visits.{edge_key, edge_keys, visited}
use Rattle.notes.specs.Laws.Noting.{join_all, in-sorted, sorted-rising, sorted-length, noted-most, noted-append, noted-from, noted-rising}
use Rattle.notes.specs.Laws.Noting.{joined-noted, joined-many, visits-flat}
use Rattle.edge_addition.specs.Joined.{SourcesIn, joined_to}

joined-triples : (es ks : List ℕ) → map unpack_triple (join_all es ks) ≡ join_edges (map unpack_triple ks) (map unpack_triple es)
joined-triples es [] = refl
joined-triples es (k ∷ ks) =
    joined-triples (join_key k es) ks ∙ ap (join_edges (map unpack_triple ks)) (join-triple k es)

module _ (s : Scheme) (p : Pattern) (nodes edges parts : List ℕ) (sound : Sound s (instance_of nodes edges))
    (rule : SoundRule s (record { pattern = p; action = add_edges (map unpack_triple parts) })) where
  abbrev d : Instance
  d = instance_of nodes edges

  abbrev ts : List Triple
  ts = map unpack_triple parts

  abbrev ms : List (List ℕ)
  ms = matchings p d

  abbrev keys : List ℕ
  keys = each ms (λ m. map (edge_key m) parts)

  listed : ListedInstance s d
  listed = (listed-instance s d).0 sound.listed

  rise : keys_rise edges ≡ true
  rise = sym (rising-triples edges) ∙ listed.graph.edges-rise

  few : length edges ≤ Limits.edges
  few = omega (arith, length-map edges unpack_triple, listed.graph.few-edges)

  -- # The images
  ends : (t : ℕ) → t ∈ parts → (stands p (t / 2 ^ 22) ≡ true) × (stands p (t % 2 ^ 16) ≡ true)
  unfolding suits
  ends t i =
      let r = simp (both, all-members) at rule.suited in
      permits-stand p s (unpack_triple t) (r.1 (unpack_triple t) ((in_map unpack_triple parts).1 (t, i, refl)))

  lands : (m : List ℕ) → m ∈ ms → (q : ℕ) → stands p q ≡ true → (stands d (m ! q) ≡ true) × (m ! q < 2 ^ 16)
  lands m i q h =
      let n = (stands-node p q).0 h in
      let f = image-node p d m ((listed-pattern s p).0 rule.listed) i n.1 in
      let e : f.0.number ≡ m ! q = f.2.0 ∙ ap (λ j. m ! j) n.2 in
      ((stands-node d (m ! q)).1 (f.0, f.1, e), omega (arith, (listed.within f.0 f.1).0))

  image-unpacked : (m : List ℕ) → m ∈ ms → (t : ℕ) → t ∈ parts → unpack_triple (edge_key m t) ≡ image m (unpack_triple t)
  image-unpacked m i t j =
      unpack-packed (m ! (t / 2 ^ 22)) (t / 2 ^ 16 % 2 ^ 6) (m ! (t % 2 ^ 16)) (omega arith) (lands m i (t % 2 ^ 16) (ends t j).1).1

  images-unpacked : map unpack_triple keys ≡ images ts ms
  images-unpacked =
      map_each unpack_triple ms (λ m. map (edge_key m) parts)
      ∙ each_same ms (λ m. map unpack_triple (map (edge_key m) parts)) (λ m. map (image m) ts) (λ m i.
      map-map unpack_triple (edge_key m) parts
      ∙ map_same (λ t. unpack_triple (edge_key m t)) (λ t. image m (unpack_triple t)) parts (image-unpacked m i)
      ∙ sym (map-map (image m) unpack_triple parts))

  union-unpacked : map unpack_triple (join_all edges keys) ≡ join_edges (images ts ms) d.edges
  union-unpacked = joined-triples edges keys ∙ ap (λ new. join_edges new d.edges) images-unpacked

  union-length : length (join_edges (images ts ms) d.edges) ≡ length (join_all edges keys)
  union-length = ap length (sym union-unpacked) ∙ length-map (join_all edges keys) unpack_triple

  -- # What is noted
  abbrev log : List ℕ
  log = foldl (visited (edge_keys parts)) (note_all [] edges) ms

  log-flat : log ≡ note_all edges keys
  log-flat = visits-flat (edge_keys parts) (note_all [] edges) ms ∙ ap (λ l. note_all l keys) (noted-rising edges rise (omega (arith, few)))

  -- with room, the keys are joined
  log-joined : length (note_all edges keys) < most → sorted log ≡ join_all edges keys
  log-joined h = ap sorted log-flat ∙ joined-noted edges keys h ∙ ap (λ l. join_all l keys) (sorted-rising edges rise)

  -- without, there are as many as are noted at most
  log-full : length (note_all edges keys) ≡ most → length (sorted log) ≡ most
  log-full h =
      let e : note_all [] (edges ++ keys) ≡ note_all edges keys =
      noted-append [] edges keys ∙ ap (λ l. note_all l keys) (noted-rising edges rise (omega (arith, few))) in
      ap (λ l. length (sorted l)) (log-flat ∙ sym e) ∙ sorted-length (edges ++ keys) ∙ ap length e ∙ h

  joined_same : (ks : List ℕ) → map unpack_triple ks ≡ join_edges (images ts ms) d.edges → joined_to s ks d ≡ edge_addition s ts ms d
  unfolding joined_to edge_addition
  joined_same ks e =
      let l : length ks ≡ length (join_edges (images ts ms) d.edges) = sym (length-map ks unpack_triple) ∙ ap length e in
      rw (l, e)

  both-full : length (sorted log) ≡ most → most ≤ length (join_all edges keys) → joined_to s (sorted log) d ≡ edge_addition s ts ms d
  unfolding joined_to edge_addition
  both-full h k =
      let l : Limits.edges < length (join_edges (images ts ms) d.edges) = omega (arith, union-length) in
      rw (lt-ltb Limits.edges (length (sorted log)) (omega arith), lt-ltb Limits.edges (length (join_edges (images ts ms) d.edges)) l)

  pub edge-addition-noted :
      joined_to s (sorted (foldl (visited (edge_keys parts)) (note_all [] edges) (matchings p (instance_of nodes edges)))) (instance_of nodes edges)
      ≡ edge_addition s (map unpack_triple parts) (matchings p (instance_of nodes edges)) (instance_of nodes edges)
  edge-addition-noted = go (ltb (length (note_all edges keys)) most) refl
    where
      go : (t : Bool) → ltb (length (note_all edges keys)) most ≡ t → joined_to s (sorted log) d ≡ edge_addition s ts ms d
      go true t = joined_same (sorted log) (ap (map unpack_triple) (log-joined (ltb-true (length (note_all edges keys)) most t)) ∙ union-unpacked)
      go false t =
          let l : most ≤ length (note_all edges keys) = ltb-false (length (note_all edges keys)) most t in
          let full : length (note_all edges keys) ≡ most = omega (arith, noted-most edges keys (omega (arith, few))) in
          both-full (log-full full) (joined-many edges keys rise full)

  -- the sources of what is noted stand
  pub noted-sources :
      SourcesIn (instance_of nodes edges) (sorted (foldl (visited (edge_keys parts)) (note_all [] edges) (matchings p (instance_of nodes edges))))
  noted-sources k i =
      ⊎_elim
      (λ j. (listed.graph.ends (unpack_triple k) ((in_map unpack_triple edges).1 (k, j, refl))).0)
      (λ j.
      let m = (in-each ms (λ m. map (edge_key m) parts)).0 j in
      let t = (in_map (edge_key m.0) parts).0 m.2 in
      let source : k / 2 ^ 22 ≡ m.0 ! (t.0 / 2 ^ 22) =
      ap (λ (n : ℕ). n / 2 ^ 22) t.2 ∙ ap (λ (e : Triple). e.source) (image-unpacked m.0 m.1 t.0 t.1) in
      rw source (lands m.0 m.1 (t.0 / 2 ^ 22) (ends t.0 t.1).0).0)
      (noted-from edges keys k (rw log-flat at ((in-sorted log k).0 i)))
