-- Keys of triples and of nodes: they rise as what they stand for does, a key is joined as its triple is, and a node is found by its number.
-- By the order of packed triples, and by where the least key of a number stands.
use Rattle.std.specs.Prelude.{ℕ, ◌*◌, ◌/◌, ◌^◌, ◌<◌, ◌≡◌, refl, Bool, true, false, cond, List, [], ◌∷◌, map, length, eqb, ltb, None, Some, option_map}
use Rattle.std.specs.Bool.{then_some}
use Rattle.std.proofs.Common.{arith, ap, ◌∙◌, sym, ltb-true, lt-ltb, eq-eqb, ne_eqb, eqb-true}
use Rattle.std.proofs.lemmas.Simd.{map-map}
use Rattle.lists.specs.Lists.{find, ◌!◌}
use Rattle.lists.specs.Order.{before, rising}
use Rattle.lists.proofs.Laws.Lists.{same_truth, in_map, finds-none}
use Rattle.lists.proofs.Laws.Order.{before-number, rising-map-by}
use Rattle.model.specs.Graph.{Triple, Node, row}
use Rattle.model.specs.Operations.{join_edge}
use Rattle.keys.specs.Keys.{keys_rise, place_of, join_key}
use Rattle.keys.specs.Laws.Keys.{Stands, here, later, first-of-run, placed}
use Rattle.graph.specs.Packed.{unpack_triple, unpack_node}
use Rattle.graph.proofs.Laws.Triples.{triple-same, triple-order}

-- # Keys that rise
pub rising-triples : (ks : List ℕ) → rising (map row (map unpack_triple ks)) ≡ keys_rise ks
unfolding keys_rise
rising-triples ks =
    let order : (a b : ℕ) → before (row (unpack_triple a)) (row (unpack_triple b)) ≡ before (a ∷ []) (b ∷ []) =
    λ a b. triple-order a b ∙ sym (before-number a b) in
    ap rising (map-map row unpack_triple ks)
    ∙ same_truth (rising (map (λ k. row (unpack_triple k)) ks)) (rising (map (λ k. k ∷ []) ks)) (
      rising-map-by (λ k. row (unpack_triple k)) (λ k. k ∷ []) (λ a b h. sym (order a b) ∙ h) ks,
      rising-map-by (λ k. k ∷ []) (λ k. row (unpack_triple k)) (λ a b h. order a b ∙ h) ks,
    )

-- numbers that rise make keys that rise
pub rising-numbers : (ks : List ℕ) → rising (map (λ n. n.number ∷ []) (map unpack_node ks)) ≡ true → keys_rise ks ≡ true
unfolding keys_rise
rising-numbers ks h =
    rising-map-by (λ k. (k / 2 ^ 38) ∷ []) (λ k. k ∷ [])
    (λ a b l. let m : a / 2 ^ 38 < b / 2 ^ 38 = ltb-true _ _ (rw before-number at l) in rw before-number (lt-ltb a b (omega arith)))
    ks
    (rw map-map at h)

-- # Joining a triple
pub join-triple : (k : ℕ) (ks : List ℕ) → map unpack_triple (join_key k ks) ≡ join_edge (unpack_triple k) (map unpack_triple ks)
unfolding join_key
join-triple k [] = refl
join-triple k (x ∷ ks) = rw (triple-order k x, triple-same k x) (go (ltb k x) (eqb k x) (join-triple k ks))
  where
    go : (t e : Bool) → map unpack_triple (join_key k ks) ≡ join_edge (unpack_triple k) (map unpack_triple ks)
        → map unpack_triple (cond t (k ∷ x ∷ ks) (cond e (x ∷ ks) (x ∷ join_key k ks)))
        ≡ cond t (map unpack_triple (k ∷ x ∷ ks)) (cond e (map unpack_triple (x ∷ ks)) (unpack_triple x ∷ join_edge (unpack_triple k) (map unpack_triple ks)))
    go true e more = refl
    go false true more = refl
    go false false more = ap (λ (l : List Triple). unpack_triple x ∷ l) more

-- # The node of a number
-- of nodes that have the number, the first stands where the least key with that number would stand
module _ (number : ℕ) where
  abbrev least : ℕ
  least = number * 2 ^ 38

  abbrev numbered : Node ℕ → Bool
  numbered n = eqb n.number number

  first-numbered : {ks : List ℕ} {n : ℕ} → Stands least ks n → n < length ks → (ks ! n) / 2 ^ 38 ≡ number
      → Some (unpack_node (ks ! n)) ≡ find numbered (map unpack_node ks)
  first-numbered (here [] a r) l e = absurd (omega arith)
  first-numbered (here (x ∷ ks) a r) l e = rw (eq-eqb (x / 2 ^ 38) number e)
  first-numbered (later {x} b s) l e = rw (ne_eqb (x / 2 ^ 38) number (omega arith)) (first-numbered s (omega arith) e)

  module _ (ks : List ℕ) (rise : rising (map (λ n. n.number ∷ []) (map unpack_node ks)) ≡ true) (at : ℕ) (place : at ≡ place_of least ks) where
    least-placed : Stands least ks at
    least-placed = placed ks least (rising-numbers ks rise) at place

    pub node-found : at < length ks → (ks ! at) / 2 ^ 38 ≡ number → Some (unpack_node (ks ! at)) ≡ find numbered (map unpack_node ks)
    node-found = first-numbered least-placed

    pub node-missed : (at < length ks → (ks ! at) / 2 ^ 38 ≡ number → ⊥) → None ≡ find numbered (map unpack_node ks)
    node-missed h =
        sym ((finds-none numbered (map unpack_node ks)).1 (λ n i.
        let m = (in_map unpack_node ks).0 i in
        ap numbered m.2
        ∙ ne_eqb (m.0 / 2 ^ 38) number (λ e.
        let r = first-of-run (λ k. k / 2 ^ 38 ≡ number) (λ k q. omega arith) (λ j k u v q. omega arith) least-placed m.0 m.1 e in
        h r.0 r.1)))

    -- the key there, tested
    pub node-tested : at < length ks → {node : ℕ} → node ≡ ks ! at
        → option_map unpack_node (then_some (eqb (node / 2 ^ 38) number) node) ≡ find numbered (map unpack_node ks)
    node-tested l e = rw e (go (eqb ((ks ! at) / 2 ^ 38) number) refl)
      where
        go : (t : Bool) → eqb ((ks ! at) / 2 ^ 38) number ≡ t → option_map unpack_node (then_some t (ks ! at)) ≡ find numbered (map unpack_node ks)
        go true q = node-found l (eqb-true _ _ q)
        go false q = node-missed (λ _ p. absurd (cc (q, eq-eqb _ _ p)))
