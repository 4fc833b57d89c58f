-- A new node with its edges, in the arrays of an instance: its number is above all others, so its key stands last, and its edges after the others.
use Rattle.std.specs.Prelude.{ℕ, ◌+◌, ◌-◌, ◌*◌, ◌/◌, ◌%◌, ◌^◌, ◌<◌, ◌≤◌, ◌≡◌, Bool, take, set, ltb, leb, Ok, Err}
use Rattle.std.proofs.Common.{arith, add-one, ap, ap₂, ◌∙◌, ⊎_elim}
use Rattle.std.proofs.Math.Path.{refl, sym}
use Rattle.std.proofs.Math.Bool.{true, false, cond}
use mathlib.Core.List.Memᴰ
use mathlib.Core.List.{List, [], ◌∷◌, ◌++◌, map, map-append, map-map}
use Rattle.std.proofs.Math.ListN.{length, length-map}
use Rattle.std.proofs.Math.Seq.{length-take-le, paste, paste-suc}
use borrow.Author.Tests.{lt-ltb, ltb-false, leb-false}
use Rattle.lists.specs.Lists.{◌∈◌, Below, ◌!◌}
use Rattle.lists.proofs.Laws.Lists.{in-append, in_map}
use Rattle.lists.proofs.Laws.Maps.{map_same}
use Rattle.lists.proofs.Laws.OneMore.{stored_last}
use Rattle.lists.proofs.Laws.Order.{rising-append}
use Rattle.lists.proofs.Laws.Places.{at_place, map_at}
use Rattle.model.specs.Limits
use Rattle.model.specs.Graph.{Node, Instance}
use Rattle.model.specs.Operations.{next_number, with_node}
use Rattle.model.specs.Meaning.{edge_at}
use Rattle.model.specs.Refusals.{accepted, refused}
use Rattle.model.proofs.Laws.NewNodes.{below_next, grown}
use Rattle.model.specs.declared.Refusal.{Refusal}
use Rattle.model.specs.declared.Refusal.TheVariants.{NodesFull, NumbersFull, EdgesFull}
use Rattle.keys.specs.Keys.{keys_rise}
use Rattle.keys.specs.Laws.Keys.{rise-cons}
use Rattle.graph.specs.Packed.{unpack_node, unpack_triple, unpack_arm, unpack_instance, triple}
use Rattle.lists.proofs.Laws.Order.{before-number}
use Rattle.growth.specs.Growth.{verdict_for, judged, Addable, Grows}
use Rattle.graph.specs.declared.instance.PackedInstance.{PackedInstance}

-- # The new number
pub next-none : (nodes : List ℕ) → length nodes ≡ 0 → 0 ≡ next_number (map unpack_node nodes)
next-none [] h = refl
next-none (x ∷ nodes) h = absurd (omega arith)

last-number : (x : ℕ) (ks : List ℕ) → keys_rise (x ∷ ks) ≡ true → (x ∷ ks) ! length ks / 2 ^ 38 + 1 ≡ next_number (map unpack_node (x ∷ ks))
last-number x [] h = omega arith
last-number x (y ∷ ks) h =
    let r = (rise-cons x (y ∷ ks)).0 h in
    let l : x < y = r.0 y (Memᴰ.head refl) in
    let b : y / 2 ^ 38 < next_number (map unpack_node (y ∷ ks)) = below_next (map unpack_node (y ∷ ks)) (unpack_node y) (Memᴰ.head refl) in
    let e : (y ∷ ks) ! length ks / 2 ^ 38 + 1 ≡ next_number (map unpack_node (y ∷ ks)) = last-number y ks r.1 in
    omega (arith, b, e)

pub next_last : (nodes : List ℕ) → keys_rise nodes ≡ true → (length nodes ≡ 0 → ⊥)
    → nodes ! (length nodes - 1) / 2 ^ 38 + 1 ≡ next_number (map unpack_node nodes)
next_last [] h k = absurd (k refl)
next_last (x ∷ ks) h k = let e : length (x ∷ ks) - 1 ≡ length ks = omega arith in rw e (last-number x ks h)

-- # Keys put into an array from a place on
pub record Put (keys : List ℕ) (from : ℕ) (before : List ℕ) (i : ℕ) (now : List ℕ) : Type 0 where
  pub few : i ≤ length keys
  pub room : from + length keys ≤ length before
  pub put : now ≡ paste before from keys i

pub put-more : (keys : List ℕ) (from : ℕ) (before : List ℕ) (i : ℕ) (now : List ℕ) → Put keys from before i now → i < length keys
    → Put keys from before (i + 1) (set now (from + i) (keys ! i))
put-more keys from before i now h l =
    record { few = omega arith; room = h.room; put = rw (h.put, add-one) (paste-suc before from keys i 0 (omega (arith, h.room)) l) }

-- the edges of a new node, by its arms
abbrev edge_from : (number : ℕ) → (arm : ℕ) → ℕ
edge_from number a = number * 2 ^ 22 + a

module _ (edges : List ℕ) (size number : ℕ) (arms : List ℕ) where
  abbrev pub PutEdges : (i : ℕ) → (now : List ℕ) → Type 0
  PutEdges = Put (map (edge_from number) arms) size edges

  module _ (i : ℕ) (now : List ℕ) (h : PutEdges i now) where
    pub edges_more : i < length arms → PutEdges (i + 1) (set now (size + i) (number * 2 ^ 22 + arms ! i))
    edges_more l =
        rw (← map_at (edge_from number) arms i l) (put-more (map (edge_from number) arms) size edges i now h (rw length-map l))

    pub edge-key : number < 2 ^ 16 → Below (2 ^ 22) arms → i < length arms → number * 2 ^ 22 + arms ! i < 2 ^ 64
    edge-key b c l = omega (arith, c (arms ! i) (at_place arms i 0 l))

-- # The new node
-- a verdict that there is room says so
roomy : (order number size : ℕ) → verdict_for order number size ≡ Ok tt → (order < Limits.nodes) × (number ≤ Limits.last_number) × (size ≤ Limits.edges)
unfolding verdict_for
roomy order number size h = go (leb Limits.nodes order) (ltb Limits.last_number number) (ltb Limits.edges size) refl refl refl h
  where
    go : (a b c : Bool) → leb Limits.nodes order ≡ a → ltb Limits.last_number number ≡ b → ltb Limits.edges size ≡ c
        → cond a (Err NodesFull) (cond b (Err NumbersFull) (cond c (Err EdgesFull) (Ok (tt {0})))) ≡ Ok (tt {0})
        → (order < Limits.nodes) × (number ≤ Limits.last_number) × (size ≤ Limits.edges)
    go true b c p q r e = cc
    go false true c p q r e = cc
    go false false true p q r e = cc
    go false false false p q r e =
        (leb-false Limits.nodes order p, ltb-false Limits.last_number number q, ltb-false Limits.edges size r)

edge-unpacked : (number : ℕ) (a : ℕ) → a < 2 ^ 22 → unpack_triple (edge_from number a) ≡ edge_at number (unpack_arm a)
edge-unpacked number a h =
    let source : edge_from number a / 2 ^ 22 ≡ number = omega arith in
    let name : edge_from number a / 2 ^ 16 % 2 ^ 6 ≡ a / 2 ^ 16 = omega arith in
    let target : edge_from number a % 2 ^ 16 ≡ a % 2 ^ 16 = omega arith in
    ap₂ (λ s n. triple s n (edge_from number a % 2 ^ 16)) source name ∙ ap (triple number (a / 2 ^ 16)) target

node-unpacked : (number class : ℕ) → class < 2 ^ 6
    → unpack_node (number * 2 ^ 38 + class * 2 ^ 32) ≡ record { number = number; class = class; value = 0 }
node-unpacked number class h =
    let k = number * 2 ^ 38 + class * 2 ^ 32 in
    let n : k / 2 ^ 38 ≡ number = omega arith in
    let c : k / 2 ^ 32 % 2 ^ 6 ≡ class = omega arith in
    let v : k % 2 ^ 32 ≡ 0 = omega arith in
    ap₂ (made (k % 2 ^ 32)) n c ∙ ap (λ x. made x number class) v
  where
    made : (value number class : ℕ) → Node ℕ
    made value number class = record { number = number; class = class; value = value }

module _ (d : PackedInstance) (class : ℕ) (arms : List ℕ) (addable : Addable d)
    (node_room : length d.nodes ≡ Limits.nodes) (edge_room : length d.edges ≡ Limits.edges) where
  abbrev old : Instance
  old = unpack_instance d

  abbrev front : List ℕ
  front = take d.order d.nodes

  abbrev total : ℕ
  total = d.size + length arms

  pub nodes-inside : d.order ≤ length d.nodes
  nodes-inside = omega (arith, addable.few_nodes, node_room)

  pub nodes-part : d.order ≡ length (take d.order d.nodes)
  nodes-part = sym (length-take-le d.order d.nodes nodes-inside)

  -- what is made of the old instance, by the verdict on its counts
  judged-grown : judged (verdict_for d.order (next_number (map unpack_node front)) total) (grown class (map unpack_arm arms) old)
      ≡ with_node class (map unpack_arm arms) old
  unfolding verdict_for with_node unpack_instance
  judged-grown =
      let o : length (map unpack_node front) ≡ d.order = length-map front unpack_node ∙ sym nodes-part in
      let s : length (map unpack_triple (take d.size d.edges)) ≡ d.size =
      length-map (take d.size d.edges) unpack_triple ∙ length-take-le d.size d.edges (omega (arith, addable.few_edges, edge_room)) in
      let a : length (map (edge_at (next_number (map unpack_node front))) (map unpack_arm arms)) ≡ length arms =
      length-map (map unpack_arm arms) (edge_at (next_number (map unpack_node front))) ∙ length-map arms unpack_arm in
      rw (o, s, a)
      (go (leb Limits.nodes d.order) (ltb Limits.last_number (next_number (map unpack_node front))) (ltb Limits.edges (d.size + length arms)))
    where
      go : (a b c : Bool)
          → judged (cond a (Err NodesFull) (cond b (Err NumbersFull) (cond c (Err EdgesFull) (Ok (tt {0})))))
          (grown class (map unpack_arm arms) old)
          ≡ cond a (refused NodesFull) (cond b (refused NumbersFull) (cond c (refused EdgesFull) (accepted (grown class (map unpack_arm arms) old))))
      go true b c = refl
      go false true c = refl
      go false false true = refl
      go false false false = refl

  module _ (number : ℕ) (next : number ≡ next_number (map unpack_node front)) where
    pub grows-refused : (r : Refusal) → Err r ≡ verdict_for d.order number total → Grows d class arms (Err r) d
    grows-refused r e =
        record {
          outcome =
              ap (λ w. judged w (grown class (map unpack_arm arms) old)) (e ∙ ap (λ n. verdict_for d.order n total) next)
              ∙ judged-grown;
          addable = addable;
        }

    module _ (done : Ok tt ≡ verdict_for d.order number total) where
      room : (d.order < Limits.nodes) × (number ≤ Limits.last_number) × (total ≤ Limits.edges)
      room = roomy d.order number total (sym done)

      pub node-within : d.order < length d.nodes
      node-within = omega (arith, room.0, node_room)

      pub number-below : number < 2 ^ 16
      number-below = omega (arith, room.1)

      pub number_fits : number * 2 ^ 38 < 2 ^ 64
      number_fits = omega (arith, number-below)

      pub key_fits : class < 2 ^ 6 → number * 2 ^ 38 + class * 2 ^ 32 < 2 ^ 64
      key_fits h = omega (arith, number-below)

      pub edges_fit : d.size + length arms ≤ length d.edges
      edges_fit = omega (arith, room.2, edge_room)

      module _ (in_classes : class < 2 ^ 6) (small : Below (2 ^ 22) arms) (edges' : List ℕ)
          (put : take (d.size + length arms) edges' ≡ take d.size d.edges ++ map (λ a. number * 2 ^ 22 + a) arms)
          (long : length edges' ≡ length d.edges) where
        abbrev key : ℕ
        key = number * 2 ^ 38 + class * 2 ^ 32

        abbrev nodes' : List ℕ
        nodes' = set d.nodes d.order key

        abbrev d' : PackedInstance
        d' = record { nodes = nodes'; order = d.order + 1; edges = edges'; size = d.size + length arms }

        one_more : take (d.order + 1) nodes' ≡ front ++ (key ∷ [])
        one_more = stored_last d.nodes d.order key node-within

        key_above : (k : ℕ) → k ∈ front → k < key
        key_above k i =
            let b : k / 2 ^ 38 < next_number (map unpack_node front) =
            below_next (map unpack_node front) (unpack_node k) ((in_map unpack_node front).1 (k, i, refl)) in
            omega (arith, next)

        held_grown : unpack_instance d' ≡ grown class (map unpack_arm arms) old
        unfolding unpack_instance
        held_grown =
            let nodes_grown : map unpack_node (take (d.order + 1) nodes') ≡ (grown class (map unpack_arm arms) old).nodes =
            ap (map unpack_node) one_more ∙ map-append unpack_node front (key ∷ [])
            ∙ ap (λ n. map unpack_node front ++ (n ∷ [])) (node-unpacked number class in_classes ∙ ap (λ n. new_node n) next) in
            let edges_grown : map unpack_triple (take (d.size + length arms) edges') ≡ (grown class (map unpack_arm arms) old).edges =
            ap (map unpack_triple) put ∙ map-append unpack_triple (take d.size d.edges) (map (edge_from number) arms)
            ∙ ap (λ l. map unpack_triple (take d.size d.edges) ++ l)
            (map-map unpack_triple (edge_from number) arms
            ∙ map_same (λ a. unpack_triple (edge_from number a)) (λ a. edge_at number (unpack_arm a)) arms (λ a i. edge-unpacked number a (small a i))
            ∙ sym (map-map (edge_at number) unpack_arm arms)
            ∙ ap (λ n. map (edge_at n) (map unpack_arm arms)) next) in
            ap₂ {C = Instance} (λ ns es. record { nodes = ns; edges = es }) nodes_grown edges_grown
          where
            new_node : ℕ → Node ℕ
            new_node n = record { number = n; class = class; value = 0 }

        rises-on : keys_rise (front ++ (key ∷ [])) ≡ true
        unfolding keys_rise
        rises-on =
            rw map-append ((rising-append (map (λ k. k ∷ []) front) ((key ∷ []) ∷ [])).1 (
              addable.nodes_rise,
              refl,
              λ x y i j.
                  let r = (in_map (λ k. k ∷ []) front).0 i in
                  rw (r.2, Memᴰ.eq_of_singleton j, before-number) (lt-ltb r.0 key (key_above r.0 r.1)),
            ))

        grows-on : Addable d'
        grows-on =
            record {
              few_nodes = omega (arith, room.0);
              few_edges = room.2;
              nodes_rise = rw one_more rises-on;
              nodes_below = λ k i.
                  ⊎_elim (addable.nodes_below k) (λ j. let e : k ≡ key = Memᴰ.eq_of_singleton j in omega (arith, room.1))
                  ((in-append front (key ∷ [])).0 (rw one_more at i));
            }

        pub grows-done : Grows d class arms (Ok tt) d'
        grows-done =
            record {
              outcome =
                  ap accepted held_grown
                  ∙ ap (λ w. judged w (grown class (map unpack_arm arms) old)) (done ∙ ap (λ n. verdict_for d.order n total) next)
                  ∙ judged-grown;
              addable = grows-on;
            }
