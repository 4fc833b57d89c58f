-- The keys that nodes serve: a node has the edges of arms exactly if their key is its own.
-- A functional name has one target, so that the first one is the only one; the other way, a key gives the arms back.
use Prim.Native.Nat.{ℕ, ◌+◌, ◌*◌, ◌/◌, ◌%◌, ◌^◌, ◌<◌, ◌≤◌}
use Rattle.std.proofs.Common.{le_refl, arith, ap₂, ◌∙◌, true≢false, length-append}
use Rattle.std.proofs.Math.Path.{◌≡◌, refl, ap, sym, subst}
use Rattle.std.specs.Prelude.{◌↔◌, Bool, true, false, length, eqb, Option, None, Some, option_map, option_and_then, option_to_list}
use Rattle.std.proofs.Math.Logic.{⊎_elim}
use Rattle.std.proofs.Math.Bool.{cond}
use mathlib.Core.List.Memᴰ
use mathlib.Core.List.{List, [], ◌∷◌, map}
use Rattle.lists.specs.Lists.{◌∈◌, find}
use Rattle.lists.proofs.Laws.Lists.{both, not_so, equals, in-cons, in_map, in-each, finds-none}
use Rattle.lists.proofs.Laws.Apart.{found-member}
use Rattle.model.specs.Graph.{Triple, Scheme, Node, Instance, is_functional, clash}
use Rattle.model.specs.Operations.{Arm, served}
use Rattle.model.specs.Meaning.{edge_at}
use Rattle.model.proofs.Laws.Sound.{WellFormed}
use Rattle.model.proofs.Laws.Serves.{served-node}
use Rattle.graph.specs.Packed.{unpack_triple, unpack_node, instance_of}
use Rattle.serving.specs.Served.{first_target, served_key, served_keys}
use Rattle.node_addition.specs.Laws.Keyed.{key_after, key_of, Placed, placed_first, placed-rest, placed-not-less, placed-not-more, key-determines}

-- each node has one key at most
pub served-few : (K : ℕ) (arms edges nodes : List ℕ) → length (served_keys K arms edges nodes) ≤ length nodes
unfolding served_keys
served-few K arms edges [] = le_refl 0
served-few K arms edges (n ∷ nodes) =
    let h = go (eqb (n / 2 ^ 32 % 2 ^ 6) K) (served_key edges (n / 2 ^ 38) 0 arms) in
    simp length-append (omega (arith, served-few K arms edges nodes))
  where
    go : (t : Bool) (o : Option ℕ) → length (cond t (option_to_list o) []) ≤ 1
    go true None = omega arith
    go true (Some k) = omega arith
    go false o = omega arith

abbrev arm : (name node : ℕ) → Arm
arm name node = record { name = name; node = node }

-- # The targets of one node
module _ (edges : List ℕ) (number name : ℕ) (narrow : name < 2 ^ 6) where
  abbrev here : ℕ → Bool
  here k = eqb (k / 2 ^ 16) (number * 2 ^ 6 + name)

  key_here : (k : ℕ) → (here k ≡ true) ↔ (unpack_triple k ≡ edge_at number (arm name (k % 2 ^ 16)))
  key_here k = (
    (λ h.
        let e = (equals (k / 2 ^ 16) (number * 2 ^ 6 + name)).0 h in
        let source : k / 2 ^ 22 ≡ number = omega arith in
        let label : k / 2 ^ 16 % 2 ^ 6 ≡ name = omega arith in
        ap₂ {C = Triple} (λ i j. record { source = i; name = j; target = k % 2 ^ 16 }) source label),
    λ h.
        let source : k / 2 ^ 22 ≡ number = ap (λ (t : Triple). t.source) h in
        let label : k / 2 ^ 16 % 2 ^ 6 ≡ name = ap (λ (t : Triple). t.name) h in
        (equals (k / 2 ^ 16) (number * 2 ^ 6 + name)).1 (omega arith),
  )

  -- a first target is one
  is-target : (t : ℕ) → first_target edges number name ≡ Some t → (edge_at number (arm name t) ∈ map unpack_triple edges) × (t < 2 ^ 16)
  unfolding first_target
  is-target t h = go (find here edges) refl h
    where
      go : (o : Option ℕ) → find here edges ≡ o → option_map (λ k. k % 2 ^ 16) o ≡ Some t → (edge_at number (arm name t) ∈ map unpack_triple edges) × (t < 2 ^ 16)
      go None e q = let z : ◌≡◌ {A = ℕ} 0 1 = cc in absurd (omega arith)
      go (Some k) e q =
          let f = found-member here edges e in
          let same : k % 2 ^ 16 ≡ t = cc in
          ((in_map unpack_triple edges).1 (k, f.0, ap (λ i. edge_at number (arm name i)) (sym same) ∙ sym ((key_here k).0 f.1)), omega arith)

  -- and the only one
  only-target : ((t u : ℕ) → edge_at number (arm name t) ∈ map unpack_triple edges → edge_at number (arm name u) ∈ map unpack_triple edges → t ≡ u)
      → (t : ℕ) → edge_at number (arm name t) ∈ map unpack_triple edges → first_target edges number name ≡ Some t
  unfolding first_target
  only-target one t i = go (find here edges) refl
    where
      go : (o : Option ℕ) → find here edges ≡ o → option_map (λ k. k % 2 ^ 16) o ≡ Some t
      go None e =
          let r = (in_map unpack_triple edges).0 i in
          let k = r.0 in
          let same : k % 2 ^ 16 ≡ t = sym (ap (λ (u : Triple). u.target) r.2) in
          let q = (key_here k).1 (sym r.2 ∙ ap (λ j. edge_at number (arm name j)) (sym same)) in
          absurd (true≢false (sym q ∙ (finds-none here edges).0 e k r.1))
      go (Some k) e =
          let f = found-member here edges e in
          let u = (key_here k).0 f.1 in
          let j = (in_map unpack_triple edges).1 (k, f.0, sym u) in
          ap Some (one (k % 2 ^ 16) t j i)

-- # The keys of all nodes
module _ (s : Scheme) (nodes edges : List ℕ) (h : WellFormed s (instance_of nodes edges)) (arms : List ℕ)
    (functional : (a : ℕ) → a ∈ arms → (is_functional s (a / 2 ^ 16) ≡ true) × (a / 2 ^ 16 < 2 ^ 6)) where
  abbrev d : Instance
  d = instance_of nodes edges

  one-target : (number name : ℕ) → is_functional s name ≡ true
      → (t u : ℕ) → edge_at number (arm name t) ∈ d.edges → edge_at number (arm name u) ∈ d.edges → t ≡ u
  one-target number name k t u i j = go (eqb t u) refl
    where
      go : (b : Bool) → eqb t u ≡ b → t ≡ u
      go true e = (equals t u).0 e
      go false e =
          let clashes : clash s (edge_at number (arm name t)) (edge_at number (arm name u)) ≡ true
          = simp (both, not_so) (((k, (equals number number).1 refl), (equals name name).1 refl), e) in
          absurd (true≢false (sym clashes ∙ h.whole (edge_at number (arm name t)) (edge_at number (arm name u)) i j))

  abbrev Links : ℕ → List Arm → Type 0
  Links number es = (a : Arm) → a ∈ es → edge_at number a ∈ d.edges

  -- arms to which a key leads that a node serves
  record Linked (number k x : ℕ) (left : List ℕ) : Type 0 where
    ends : List Arm
    placed : Placed left ends
    key : x ≡ key_after k ends
    links : Links number ends

  from-served : (number k : ℕ) (left : List ℕ) → ((a : ℕ) → a ∈ left → a ∈ arms)
      → (x : ℕ) → served_key edges number k left ≡ Some x → Linked number k x left
  unfolding served_key key_after
  from-served number k [] sub x e =
      record {
        ends = [];
        placed = record { names = refl; below = λ b i. absurd (Memᴰ.not-nil i) };
        key = cc;
        links = λ b i. absurd (Memᴰ.not-nil i);
      }
  from-served number k (a ∷ left) sub x e =
      go (first_target edges number (a / 2 ^ 16)) refl (λ t. from-served number (k * 2 ^ 16 + t) left (λ b i. sub b (Memᴰ.tail i)) x) e
    where
      go : (o : Option ℕ) → first_target edges number (a / 2 ^ 16) ≡ o
          → ((t : ℕ) → served_key edges number (k * 2 ^ 16 + t) left ≡ Some x → Linked number (k * 2 ^ 16 + t) x left)
          → option_and_then (λ t. served_key edges number (k * 2 ^ 16 + t) left) o ≡ Some x
          → Linked number k x (a ∷ left)
      go None f more q = let z : ◌≡◌ {A = ℕ} 0 1 = cc in absurd (omega arith)
      go (Some t) f more q =
          let r = more t q in
          let name = a / 2 ^ 16 in
          let g = is-target edges number name (functional a (sub a (Memᴰ.head refl))).1 t f in
          record {
            ends = arm name t ∷ r.ends;
            placed = record {
              names = ap (λ (l : List ℕ). name ∷ l) r.placed.names;
              below = λ b i. ⊎_elim (λ (u : b ≡ arm name t). rw u g.1) (r.placed.below b) (in-cons.0 i);
            };
            key = r.key;
            links = λ b i. ⊎_elim (λ (u : b ≡ arm name t). rw u g.0) (r.links b) (in-cons.0 i);
          }

  to-served : (number k : ℕ) (left : List ℕ) → ((a : ℕ) → a ∈ left → a ∈ arms) → (es : List Arm) → Placed left es → Links number es
      → served_key edges number k left ≡ Some (key_after k es)
  unfolding served_key key_after
  to-served number k [] sub [] p l = refl
  to-served number k [] sub (e ∷ es) p l = absurd (placed-not-less p)
  to-served number k (a ∷ left) sub [] p l = absurd (placed-not-more p)
  to-served number k (a ∷ left) sub (e ∷ es) p l =
      let name = a / 2 ^ 16 in
      let q : e ≡ arm name e.node = ap (λ i. arm i e.node) (placed_first a left e es p) in
      let f = functional a (sub a (Memᴰ.head refl)) in
      let i : edge_at number (arm name e.node) ∈ d.edges = subst (λ b. edge_at number b ∈ d.edges) q (l e (Memᴰ.head refl)) in
      rw (only-target edges number name f.1 (one-target number name f.0) e.node i)
      (to-served number (k * 2 ^ 16 + e.node) left (λ b j. sub b (Memᴰ.tail j)) es (placed-rest a left e es p) (λ b j. l b (Memᴰ.tail j)))

  pub served-key : (K : ℕ) (es : List Arm) → Placed arms es → (key_of es ∈ served_keys K arms edges nodes) ↔ (served K es d ≡ true)
  unfolding served_keys
  served-key K es p = (
    (λ t.
        let r = (in-each nodes keys).0 t in
        let n = r.0 in
        let q = only (eqb (n / 2 ^ 32 % 2 ^ 6) K) (served_key edges (n / 2 ^ 38) 0 arms) r.2 in
        let f = from-served (n / 2 ^ 38) 0 arms (λ a i. i) (key_of es) q.1 in
        let same = key-determines arms es f.ends p f.placed f.key in
        (served-node K es d).1 (
          unpack_node n,
          (in_map unpack_node nodes).1 (n, r.1, refl),
          ((equals (n / 2 ^ 32 % 2 ^ 6) K).0 q.0, subst (Links (n / 2 ^ 38)) (sym same) f.links),
        )),
    λ t.
        let r = (served-node K es d).0 t in
        let q = (in_map unpack_node nodes).0 r.1 in
        let n = q.0 in
        let class : n / 2 ^ 32 % 2 ^ 6 ≡ K = ap (λ (m : Node ℕ). m.class) (sym q.2) ∙ r.2.0 in
        let number : r.0.number ≡ n / 2 ^ 38 = ap (λ (m : Node ℕ). m.number) q.2 in
        let key = to-served (n / 2 ^ 38) 0 arms (λ a i. i) es p (subst (λ i. Links i es) number r.2.1) in
        (in-each nodes keys).1 (n, q.1, rw ((equals (n / 2 ^ 32 % 2 ^ 6) K).1 class, key) (Memᴰ.head refl)),
  )
    where
      keys : ℕ → List ℕ
      keys n = cond (eqb (n / 2 ^ 32 % 2 ^ 6) K) (option_to_list (served_key edges (n / 2 ^ 38) 0 arms)) []

      only : (t : Bool) (o : Option ℕ) → key_of es ∈ cond t (option_to_list o) [] → (t ≡ true) × (o ≡ Some (key_of es))
      only true None i = absurd (Memᴰ.not-nil i)
      only true (Some k) i = (refl, ap Some (sym (Memᴰ.eq_of_singleton i)))
      only false o i = absurd (Memᴰ.not-nil i)
