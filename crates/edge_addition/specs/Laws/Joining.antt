-- Rising keys of edges as edge addition judges them. Keys of one source and name stand together, so two of them clash exactly if two neighbours do;
-- the first neighbours that clash have the smallest source, and the nodes rise, so the first node that is torn is that source.
use Rattle.std.specs.Prelude.{ℕ, ◌/◌, ◌%◌, ◌^◌, ◌<◌, ◌≤◌, ◌≡◌, ◌↔◌, Bool, true, false, cond, ◌&&◌, take, drop, eqb, ltb, Option, None, Some, Ok, Err}
use Rattle.std.proofs.Common.{arith, ap₂, ◌∙◌, subst, ⊎_elim, eq-eqb, ne_eqb, lt-ltb, le-ltb, ltb-true, ltb-false, eqb-true}
use Rattle.std.proofs.Math.Path.{refl, ap, sym}
use Rattle.std.proofs.lemmas.Bool.{false≢true}
use mathlib.Core.List.Memᴰ
use mathlib.Core.List.{List, [], ◌∷◌, map}
use Rattle.std.proofs.Math.ListN.{length}
use Rattle.std.proofs.Math.Seq.{take-append_seam}
use Rattle.lists.specs.Lists.{◌∈◌, any, find, ◌!◌}
use Rattle.lists.specs.Buffers.{at_front}
use Rattle.lists.specs.Order.{Smallest}
use Rattle.lists.proofs.Laws.Lists.{both, not_so, equals, differs, fails, in-cons, in_map, any-member, finds-none}
use Rattle.lists.proofs.Laws.Order.{find-smallest, before-number}
use Rattle.model.specs.Limits
use Rattle.model.specs.Graph.{Triple, Scheme, Node, Instance, of_kind, clash, torn, nodes_rise}
use Rattle.model.specs.declared.Refusal.TheVariants.{EdgesFull, FunctionalClash}
use Rattle.model.proofs.Laws.Graph.{stands-node}
use Rattle.model.proofs.Laws.Sound.{well-formed}
use Rattle.keys.specs.Keys.{keys_rise}
use Rattle.keys.specs.Laws.Keys.{rise-cons}
use Rattle.graph.specs.Packed.{unpack_triple, unpack_declared, unpack_scheme, unpack_instance, Fits, StoredInstance}
use Rattle.graph.specs.declared.declarations.Declarations.{Declarations}
use Rattle.graph.specs.declared.instance.PackedInstance.{PackedInstance}
use Rattle.graph.specs.declared.scheme.PackedScheme.{PackedScheme}
use Rattle.growth.specs.Growth.{Makes}
use Rattle.edge_addition.specs.Joined.{tears, first_torn, SourcesIn, joined_to}

-- # The search for neighbours that clash
torn-here : (names : Declarations) (k l : ℕ) (ks : List ℕ) → tears names k l ≡ true → first_torn names (k ∷ l ∷ ks) ≡ Some (l / 2 ^ 22)
unfolding first_torn
torn-here names k l ks t = rw t

torn-later : (names : Declarations) (k l : ℕ) (ks : List ℕ) → tears names k l ≡ false → first_torn names (k ∷ l ∷ ks) ≡ first_torn names (l ∷ ks)
unfolding first_torn
torn-later names k l ks t = ap (λ b. cond b (Some (l / 2 ^ 22)) (first_torn names (l ∷ ks))) t

-- keys that are left, of which the first two are looked at
module _ (names : Declarations) (edges rest : List ℕ) (left : first_torn names edges ≡ first_torn names rest) where
  pub none-left : (size : ℕ) → size ≡ 2 → length rest < size → None ≡ first_torn names edges
  unfolding first_torn
  none-left size two h = sym (left ∙ go rest (omega arith))
    where
      go : (ks : List ℕ) → length ks < 2 → first_torn names ks ≡ None
      go [] h = refl
      go (k ∷ []) h = refl
      go (k ∷ l ∷ ks) h = absurd (omega arith)

  module _ (pair : List ℕ) (size : ℕ) (pairs : size ≡ 2) (two : size ≤ length rest) (front : pair ≡ take size rest) where
    both-left : (k l : ℕ) (ks : List ℕ) → rest ≡ k ∷ l ∷ ks → (pair ! 0 ≡ k) × (pair ! 1 ≡ l) × (first_torn names edges ≡ first_torn names (k ∷ l ∷ ks))
    both-left k l ks e =
        let f : pair ≡ k ∷ l ∷ [] = rw (front, pairs, e) refl in
        (ap (λ (p : List ℕ). p ! 0) f, ap (λ (p : List ℕ). p ! 1) f, left ∙ ap (first_torn names) e)

    tears-first : tears names (pair ! 0) (pair ! 1) ≡ true → Some (pair ! 1 / 2 ^ 22) ≡ first_torn names edges
    tears-first t = go rest refl (omega arith)
      where
        go : (ks : List ℕ) → rest ≡ ks → 2 ≤ length ks → Some (pair ! 1 / 2 ^ 22) ≡ first_torn names edges
        go [] e h = absurd (omega arith)
        go (k ∷ []) e h = absurd (omega arith)
        go (k ∷ l ∷ ks) e h =
            let r = both-left k l ks e in
            rw r.1 (sym (r.2 ∙ torn-here names k l ks (sym (ap₂ (tears names) r.0 r.1) ∙ t)))

    whole-on : tears names (pair ! 0) (pair ! 1) ≡ false → first_torn names edges ≡ first_torn names (drop 1 rest)
    whole-on t = go rest refl (omega arith)
      where
        go : (ks : List ℕ) → rest ≡ ks → 2 ≤ length ks → first_torn names edges ≡ first_torn names (drop 1 rest)
        go [] e h = absurd (omega arith)
        go (k ∷ []) e h = absurd (omega arith)
        go (k ∷ l ∷ ks) e h =
            let r = both-left k l ks e in
            r.2 ∙ torn-later names k l ks (sym (ap₂ (tears names) r.0 r.1) ∙ t) ∙ ap (λ (m : List ℕ). first_torn names (drop 1 m)) (sym e)

    pub whole-apart : (pair ! 0 / 2 ^ 16 ≡ pair ! 1 / 2 ^ 16 → ⊥) → first_torn names edges ≡ first_torn names (drop 1 rest)
    whole-apart d = whole-on (rw (ne_eqb (pair ! 0 / 2 ^ 16) (pair ! 1 / 2 ^ 16) d))

    module _ (same : pair ! 0 / 2 ^ 16 ≡ pair ! 1 / 2 ^ 16) (o : Bool)
        (kind : o ≡ of_kind 0 (unpack_declared names) (pair ! 1 / 2 ^ 16 % 2 ^ 6)) where
      pub whole-many : o ≡ false → first_torn names edges ≡ first_torn names (drop 1 rest)
      whole-many f = whole-on (rw (eq-eqb (pair ! 0 / 2 ^ 16) (pair ! 1 / 2 ^ 16) same, ← kind) f)

      pub tears-here : o ≡ true → Some (pair ! 1 / 2 ^ 22) ≡ first_torn names edges
      tears-here t = tears-first (rw (eq-eqb (pair ! 0 / 2 ^ 16) (pair ! 1 / 2 ^ 16) same, ← kind) t)

-- # Two keys that clash
-- from one node, by one functional name
abbrev Clashing : Declarations → (a b : ℕ) → Type 0
Clashing names a b = (a < b) × (a / 2 ^ 16 ≡ b / 2 ^ 16) × (of_kind 0 (unpack_declared names) (b / 2 ^ 16 % 2 ^ 6) ≡ true)

record Clash (names : Declarations) (ks : List ℕ) (b : ℕ) : Type 0 where
  a : ℕ
  first : a ∈ ks
  second : b ∈ ks
  clashing : Clashing names a b

-- none do, or those do that have the smallest source
abbrev First : Declarations → List ℕ → Option ℕ → Type 0
First names ks None = (b : ℕ) → Clash names ks b → ⊥
First names ks (Some i) = ((b : ℕ) × Clash names ks b × (b / 2 ^ 22 ≡ i)) × ((b : ℕ) → Clash names ks b → i ≤ b / 2 ^ 22)

neighbours : (names : Declarations) (k l : ℕ) → k < l → (tears names k l ≡ true) ↔ Clashing names k l
neighbours names k l h =
    let r = both (eqb (k / 2 ^ 16) (l / 2 ^ 16)) (of_kind 0 (unpack_declared names) (l / 2 ^ 16 % 2 ^ 6)) in (
      (λ t. let q = r.0 t in (h, eqb-true (k / 2 ^ 16) (l / 2 ^ 16) q.0, q.1)),
      λ c. r.1 (eq-eqb (k / 2 ^ 16) (l / 2 ^ 16) c.1, c.2),
    )

-- of two that clash, the second is not the first key
clash-second : (names : Declarations) (k : ℕ) (ks : List ℕ) → keys_rise (k ∷ ks) ≡ true → (b : ℕ) → Clash names (k ∷ ks) b → b ∈ ks
clash-second names k ks rise b c =
    let ab : c.a < b = c.clashing.0 in
    let ka : k ≤ c.a =
    ⊎_elim (λ (f : c.a ≡ k). omega arith) (λ i. let m : k < c.a = ((rise-cons k ks).0 rise).0 c.a i in omega arith) (in-cons.0 c.first) in
    ⊎_elim (λ (e : b ≡ k). absurd (omega arith)) (λ i. i) (in-cons.0 c.second)

-- where the first two keys don't clash, two that do are both after the first, or the second of them clashes with the second key
clash-later : (names : Declarations) (k l : ℕ) (ks : List ℕ) → keys_rise (k ∷ l ∷ ks) ≡ true → (Clashing names k l → ⊥)
    → (b : ℕ) → Clash names (k ∷ l ∷ ks) b → Clash names (l ∷ ks) b
clash-later names k l ks rise apart b c =
    let r = (rise-cons k (l ∷ ks)).0 rise in
    let q = (rise-cons l ks).0 r.1 in
    let kl : k < l = r.0 l (Memᴰ.head refl) in
    let bk : b ∈ (l ∷ ks) = clash-second names k (l ∷ ks) rise b c in
    ⊎_elim
    (λ (e : c.a ≡ k). ⊎_elim
    (λ (f : b ≡ l). absurd (apart (subst (λ x. Clashing names x l) e (subst (Clashing names c.a) f c.clashing))))
    (λ i.
    let lb : l < b = q.0 b i in
    let run : c.a / 2 ^ 16 ≡ b / 2 ^ 16 = c.clashing.1 in
    record { a = l; first = Memᴰ.head refl; second = bk; clashing = (lb, omega arith, c.clashing.2) })
    (in-cons.0 bk))
    (λ i. record { a = c.a; first = i; second = bk; clashing = c.clashing })
    (in-cons.0 c.first)

first-torn : (names : Declarations) (ks : List ℕ) → keys_rise ks ≡ true → First names ks (first_torn names ks)
unfolding first_torn
first-torn names [] h = λ b c. Memᴰ.not-nil c.first
first-torn names (k ∷ []) h = λ b c. Memᴰ.not-nil (clash-second names k [] h b c)
first-torn names (k ∷ l ∷ ks) h = go (tears names k l) refl (first-torn names (l ∷ ks) ((rise-cons k (l ∷ ks)).0 h).1)
  where
    r : ((x : ℕ) → x ∈ (l ∷ ks) → k < x) × (keys_rise (l ∷ ks) ≡ true)
    r = (rise-cons k (l ∷ ks)).0 h

    kl : k < l
    kl = r.0 l (Memᴰ.head refl)

    longer : (b : ℕ) → Clash names (l ∷ ks) b → Clash names (k ∷ l ∷ ks) b
    longer b c = record { a = c.a; first = Memᴰ.tail c.first; second = Memᴰ.tail c.second; clashing = c.clashing }

    lift : (Clashing names k l → ⊥) → (o : Option ℕ) → First names (l ∷ ks) o → First names (k ∷ l ∷ ks) o
    lift apart None f = λ b c. f b (clash-later names k l ks h apart b c)
    lift apart (Some i) f = ((f.0.0, longer f.0.0 f.0.1, f.0.2), λ b c. f.1 b (clash-later names k l ks h apart b c))

    go : (t : Bool) → tears names k l ≡ t → First names (l ∷ ks) (first_torn names (l ∷ ks)) → First names (k ∷ l ∷ ks) (first_torn names (k ∷ l ∷ ks))
    go true t more =
        let here : Clash names (k ∷ l ∷ ks) l =
        record { a = k; first = Memᴰ.head refl; second = Memᴰ.tail (Memᴰ.head refl); clashing = (neighbours names k l kl).0 t } in
        let least : (b : ℕ) → Clash names (k ∷ l ∷ ks) b → l / 2 ^ 22 ≤ b / 2 ^ 22 = λ b c.
        ⊎_elim (λ (e : b ≡ l). omega arith) (λ i. let m : l < b = ((rise-cons l ks).0 r.1).0 b i in omega arith)
        (in-cons.0 (clash-second names k (l ∷ ks) h b c)) in
        subst (First names (k ∷ l ∷ ks)) (sym (torn-here names k l ks t)) ((l, here, refl), least)
    go false t more =
        let apart : Clashing names k l → ⊥ = λ c. false≢true (sym t ∙ (neighbours names k l kl).1 c) in
        subst (First names (k ∷ l ∷ ks)) (sym (torn-later names k l ks t)) (lift apart (first_torn names (l ∷ ks)) more)

-- # Nodes that are torn
module _ (s : Scheme) (names : Declarations) (same : s.names ≡ unpack_declared names) (ks : List ℕ) where
  abbrev edges : List Triple
  edges = map unpack_triple ks

  torn-clash : (i : ℕ) → (torn s edges i ≡ true) ↔ ((b : ℕ) × Clash names ks b × (b / 2 ^ 22 ≡ i))
  torn-clash i = (there, back)
    where
      clash-keys : (a b : ℕ) → a ∈ ks → b ∈ ks → a / 2 ^ 22 ≡ i → clash s (unpack_triple a) (unpack_triple b) ≡ true
          → (c : ℕ) × Clash names ks c × (c / 2 ^ 22 ≡ i)
      clash-keys a b j k e c =
          let r = simp (both, equals, not_so, differs) at c in
          let functional : of_kind 0 s.names (a / 2 ^ 16 % 2 ^ 6) ≡ true = r.0.0.0 in
          let source : a / 2 ^ 22 ≡ b / 2 ^ 22 = r.0.0.1 in
          let name : a / 2 ^ 16 % 2 ^ 6 ≡ b / 2 ^ 16 % 2 ^ 6 = r.0.1 in
          let target : a % 2 ^ 16 ≡ b % 2 ^ 16 → ⊥ = r.1 in
          let run : a / 2 ^ 16 ≡ b / 2 ^ 16 = omega arith in
          go (ltb a b) refl (rw same at functional) (rw (same, name) at functional) run target source
        where
          go : (t : Bool) → ltb a b ≡ t → of_kind 0 (unpack_declared names) (a / 2 ^ 16 % 2 ^ 6) ≡ true
              → of_kind 0 (unpack_declared names) (b / 2 ^ 16 % 2 ^ 6) ≡ true → a / 2 ^ 16 ≡ b / 2 ^ 16 → (a % 2 ^ 16 ≡ b % 2 ^ 16 → ⊥)
              → a / 2 ^ 22 ≡ b / 2 ^ 22 → (c : ℕ) × Clash names ks c × (c / 2 ^ 22 ≡ i)
          go true t f g run target source =
              (b, record { a = a; first = j; second = k; clashing = (ltb-true a b t, run, g) }, sym source ∙ e)
          go false t f g run target source =
              let le : b ≤ a = ltb-false a b t in
              let differ : a ≡ b → ⊥ = λ q. target (ap (λ (n : ℕ). n % 2 ^ 16) q) in
              (a, record { a = b; first = k; second = j; clashing = (omega arith, sym run, f) }, e)

      there : torn s edges i ≡ true → (b : ℕ) × Clash names ks b × (b / 2 ^ 22 ≡ i)
      there t =
          let r = (any-member (λ e. eqb e.source i && any (clash s e) edges) edges).0 t in
          let u = (both (eqb r.0.source i) (any (clash s r.0) edges)).0 r.2 in
          let q = (any-member (clash s r.0) edges).0 u.1 in
          let a = (in_map unpack_triple ks).0 r.1 in
          let b = (in_map unpack_triple ks).0 q.1 in
          clash-keys a.0 b.0 a.1 b.1 (ap (λ (e : Triple). e.source) (sym a.2) ∙ eqb-true r.0.source i u.0)
          (sym (ap₂ (clash s) a.2 b.2) ∙ q.2)

      back : ((b : ℕ) × Clash names ks b × (b / 2 ^ 22 ≡ i)) → torn s edges i ≡ true
      back c =
          let b = c.0 in
          let a = c.1.a in
          let l : a < b = c.1.clashing.0 in
          let run : a / 2 ^ 16 ≡ b / 2 ^ 16 = c.1.clashing.1 in
          let functional : of_kind 0 s.names (b / 2 ^ 16 % 2 ^ 6) ≡ true = rw same c.1.clashing.2 in
          let source : b / 2 ^ 22 ≡ a / 2 ^ 22 = omega arith in
          let name : b / 2 ^ 16 % 2 ^ 6 ≡ a / 2 ^ 16 % 2 ^ 6 = omega arith in
          let target : b % 2 ^ 16 ≡ a % 2 ^ 16 → ⊥ = λ e. omega arith in
          let clashes : clash s (unpack_triple b) (unpack_triple a) ≡ true =
          simp (both, equals, not_so, differs) (((functional, source), name), target) in
          (any-member (λ e. eqb e.source i && any (clash s e) edges) edges).1 (
            unpack_triple b,
            (in_map unpack_triple ks).1 (b, c.1.second, refl),
            (both (eqb (b / 2 ^ 22) i) (any (clash s (unpack_triple b)) edges)).1 (
              eq-eqb (b / 2 ^ 22) i c.2,
              (any-member (clash s (unpack_triple b)) edges).1 (unpack_triple a, (in_map unpack_triple ks).1 (a, c.1.first, refl), clashes),
            ),
          )

  module _ (rise : keys_rise ks ≡ true) (d : Instance) where
    abbrev is_torn : Node ℕ → Bool
    is_torn n = torn s edges n.number

    whole : first_torn names ks ≡ None → find is_torn d.nodes ≡ None
    whole e =
        let f : First names ks None = subst (First names ks) e (first-torn names ks rise) in
        (finds-none is_torn d.nodes).1 (λ n j. (fails (is_torn n)).1 (λ t. let c = (torn-clash n.number).0 t in f c.0 c.1))

    tears-at : nodes_rise d ≡ true → SourcesIn d ks → (i : ℕ) → first_torn names ks ≡ Some i
        → (n : Node ℕ) × (find is_torn d.nodes ≡ Some n) × (n.number ≡ i)
    tears-at nodes_rise standing i e = go (find is_torn d.nodes) refl (find-smallest (λ n. n.number ∷ []) is_torn d.nodes nodes_rise)
      where
        f : First names ks (Some i)
        f = subst (First names ks) e (first-torn names ks rise)

        source : (n : Node ℕ) × (n ∈ d.nodes) × (n.number ≡ i)
        source =
            let r = (stands-node d (f.0.0 / 2 ^ 22)).0 (standing f.0.0 f.0.1.second) in
            (r.0, r.1, r.2 ∙ f.0.2)

        passes : is_torn source.0 ≡ true
        passes = (torn-clash source.0.number).1 (f.0.0, f.0.1, f.0.2 ∙ sym source.2)

        go : (o : Option (Node ℕ)) → find is_torn d.nodes ≡ o → Smallest (λ n. n.number ∷ []) (λ n. (n ∈ d.nodes) × (is_torn n ≡ true)) o
            → (n : Node ℕ) × (find is_torn d.nodes ≡ Some n) × (n.number ≡ i)
        go None p h = absurd (h source.0 (source.1, passes))
        go (Some m) p h =
            let c = (torn-clash m.number).0 h.0.1 in
            let least : i ≤ c.0 / 2 ^ 22 = f.1 c.0 c.1 in
            let at : c.0 / 2 ^ 22 ≡ m.number = c.2 in
            let is : source.0.number ≡ i = source.2 in (
              m,
              p,
              ⊎_elim
                  (λ q. sym (ap (λ (n : Node ℕ). n.number) q) ∙ source.2)
                  (λ b.
                  let l : m.number < source.0.number = ltb-true m.number source.0.number (rw before-number at b) in
                  absurd (omega arith))
                  (h.1 source.0 (source.1, passes)),
            )

-- # What edge addition makes
module _ (scheme : PackedScheme) (d : PackedInstance) (ks : List ℕ) (stored : StoredInstance (unpack_scheme scheme) d) where
  abbrev s : Scheme
  s = unpack_scheme scheme

  same_names : s.names ≡ unpack_declared scheme.names
  unfolding unpack_scheme
  same_names = refl

  as_stored : Fits d
  as_stored = record { few_nodes = stored.few_nodes; few_edges = stored.few_edges }

  pub makes-full : Limits.edges < length ks → Makes (joined_to s ks (unpack_instance d)) (Err EdgesFull) d
  unfolding joined_to
  makes-full h = record { fits = as_stored; makes = rw (lt-ltb Limits.edges (length ks) h) }

  module _ (few : length ks ≤ Limits.edges) (rise : keys_rise ks ≡ true) where
    pub makes-torn : SourcesIn (unpack_instance d) ks → (i : ℕ) → Some i ≡ first_torn scheme.names ks
        → Makes (joined_to s ks (unpack_instance d)) (Err (FunctionalClash i)) d
    unfolding joined_to
    makes-torn sources i found =
        let nodes_rise = (well-formed s (unpack_instance d) stored.sound).nodes-rise in
        let r = tears-at s scheme.names same_names ks rise (unpack_instance d) nodes_rise sources i (sym found) in
        record { fits = as_stored; makes = rw (le-ltb Limits.edges (length ks) few, r.1, r.2) }

    pub makes-whole : None ≡ first_torn scheme.names ks → (edges : List ℕ) → edges ≡ at_front ks d.edges
        → Makes (joined_to s ks (unpack_instance d)) (Ok tt) (record { nodes = d.nodes; order = d.order; edges = edges; size = length ks })
    unfolding joined_to unpack_instance
    makes-whole found edges put =
        let none-torn = whole s scheme.names same_names ks rise (unpack_instance d) (sym found) in
        record {
          fits = record { few_nodes = stored.few_nodes; few_edges = few };
          makes = rw (le-ltb Limits.edges (length ks) few, none-torn, put, take-append_seam ks (drop (length ks) d.edges));
        }
