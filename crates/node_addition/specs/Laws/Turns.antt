-- Node addition by keys: what a walk notes after the keys that are served are the keys of the new nodes, in turn.
-- A key is noted exactly if its arms are served, at each turn: a new node serves the arms that it has, and no others of the same names.
use Prim.Native.Nat.{ℕ, zero, suc, ◌/◌, ◌^◌, ◌<◌, ◌≤◌}
use Rattle.std.proofs.Common.{arith, ap, ap₂, ◌∙◌, sym, subst, inl, inr, ⊎_elim, length-append}
use Rattle.std.specs.Prelude.{◌≡◌, ◌↔◌, ◌⊎◌, Bool, true, false, cond, not, ◌&&◌, length, drop, eqb, ltb}
use Rattle.std.proofs.Math.Path.{refl}
use Rattle.std.proofs.lemmas.Bool.{false≢true}
use mathlib.Core.List.Memᴰ
use mathlib.Core.List.{List, [], ◌∷◌, ◌++◌, map, map-map, foldl, append_assoc, append-nil}
use Rattle.std.proofs.lemmas.List.{length-map}
use Rattle.std.proofs.Math.Seq.{drop-length, drop-append_seam}
use Rattle.lists.specs.Lists.{◌∈◌, ◌!◌, member, Below}
use Rattle.lists.specs.Order.{rising}
use Rattle.lists.proofs.Laws.Lists.{both, equals, any-member, all-members, fails, in-append, in_map, in-numbers}
use Rattle.lists.proofs.Laws.Apart.{rising-map-determines}
use Rattle.model.specs.Limits
use Rattle.model.specs.Graph.{Triple, Scheme, Node, Instance, Pattern, is_functional}
use Rattle.model.specs.Matching.{matchings}
use Rattle.model.specs.Sound.{Sound, SoundRule, suits}
use Rattle.model.specs.Refusals.{Outcome, accepted, refused, ◌>>=◌}
use Rattle.model.specs.Operations.{Arm, add_node, with_node, arms_at, served, new_nodes, node_addition}
use Rattle.model.specs.Meaning.{SourcesStand, edge_at, WithNew}
use Rattle.model.proofs.Laws.Graph.{stands-node, ListedScheme, listed-scheme}
use Rattle.model.proofs.Laws.Matchings.{in-matchings, sent-numbers}
use Rattle.model.proofs.Laws.Sound.{WellFormed, well-formed}
use Rattle.model.proofs.Laws.NewNodes.{grows}
use Rattle.model.proofs.Laws.Additions.{new-above, new-nodes-exactly}
use Rattle.model.proofs.Laws.Serves.{sources-stand, served-node}
use Rattle.graph.specs.Packed.{unpack_node, unpack_arm, instance_of}
use Rattle.notes.specs.Notes.{most, note, note_all}
use Rattle.notes.specs.Visits.{joint_keys, visited}
use Rattle.notes.specs.Laws.Noting.{note-first, note-again, noted-few, in-noted}
use Rattle.serving.specs.Served.{served_keys}
use Rattle.node_addition.specs.Added.{added_for}
use Rattle.node_addition.specs.Laws.Keyed.{key_of, Placed, joint-key, arms-back, key-determines}
use Rattle.node_addition.specs.Laws.Targets.{served-few, served-key}

-- # One key
-- what is noted already stays
noted-on : (log ks : List ℕ) → (more : List ℕ) × (note_all log ks ≡ log ++ more)
unfolding note
noted-on log [] = ([], sym (append-nil log))
noted-on log (k ∷ ks) = go (ltb (length log) most && not (member log k)) (noted-on log ks) (noted-on (log ++ (k ∷ [])) ks)
  where
    go : (b : Bool) → ((more : List ℕ) × (note_all log ks ≡ log ++ more))
        → ((more : List ℕ) × (note_all (log ++ (k ∷ [])) ks ≡ (log ++ (k ∷ [])) ++ more))
        → (more : List ℕ) × (note_all (cond b (log ++ (k ∷ [])) log) ks ≡ log ++ more)
    go true r q = (k ∷ q.0, q.1 ∙ append_assoc log (k ∷ []) q.0)
    go false r q = r

-- a new key is the first of those that are noted from here on
noted-next : (log ks : List ℕ) (k : ℕ) → let all = note_all (log ++ (k ∷ [])) ks in drop (length log) all ≡ k ∷ drop (length (log ++ (k ∷ []))) all
noted-next log ks k =
    let r = noted-on (log ++ (k ∷ [])) ks in
    let first : drop (length log) (note_all (log ++ (k ∷ [])) ks) ≡ k ∷ r.0 =
    rw (r.1, append_assoc) (drop-append_seam log (k ∷ r.0)) in
    let rest : drop (length (log ++ (k ∷ []))) (note_all (log ++ (k ∷ [])) ks) ≡ r.0 = rw r.1 (drop-append_seam (log ++ (k ∷ [])) r.0) in
    first ∙ ap (λ l. k ∷ l) (sym rest)

-- # One new node
-- arms of one name are one arm
same_names : (all us vs : List Arm) → rising (map (λ a. a.name ∷ []) all) ≡ true → map (λ a. a.name) us ≡ map (λ a. a.name) vs
    → ((a : Arm) → a ∈ us → a ∈ all) → ((a : Arm) → a ∈ vs → a ∈ all) → us ≡ vs
same_names all [] [] r e f g = refl
same_names all [] (v ∷ vs) r e f g = let z : ◌≡◌ {A = ℕ} 0 1 = cc in absurd (omega arith)
same_names all (u ∷ us) [] r e f g = let z : ◌≡◌ {A = ℕ} 0 1 = cc in absurd (omega arith)
same_names all (u ∷ us) (v ∷ vs) r e f g =
    let name : u.name ≡ v.name = cc in
    ap₂ {C = List Arm} (λ a l. a ∷ l)
    (rising-map-determines (λ a. a.name ∷ []) all r u v (f u (Memᴰ.head refl)) (g v (Memᴰ.head refl)) (ap (λ i. i ∷ []) name))
    (same_names all us vs r (cc) (λ a i. f a (Memᴰ.tail i)) (λ a i. g a (Memᴰ.tail i)))

module _ (arms : List ℕ) (rise : rising (map (λ a. a.name ∷ []) (map unpack_arm arms)) ≡ true) where
  placed-rise : (es : List Arm) → Placed arms es → rising (map (λ a. a.name ∷ []) es) ≡ true
  placed-rise es p =
      let one : ℕ → List ℕ = λ i. i ∷ [] in
      let same : map (λ a. a.name ∷ []) es ≡ map (λ a. a.name ∷ []) (map unpack_arm arms) =
      sym (map-map one (λ (a : Arm). a.name) es) ∙ ap (map one) p.names ∙ map-map one (λ a. a / 2 ^ 16) arms
      ∙ sym (map-map (λ (a : Arm). a.name ∷ []) unpack_arm arms) in
      ap rising same ∙ rise

  module _ (K : ℕ) (es : List Arm) (p : Placed arms es) (now next : Instance) (stand : SourcesStand now)
      (new : with_node K es now ≡ accepted next) where
    exactly : WithNew K (λ (x : List Arm) d. false) (λ x. x) (es ∷ []) now next
    exactly = new-nodes-exactly K (λ x d. false) (λ x. x) (es ∷ []) now next stand (rw new)

    next-stand : SourcesStand next
    next-stand t i =
        ⊎_elim
        (λ j. let r = (stands-node now t.source).0 (stand t j) in (stands-node next t.source).1 (r.0, exactly.old.nodes r.0 r.1, r.2))
        (λ r. (stands-node next t.source).1 (r.1, r.2.stays, sym r.3))
        (exactly.edges t i)

    still-served : (fs : List Arm) → served K fs now ≡ true → served K fs next ≡ true
    still-served fs h =
        let r = (served-node K fs now).0 h in
        let n = r.0 in
        (served-node K fs next).1 (n, exactly.old.nodes n r.1, (r.2.0, λ a i. exactly.old.edges (edge_at n.number a) (r.2.1 a i)))

    new-served : served K es next ≡ true
    new-served =
        ⊎_elim
        (λ r. absurd (false≢true r.2))
        (λ r.
        let n = r.0 in
        let own = r.1 in
        (served-node K es next).1
        (n, own.stays, (ap (λ (m : Node ℕ). m.class) own.next, λ a i. ((own.starts (edge_at n.number a)).1 (a, i, refl)).0)))
        (exactly.gets es (Memᴰ.head refl))

    -- the new node has no other edges, and the old ones no new edges
    served-by : (fs : List Arm) → Placed arms fs → served K fs next ≡ true → (served K fs now ≡ true) ⊎ (fs ≡ es)
    served-by fs q h =
        let r = (served-node K fs next).0 h in
        let n = r.0 in
        ⊎_elim
        (λ i. inl ((served-node K fs now).1 (
          n,
          i,
          (
            r.2.0,
            λ a j. ⊎_elim
                (λ k. k)
                (λ u. let e = u.3 in absurd (omega (arith, new-above K (λ x d. false) (λ x. x) u.2 n i)))
                (exactly.edges (edge_at n.number a) (r.2.1 a j)),
          ),
        )))
        (λ u.
        let own = u.1 in
        let turn = own.turn in
        let x = u.0 in
        let here : x ∈ (turn.front ++ x ∷ turn.back) = (in-append turn.front (x ∷ turn.back)).1 (inr (Memᴰ.head refl)) in
        let same : x ≡ es = Memᴰ.eq_of_singleton (subst (λ l. x ∈ l) (sym turn.split) here) in
        inr (same_names es fs es (placed-rise es p) (q.names ∙ sym p.names)
        (λ a j.
        let b = (own.starts (edge_at n.number a)).0 (r.2.1 a j, refl) in
        let e : a ≡ b.0 = ap (λ (t : Triple). record { name = t.name; node = t.target }) b.2 in
        Memᴰ.cast e (subst (λ l. b.0 ∈ l) same b.1))
        (λ a j. j)))
        (exactly.nodes n r.1)

    next-served : (fs : List Arm) → Placed arms fs → (served K fs next ≡ true) ↔ ((served K fs now ≡ true) ⊎ (fs ≡ es))
    next-served fs q = (served-by fs q, ⊎_elim (still-served fs) (λ e. rw e new-served))

  -- # In turn
  -- what is noted is what is served
  record Told (K : ℕ) (log : List ℕ) (now : Instance) : Type 0 where
    stand : SourcesStand now
    few : length log ≤ length now.nodes
    room : length now.nodes ≤ Limits.nodes
    tells : (es : List Arm) → Placed arms es → (key_of es ∈ log) ↔ (served K es now ≡ true)

  told-next : (K : ℕ) (log : List ℕ) (es : List Arm) (now next : Instance) → Placed arms es → with_node K es now ≡ accepted next
      → Told K log now → Told K (log ++ (key_of es ∷ [])) next
  told-next K log es now next p new t =
      let g = grows K es now next new in
      let longer : length next.nodes ≡ suc (length now.nodes) = rw g.result (simp length-append (omega arith)) in
      record {
        stand = next-stand K es p now next t.stand new;
        few = simp length-append (omega (arith, t.few));
        room = omega (arith, g.few-nodes);
        tells = λ fs q.
            let n = next-served K es p now next t.stand new fs q in (
              (λ i.
                  n.1 (⊎_elim
                  (λ j. inl ((t.tells fs q).0 j))
                  (λ j. inr (key-determines arms fs es q p (Memᴰ.eq_of_singleton j)))
                  ((in-append log (key_of es ∷ [])).0 i))),
              λ h.
                  (in-append log (key_of es ∷ [])).1
                  (⊎_elim (λ k. inl ((t.tells fs q).1 k)) (λ (e : fs ≡ es). inr (Memᴰ.head (ap key_of e))) (n.0 h)),
            );
      }

  module _ (K : ℕ) (at : List ℕ → List Arm) where
    abbrev noted_for : List ℕ → List (List ℕ) → List ℕ
    noted_for log ms = note_all log (map (λ m. key_of (at m)) ms)

    -- the keys that are noted from here on make the new nodes
    abbrev Agree : List (List ℕ) → List ℕ → Instance → Type 0
    Agree ms log now = added_for K arms (drop (length log) (noted_for log ms)) now ≡ new_nodes K (λ m d. served K (at m) d) at ms now

    in-turn : (ms : List (List ℕ)) → ((m : List ℕ) → m ∈ ms → Placed arms (at m)) → (log : List ℕ) (now : Instance) → Told K log now
        → Agree ms log now
    unfolding added_for
    in-turn [] p log now t = rw drop-length
    in-turn (m ∷ ms) p log now t =
        let more = in-turn ms (λ n i. p n (Memᴰ.tail i)) in
        step (member log k) refl (more (log ++ (k ∷ []))) (more log now t)
      where
        k : ℕ
        k = key_of (at m)

        placed : Placed arms (at m)
        placed = p m (Memᴰ.head refl)

        add : (o : Outcome Instance) → with_node K (at m) now ≡ o
            → ((next : Instance) → Told K (log ++ (k ∷ [])) next → Agree ms (log ++ (k ∷ [])) next)
            → (o >>= λ d. added_for K arms (drop (length (log ++ (k ∷ []))) (noted_for (log ++ (k ∷ [])) ms)) d)
            ≡ (o >>= λ d. new_nodes K (λ n e. served K (at n) e) at ms d)
        add (accepted next) e more = more next (told-next K log (at m) now next placed e t)
        add (refused r) e more = refl

        step : (b : Bool) → member log k ≡ b
            → ((next : Instance) → Told K (log ++ (k ∷ [])) next → Agree ms (log ++ (k ∷ [])) next) → Agree ms log now
            → added_for K arms (drop (length log) (noted_for (note log k) ms)) now
            ≡ (cond (served K (at m) now) (accepted now) (with_node K (at m) now) >>= λ d. new_nodes K (λ n e. served K (at n) e) at ms d)
        step true e more same = rw (note-again log k e, (t.tells (at m) placed).0 ((in-numbers log k).0 e)) same
        step false e more same =
            let new = note-first log k (omega (arith, t.few, t.room)) e in
            let unserved =
            (fails (served K (at m) now)).1 (λ h. (fails (member log k)).0 e ((in-numbers log k).1 ((t.tells (at m) placed).1 h))) in
            rw (new, unserved, noted-next log (map (λ n. key_of (at n)) ms) k, arms-back 0 arms (at m) placed) (add (with_node K (at m) now) refl more)

-- the walk notes the key of each matching
visits-keys : (arms log : List ℕ) (ms : List (List ℕ))
    → foldl (visited (joint_keys arms)) log ms ≡ note_all log (map (λ m. key_of (arms_at m (map unpack_arm arms))) ms)
visits-keys arms log [] = refl
visits-keys arms log (m ∷ ms) = rw (joint-key m arms) (visits-keys arms (note log (key_of (arms_at m (map unpack_arm arms)))) ms)

-- # What a sound drawing and a sound rule give
below_at : (m : List ℕ) → Below (2 ^ 16) m → (i : ℕ) → m ! i < 2 ^ 16
below_at [] h i = omega arith
below_at (n ∷ m) h zero = h n (Memᴰ.head refl)
below_at (n ∷ m) h (suc i) = below_at m (λ k j. h k (Memᴰ.tail j)) i

images-placed : (s : Scheme) (p : Pattern) (d : Instance) → WellFormed s d → (arms m : List ℕ) → m ∈ matchings p d
    → Placed arms (arms_at m (map unpack_arm arms))
images-placed s p d h arms m i =
    record {
      names = simp map-map;
      below = λ a j.
          let r = (in_map {B = Arm} (λ a. record { name = a.name; node = m ! a.node }) (map unpack_arm arms)).0 j in
          rw r.2 (below_at m (λ n k.
          let q = (in_map (λ (l : Node ℕ). l.number) d.nodes).0 (sent-numbers d p.nodes m ((in-matchings p d m).0 i).sent n k) in
          let e = q.2 in
          omega (arith, (h.within q.0 q.1).0)) r.0.node);
    }

arms-functional : (s : Scheme) (arms : List ℕ) → ListedScheme s → ((a : Arm) → a ∈ map unpack_arm arms → is_functional s a.name ≡ true)
    → (a : ℕ) → a ∈ arms → (is_functional s (a / 2 ^ 16) ≡ true) × (a / 2 ^ 16 < 2 ^ 6)
arms-functional s arms l f a i =
    let k = f (unpack_arm a) ((in_map unpack_arm arms).1 (a, i, refl)) in
    let r = (any-member (λ c. eqb c.number (a / 2 ^ 16) && eqb c.kind 0) s.names).0 k in
    let c = r.0 in
    let e = (equals c.number (a / 2 ^ 16)).0 ((both (eqb c.number (a / 2 ^ 16)) (eqb c.kind 0)).0 r.2).0 in
    (k, omega (arith, (l.names.within c r.1).0))

-- "In rising order, a matching for which no K node, old or just added, has all the arm edges to its images gets a new K node with exactly those
-- edges": the keys that the walk notes, after those that are served in the old drawing
pub node-addition-noted : (s : Scheme) (p : Pattern) (nodes edges : List ℕ) (K : ℕ) (arms : List ℕ)
    → let d = instance_of nodes edges in
    let begun = note_all [] (served_keys K arms edges nodes) in
    Sound s d → SoundRule s (record { pattern = p; action = add_node K (map unpack_arm arms) })
    → added_for K arms (drop (length begun) (foldl (visited (joint_keys arms)) begun (matchings p d))) d
    ≡ node_addition K (map unpack_arm arms) (matchings p d) d
unfolding node_addition suits
node-addition-noted s p nodes edges K arms sound rule =
    let d : Instance = instance_of nodes edges in
    let ms = matchings p d in
    let keys = served_keys K arms edges nodes in
    let begun = note_all [] keys in
    let h = well-formed s d sound in
    let r = simp (both, all-members) at rule.suited in
    let functional = arms-functional s arms ((listed-scheme s).0 sound.scheme) (λ a i. (r.1 a i).0) in
    let few : length begun ≤ length d.nodes =
    omega (arith, noted-few keys keys (λ k i. i), served-few K arms edges nodes, length-map nodes unpack_node) in
    let room : length d.nodes ≤ Limits.nodes = h.few-nodes in
    let told : Told arms r.0.1 K begun d = record {
      stand = sources-stand h;
      few = few;
      room = room;
      tells = λ es q.
          let t = served-key s nodes edges h arms functional K es q in
          let n = in-noted [] keys (omega arith) (key_of es) in (
            (λ i. t.0 (⊎_elim (λ j. absurd (Memᴰ.not-nil j)) (λ j. j) (n.0 i))),
            λ k. n.1 (inr (t.1 k)),
          );
    } in
    rw (visits-keys arms begun ms) (in-turn arms r.0.1 K (λ m. arms_at m (map unpack_arm arms)) ms (images-placed s p d h arms) begun d told)
