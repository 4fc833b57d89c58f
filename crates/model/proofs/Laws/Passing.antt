-- Lines that all pass: what each line keeps holds of all, they stand in order pairwise, and those of one key rise and are few.
-- By adding one line at a time; the order of two lines is transitive, since a turn has one key.
use Rattle.std.specs.Prelude.{ℕ, suc, ◌≤◌, ◌≡◌, refl, ◌↔◌, Bool, true, false, ◌&&◌, length, take, eqb, Option, None, Some}
use Rattle.std.proofs.Common.{arith, ap, ◌∙◌, sym, subst, inl, inr, ⊎_elim, length-append, leb-false}
use Rattle.std.proofs.lemmas.Bool.{false≢true}
use mathlib.Core.List.Memᴰ
use mathlib.Core.List.{List, [], ◌∷◌, ◌++◌, map, map-append, append_assoc, append-nil}
use Rattle.std.proofs.lemmas.List.{length-map}
use Rattle.lists.specs.Lists.{◌∈◌, all, keep, last_of}
use Rattle.lists.specs.Order.{before, rising}
use Rattle.lists.proofs.Laws.Lists.{both, not_so, all-members, equals, in-cons, in-append, in-keep, in_map, keep_append}
use Rattle.lists.proofs.Laws.Order.{lexicographic, before-transitive, rising-cons}
use Rattle.lists.proofs.Laws.Apart.{rising-map-determines}
use Rattle.lists.specs.Radix.{product, within}
use Rattle.lists.proofs.Laws.Count.{within-take, rising-count}
use Rattle.model.specs.Files.{Form, Line, Format, rises, full, numbers_of, follows}
use Rattle.model.specs.Causes.{passes, all_pass}
use Rattle.model.specs.InForm.{LineInForm}
use Rattle.model.proofs.Laws.Lines.{Regular, Readable, bounded}

-- a key's place in the order of keys
abbrev pub turn_of : {K : Type 0} → Format K → K → ℕ
turn_of f k = (f.form_of k).turn

module _ {K : Type 0} (f : Format K) where
  -- lines in form, each of which passes under those above it
  pub record Passing (ls : List (Line K)) : Type 0 where
    pub in-form : (l : Line K) → l ∈ ls → LineInForm f l
    pub pass : all_pass f [] ls ≡ true

  pub passing-none : Passing []
  passing-none = record { in-form = λ l i. absurd (Memᴰ.not-nil i); pass = refl }

  pub readable-passing : {t : List ℕ} {ls : List (Line K)} → Readable f t ls → Passing ls
  readable-passing r = record { in-form = r.written.in-form; pass = r.pass }

  -- what a line that passes meets, part by part
  pub record Meets (above : List (Line K)) (l : Line K) : Type 0 where
    pub in-turn : follows f.form_of (last_of above) l ≡ true
    pub placed : (f.checks_at above l.key l.numbers).placed ≡ true
    pub room : full (f.form_of l.key).most (length (numbers_of f.form_of l.key above)) ≡ false
    pub declared : (f.checks_at above l.key l.numbers).declared ≡ true
    pub conforming : (f.checks_at above l.key l.numbers).conforming ≡ true
    pub suited : (f.checks_at above l.key l.numbers).suited ≡ true

  pub meets-iff : (above : List (Line K)) (l : Line K) → (passes f above l ≡ true) ↔ Meets above l
  meets-iff above l = (
    (λ h.
        let p = simp (both, not_so) at h in
        record {
          in-turn = p.0.0.0.0.0;
          placed = p.0.0.0.0.1;
          room = p.0.0.0.1;
          declared = p.0.0.1;
          conforming = p.0.1;
          suited = p.1;
        }),
    λ m. simp (both, not_so) (((((m.in-turn, m.placed), m.room), m.declared), m.conforming), m.suited),
  )

  in-form-snoc : (above : List (Line K)) (l : Line K) → ((m : Line K) → m ∈ above → LineInForm f m) → LineInForm f l
      → (m : Line K) → m ∈ (above ++ (l ∷ [])) → LineInForm f m
  in-form-snoc above l h g m i =
      ⊎_elim (h m) (λ j. subst (LineInForm f) (sym (Memᴰ.eq_of_singleton j)) g) ((in-append above (l ∷ [])).0 i)

  pass-snoc : (above ls : List (Line K)) (l : Line K) → all_pass f above ls ≡ true → passes f (above ++ ls) l ≡ true
      → all_pass f above (ls ++ (l ∷ [])) ≡ true
  pass-snoc above [] l h p = (both (passes f above l) true).1 (rw append-nil at p, refl)
  pass-snoc above (m ∷ ls) l h p =
      let e = (both (passes f above m) (all_pass f (above ++ (m ∷ [])) ls)).0 h in
      (both (passes f above m) (all_pass f (above ++ (m ∷ [])) (ls ++ (l ∷ [])))).1 (e.0, pass-snoc (above ++ (m ∷ [])) ls l e.1 (rw append_assoc p))

  -- a line that passes under lines that all pass
  pub passing-snoc : (above : List (Line K)) (l : Line K) → Passing above → LineInForm f l → passes f above l ≡ true → Passing (above ++ (l ∷ []))
  passing-snoc above l h g p = record { in-form = in-form-snoc above l h.in-form g; pass = pass-snoc [] above l h.pass p }

  -- # What each line keeps holds of all
  module _ (P : List (Line K) → Type 0)
      (step : (above : List (Line K)) (l : Line K) → P above → LineInForm f l → passes f above l ≡ true → P (above ++ (l ∷ []))) where
    kept_from : (above ls : List (Line K)) → P above → ((l : Line K) → l ∈ ls → LineInForm f l) → all_pass f above ls ≡ true → P (above ++ ls)
    kept_from above [] p h g = rw append-nil p
    kept_from above (l ∷ ls) p h g =
        let e = (both (passes f above l) (all_pass f (above ++ (l ∷ [])) ls)).0 g in
        let now = step above l p (h l (Memᴰ.head refl)) e.0 in
        rw append_assoc at (kept_from (above ++ (l ∷ [])) ls now (λ m i. h m (Memᴰ.tail i)) e.1)

    -- what holds of no lines, and stays with each line that passes, holds of lines that all pass
    pub passing-keeps : P [] → (ls : List (Line K)) → Passing ls → P ls
    passing-keeps p ls h = kept_from [] ls p h.in-form h.pass

-- # Order
rises-transitive : (by : Option ℕ) (x y z : List ℕ) → rises by x y ≡ true → rises by y z ≡ true → rises by x z ≡ true
rises-transitive None x y z h k = refl
rises-transitive (Some n) x y z h k = before-transitive (take n x) (take n y) (take n z) h k

module _ {K : Type 0} (f : Format K) where
  -- each line follows every line above it
  abbrev pub in_order : List (Line K) → Bool
  in_order [] = true
  in_order (l ∷ ls) = all (λ m. follows f.form_of (Some l) m) ls && in_order ls

  pub in-order-cons : (l : Line K) (ls : List (Line K))
      → (in_order (l ∷ ls) ≡ true) ↔ (((m : Line K) → m ∈ ls → follows f.form_of (Some l) m ≡ true) × (in_order ls ≡ true))
  in-order-cons l ls = ((λ h. simp (both, all-members) at h), λ h. simp (both, all-members) h)

  in-order-snoc : (ls : List (Line K)) (l : Line K) → in_order ls ≡ true → ((a : Line K) → a ∈ ls → follows f.form_of (Some a) l ≡ true)
      → in_order (ls ++ (l ∷ [])) ≡ true
  in-order-snoc [] l h g = refl
  in-order-snoc (a ∷ ls) l h g =
      let c = (in-order-cons a ls).0 h in
      (in-order-cons a (ls ++ (l ∷ []))).1 (
        (λ m i.
            let new = g a (Memᴰ.head refl) in
            ⊎_elim (c.0 m)
            (λ j. subst (λ n. follows f.form_of (Some a) n ≡ true) (sym (Memᴰ.eq_of_singleton j)) new)
            ((in-append ls (l ∷ [])).0 i)),
        in-order-snoc ls l c.1 (λ b i. g b (Memᴰ.tail i)),
      )

  module _ (regular : Regular f) where
    -- a turn has one key
    turn-determines : {j k : K} → j ∈ f.keys → k ∈ f.keys → turn_of f j ≡ turn_of f k → j ≡ k
    turn-determines {j} {k} i h e = rising-map-determines (λ k. turn_of f k ∷ []) f.keys regular.turns-rise j k i h (ap (λ n. n ∷ []) e)

    follows-transitive : (a b c : Line K) → LineInForm f b → LineInForm f c → follows f.form_of (Some a) b ≡ true → follows f.form_of (Some b) c ≡ true
        → follows f.form_of (Some a) c ≡ true
    follows-transitive a b c i j h k =
        let turn : Line K → ℕ = λ l. turn_of f l.key in
        let by : Line K → Option ℕ = λ l. (f.form_of l.key).by in
        let first = (lexicographic (turn a) (turn b) (rises (by b) a.numbers b.numbers)).0 h in
        let second = (lexicographic (turn b) (turn c) (rises (by c) b.numbers c.numbers)).0 k in
        (lexicographic (turn a) (turn c) (rises (by c) a.numbers c.numbers)).1
        (⊎_elim
        (λ l. ⊎_elim (λ m. inl (omega arith)) (λ r. inl (let e = r.0 in omega arith)) second)
        (λ r.
        let e = r.0 in
        ⊎_elim (λ m. inl (omega arith))
        (λ q.
        let same_by : by b ≡ by c = ap (λ k. (f.form_of k).by) (turn-determines i.listed j.listed q.0) in
        let rising-first = subst (λ y. rises y a.numbers b.numbers ≡ true) same_by r.1 in
        inr (e ∙ q.0, rises-transitive (by c) a.numbers b.numbers c.numbers rising-first q.1))
        second)
        first)

    follows-each : (above : List (Line K)) (l : Line K) → ((a : Line K) → a ∈ above → LineInForm f a) → LineInForm f l → in_order above ≡ true
        → follows f.form_of (last_of above) l ≡ true → (a : Line K) → a ∈ above → follows f.form_of (Some a) l ≡ true
    follows-each [] l g h o e a i = absurd (Memᴰ.not-nil i)
    follows-each (b ∷ []) l g h o e a i = subst (λ c. follows f.form_of (Some c) l ≡ true) (sym (Memᴰ.eq_of_singleton i)) e
    follows-each (b ∷ c ∷ above) l g h o e a i =
        let r = (in-order-cons b (c ∷ above)).0 o in
        let later_ones = follows-each (c ∷ above) l (λ m j. g m (Memᴰ.tail j)) h r.1 e in
        let second = Memᴰ.head refl in
        let first = follows-transitive b c l (g c (Memᴰ.tail second)) h (r.0 c second) (later_ones c second) in
        ⊎_elim
        (λ q. subst (λ m. follows f.form_of (Some m) l ≡ true) (sym q) first)
        (later_ones a) (in-cons.0 i)

    abbrev Ordered : List (Line K) → Type 0
    Ordered ls = ((l : Line K) → l ∈ ls → LineInForm f l) × (in_order ls ≡ true)

    ordered_step : (above : List (Line K)) (l : Line K) → Ordered above → LineInForm f l → passes f above l ≡ true → Ordered (above ++ (l ∷ []))
    ordered_step above l o h p = (
      in-form-snoc f above l o.0 h,
      in-order-snoc above l o.1 (follows-each above l o.0 h o.1 ((meets-iff f above l).0 p).in-turn),
    )

    -- "Keys come in this order, repeated keys strictly rising by their numbers": each line follows not only the line above it, but all
    pub passing-in-order : (ls : List (Line K)) → Passing f ls → in_order ls ≡ true
    passing-in-order ls h = (passing-keeps f Ordered ordered_step ((λ l i. absurd (Memᴰ.not-nil i)), refl) ls h).1

-- # The lines of one key
pub numbers-append : {K : Type 0} (form_of : K → Form) (k : K) (xs ys : List (Line K))
    → numbers_of form_of k (xs ++ ys) ≡ numbers_of form_of k xs ++ numbers_of form_of k ys
numbers-append form_of k xs ys =
    let of-turn : Line _ → Bool = λ l. eqb (form_of l.key).turn (form_of k).turn in
    ap (map (λ l. l.numbers)) (keep_append of-turn xs ys) ∙ map-append (λ l. l.numbers) (keep of-turn xs) (keep of-turn ys)

-- at most as many lines of a key as may stand
abbrev pub AtMost : Option ℕ → ℕ → Type 0
AtMost None n = Unit {0}
AtMost (Some most) n = n ≤ most

none_yet : (most : Option ℕ) → AtMost most 0
none_yet None = tt
none_yet (Some m) = omega arith

not_full : (most : Option ℕ) (n : ℕ) → full most n ≡ false → AtMost most (suc n)
not_full None n h = tt
not_full (Some most) n h = leb-false most n h

-- how many lines of a form may stand: as many as document 01 allows, or as can rise
abbrev pub room : (most by : Option ℕ) (below : List ℕ) → ℕ
room (Some m) by below = m
room None (Some n) below = product (take n below)
room None None below = 0

abbrev pub room_of : Form → ℕ
room_of form = room form.most form.by form.below

module _ {K : Type 0} (f : Format K) (regular : Regular f) (k : K) (listed : k ∈ f.keys) where
  -- a line of the key's turn has the key
  turn-key : (l : Line K) → LineInForm f l → eqb (turn_of f l.key) (turn_of f k) ≡ true → l.key ≡ k
  turn-key l h e = turn-determines f regular h.listed listed ((equals (turn_of f l.key) (turn_of f k)).0 e)

  -- the numbers of the key are those of lines that have it
  pub of-key : (ls : List (Line K)) → ((l : Line K) → l ∈ ls → LineInForm f l) → (x : List ℕ) → x ∈ numbers_of f.form_of k ls
      → (l : Line K) × (l ∈ ls) × (l.key ≡ k) × (x ≡ l.numbers)
  of-key ls h x i =
      let r = (in_map (λ l. l.numbers) (keep (λ l. eqb (turn_of f l.key) (turn_of f k)) ls)).0 i in
      let s = (in-keep (λ l. eqb (turn_of f l.key) (turn_of f k)) ls).0 r.1 in
      (r.0, s.0, turn-key r.0 (h r.0 s.0) s.1, r.2)

  module _ (n : ℕ) (by : (f.form_of k).by ≡ Some n) where
    rises-at : (l m : Line K) → l.key ≡ k → m.key ≡ k → follows f.form_of (Some l) m ≡ true
        → before (take n l.numbers) (take n m.numbers) ≡ true
    rises-at l m p q e =
        let same_turn : turn_of f l.key ≡ turn_of f m.key = ap (λ j. turn_of f j) (p ∙ sym q) in
        ⊎_elim (λ less. absurd (omega arith)) (λ r. subst (λ y. rises y l.numbers m.numbers ≡ true) (ap (λ j. (f.form_of j).by) q ∙ by) r.1)
        ((lexicographic (turn_of f l.key) (turn_of f m.key) (rises (f.form_of m.key).by l.numbers m.numbers)).0 e)

    key-rises-at : (l : Line K) (ls : List (Line K)) → ((m : Line K) → m ∈ (l ∷ ls) → LineInForm f m)
        → ((m : Line K) → m ∈ ls → follows f.form_of (Some l) m ≡ true) → rising (map (take n) (numbers_of f.form_of k ls)) ≡ true
        → (t : Bool) → eqb (turn_of f l.key) (turn_of f k) ≡ t
        → rising (map (take n) (numbers_of f.form_of k (l ∷ ls))) ≡ true
    key-rises-at l ls h g more true e =
        rw e
        ((rising-cons (take n l.numbers) (map (take n) (numbers_of f.form_of k ls))).1 (
          (λ y j.
              let r = (in_map (take n) (numbers_of f.form_of k ls)).0 j in
              let m = of-key ls (λ o i. h o (Memᴰ.tail i)) r.0 r.1 in
              let first = turn-key l (h l (Memᴰ.head refl)) e in
              rw (r.2, m.3) (rises-at l m.0 first m.2 (g m.0 m.1))),
          more,
        ))
    key-rises-at l ls h g more false e = rw e more

    -- the lines of a key that counts its first n numbers rise by those
    pub key-rises : (ls : List (Line K)) → ((l : Line K) → l ∈ ls → LineInForm f l) → in_order f ls ≡ true
        → rising (map (take n) (numbers_of f.form_of k ls)) ≡ true
    key-rises [] h o = refl
    key-rises (l ∷ ls) h o =
        let c = (in-order-cons f l ls).0 o in
        key-rises-at l ls h c.0 (key-rises ls (λ m i. h m (Memᴰ.tail i)) c.1) (eqb (turn_of f l.key) (turn_of f k)) refl

  at-most-step : (above : List (Line K)) (l : Line K) → AtMost (f.form_of k).most (length (numbers_of f.form_of k above)) → LineInForm f l
      → passes f above l ≡ true → (t : Bool) → eqb (turn_of f l.key) (turn_of f k) ≡ t
      → AtMost (f.form_of k).most (length (numbers_of f.form_of k (above ++ (l ∷ []))))
  at-most-step above l p h g true e =
      let n = length (numbers_of f.form_of k above) in
      let one_more : length (numbers_of f.form_of k (above ++ (l ∷ []))) ≡ suc n = rw (numbers-append, length-append, e) (omega arith) in
      let not_yet = subst (λ j. full (f.form_of j).most (length (numbers_of f.form_of j above)) ≡ false) (turn-key l h e) ((meets-iff f above l).0 g).room in
      rw one_more (not_full (f.form_of k).most n not_yet)
  at-most-step above l p h g false e = rw (numbers-append, e, append-nil) p

  -- of a key whose lines document 01 limits, no more lines pass
  pub passing-at-most : (ls : List (Line K)) → Passing f ls → AtMost (f.form_of k).most (length (numbers_of f.form_of k ls))
  passing-at-most ls h =
      passing-keeps f (λ above. AtMost (f.form_of k).most (length (numbers_of f.form_of k above)))
      (λ above l p g e. at-most-step above l p g e (eqb (turn_of f l.key) (turn_of f k)) refl) (none_yet (f.form_of k).most) ls h

  -- a key's numbers are within its limits
  pub within-key : (ls : List (Line K)) → ((l : Line K) → l ∈ ls → LineInForm f l) → (x : List ℕ) → x ∈ numbers_of f.form_of k ls
      → within (f.form_of k).below x ≡ true
  within-key ls h x i =
      let m = of-key ls h x i in
      rw m.3 (subst (λ j. within (f.form_of j).below m.0.numbers ≡ true) m.2 (h m.0 m.1).limited)

  -- of lines that all pass, no more have the key than there is room for
  pub passing-room : (ls : List (Line K)) → Passing f ls → length (numbers_of f.form_of k ls) ≤ room_of (f.form_of k)
  passing-room ls h =
      let limited = (all-members (λ j. bounded (f.form_of j).most (f.form_of j).by) f.keys).0 regular.limited k listed in
      go (f.form_of k).most (f.form_of k).by refl refl limited
    where
      xs : List (List ℕ)
      xs = numbers_of f.form_of k ls

      go : (most by : Option ℕ) → (f.form_of k).most ≡ most → (f.form_of k).by ≡ by → bounded most by ≡ true → length xs ≤ room most by (f.form_of k).below
      go (Some m) by e d b = subst (λ o. AtMost o (length xs)) e (passing-at-most ls h)
      go None (Some n) e d b =
          let few = rising-count (take n (f.form_of k).below) (map (take n) xs) (key-rises n d ls h.in-form (passing-in-order f regular ls h))
          (λ y i.
          let r = (in_map (take n) xs).0 i in
          rw r.2 (within-take n (f.form_of k).below r.0 (within-key ls h.in-form r.0 r.1))) in
          rw length-map at few
      go None None e d b = absurd (false≢true b)
