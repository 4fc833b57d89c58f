-- Lines key by key: lines that pass are those of the first key, then those of the second, and so on, and lines so put together pass.
-- A line's turn is at most that of every line below it, so that the lines of an earlier turn all stand above it.
use Rattle.std.specs.Prelude.{ℕ, ◌<◌, ◌≤◌, ◌≡◌, refl, ◌↔◌, Bool, true, false, length, take, eqb, Option, None, Some}
use Rattle.std.proofs.Common.{arith, ap, ap₂, ◌∙◌, sym, subst, inl, inr, ⊎_elim, length-append, eq-eqb, ne_eqb}
use Rattle.std.proofs.lemmas.Bool.{false≢true, lt-leb}
use mathlib.Core.List.Memᴰ
use mathlib.Core.List.{List, [], ◌∷◌, ◌++◌, map, append_assoc, append-nil}
use Rattle.lists.specs.Lists.{◌∈◌, each, last_of}
use Rattle.lists.specs.Order.{rising}
use Rattle.lists.proofs.Laws.Lists.{both, in-cons, in-append, in_map, in-each, keep-none}
use Rattle.lists.proofs.Laws.Order.{lexicographic, rising-map}
use Rattle.lists.proofs.Laws.Maps.{each_same}
use Rattle.lists.specs.Radix.{within}
use Rattle.model.specs.Files.{Line, Format, checks, rises, full, numbers_of, follows}
use Rattle.model.specs.Causes.{passes, all_pass}
use Rattle.model.specs.InForm.{LineInForm}
use Rattle.model.proofs.Laws.Lines.{Regular}
use Rattle.model.proofs.Laws.Passing.{turn_of, Passing, key-rises, within-key, passing-at-most, AtMost, meets-iff, in_order, in-order-cons}
use Rattle.model.proofs.Laws.Passing.{passing-in-order, numbers-append}

module _ {K : Type 0} (f : Format K) where
  pass-from : (front ls : List (Line K)) → ((above rest : List (Line K)) (l : Line K) → ls ≡ above ++ (l ∷ rest) → passes f (front ++ above) l ≡ true)
      → all_pass f front ls ≡ true
  pass-from front [] h = refl
  pass-from front (l ∷ ls) h =
      (both (passes f front l) (all_pass f (front ++ (l ∷ [])) ls)).1 (
        rw append-nil at (h [] ls l refl),
        pass-from (front ++ (l ∷ [])) ls (λ above rest m e. rw append_assoc (h (l ∷ above) rest m (ap (λ (r : List (Line K)). l ∷ r) e))),
      )

  -- # Order
  in-order-append : (xs ys : List (Line K))
      → (in_order f (xs ++ ys) ≡ true)
      ↔ ((in_order f xs ≡ true) × (in_order f ys ≡ true) × ((x y : Line K) → x ∈ xs → y ∈ ys → follows f.form_of (Some x) y ≡ true))
  in-order-append [] ys = ((λ h. (refl, h, λ x y i j. absurd (Memᴰ.not-nil i))), λ h. h.1)
  in-order-append (a ∷ xs) ys = (
    (λ h.
        let c = (in-order-cons f a (xs ++ ys)).0 h in
        let r = (in-order-append xs ys).0 c.1 in (
          (in-order-cons f a xs).1 ((λ m i. c.0 m ((in-append xs ys).1 (inl i))), r.0),
          r.1,
          λ x y i j.
              let first = c.0 y ((in-append xs ys).1 (inr j)) in
              ⊎_elim (λ e. subst (λ z. follows f.form_of (Some z) y ≡ true) (sym e) first) (λ k. r.2 x y k j) (in-cons.0 i),
        )),
    λ h.
        let c = (in-order-cons f a xs).0 h.0 in
        (in-order-cons f a (xs ++ ys)).1 (
          (λ m i. ⊎_elim (c.0 m) (h.2 a m (Memᴰ.head refl)) ((in-append xs ys).0 i)),
          (in-order-append xs ys).1 (c.1, h.1, λ x y i j. h.2 x y (Memᴰ.tail i) j),
        ),
  )

  turn-rises : (a l : Line K) → follows f.form_of (Some a) l ≡ true → turn_of f a.key ≤ turn_of f l.key
  turn-rises a l h =
      ⊎_elim (λ (m : turn_of f a.key < turn_of f l.key). omega arith) (λ r. let e = r.0 in omega arith)
      ((lexicographic (turn_of f a.key) (turn_of f l.key) (rises (f.form_of l.key).by a.numbers l.numbers)).0 h)

  follows-last : (above : List (Line K)) (l : Line K) → ((a : Line K) → a ∈ above → follows f.form_of (Some a) l ≡ true)
      → follows f.form_of (last_of above) l ≡ true
  follows-last [] l h = refl
  follows-last (a ∷ []) l h = h a (Memᴰ.head refl)
  follows-last (a ∷ b ∷ above) l h = follows-last (b ∷ above) l (λ m i. h m (Memᴰ.tail i))

  none-of-turn : (k : K) (ls : List (Line K)) → ((l : Line K) → l ∈ ls → turn_of f l.key ≡ turn_of f k → ⊥) → numbers_of f.form_of k ls ≡ []
  none-of-turn k ls h =
      ap (map (λ l. l.numbers)) (keep-none (λ l. eqb (turn_of f l.key) (turn_of f k)) ls (λ l i. ne_eqb (turn_of f l.key) (turn_of f k) (h l i)))

  -- no line is of an earlier turn than the first
  not-before : (l : Line K) (ls : List (Line K)) → in_order f (l ∷ ls) ≡ true → (m : Line K) → m ∈ (l ∷ ls)
      → turn_of f l.key ≤ turn_of f m.key
  not-before l ls o m i =
      ⊎_elim (λ e. let t = ap (λ (n : Line K). turn_of f n.key) e in omega arith) (λ j. turn-rises l m (((in-order-cons f l ls).0 o).0 m j)) (in-cons.0 i)

  -- a line of lines in order, with those above it and the rest
  module _ (ls above rest : List (Line K)) (l : Line K) (o : in_order f ls ≡ true) (e : ls ≡ above ++ (l ∷ rest)) where
    parts : (in_order f above ≡ true) × (in_order f (l ∷ rest) ≡ true)
        × ((x y : Line K) → x ∈ above → y ∈ (l ∷ rest) → follows f.form_of (Some x) y ≡ true)
    parts = (in-order-append above (l ∷ rest)).0 (subst (λ (ms : List (Line K)). in_order f ms ≡ true) e o)

    -- it is in turn under those above it
    in-turn-at : follows f.form_of (last_of above) l ≡ true
    in-turn-at = follows-last above l (λ a i. parts.2 a l i (Memᴰ.head refl))

    -- lines of an earlier turn all stand above it, and none of a later turn stands yet
    pub earlier-above : (k : K) → turn_of f k < turn_of f l.key → numbers_of f.form_of k above ≡ numbers_of f.form_of k ls
    earlier-above k h =
        let below-it : (m : Line K) → m ∈ (l ∷ rest) → turn_of f l.key ≤ turn_of f m.key = not-before l rest parts.1 in
        sym (append-nil (numbers_of f.form_of k above))
        ∙ ap (λ xs. numbers_of f.form_of k above ++ xs) (sym (none-of-turn k (l ∷ rest) (λ m i q. let t = below-it m i in omega arith)))
        ∙ sym (numbers-append f.form_of k above (l ∷ rest))
        ∙ ap (numbers_of f.form_of k) (sym e)

    pub earlier-now : (k : K) → turn_of f k < turn_of f l.key → numbers_of f.form_of k (above ++ (l ∷ [])) ≡ numbers_of f.form_of k ls
    earlier-now k h =
        numbers-append f.form_of k above (l ∷ [])
        ∙ ap (λ xs. numbers_of f.form_of k above ++ xs)
        (none-of-turn k (l ∷ []) (λ m i q. let t = ap (λ (n : Line K). turn_of f n.key) (Memᴰ.eq_of_singleton i) in omega arith))
        ∙ append-nil (numbers_of f.form_of k above)
        ∙ earlier-above k h

    pub later-not-yet : (k : K) → turn_of f l.key < turn_of f k → numbers_of f.form_of k (above ++ (l ∷ [])) ≡ []
    later-not-yet k h =
        none-of-turn k (above ++ (l ∷ [])) (λ a i q.
        let t : turn_of f a.key ≤ turn_of f l.key =
        ⊎_elim (λ j. turn-rises a l (parts.2 a l j (Memᴰ.head refl)))
        (λ j. let q = ap (λ (n : Line K). turn_of f n.key) (Memᴰ.eq_of_singleton j) in omega arith)
        ((in-append above (l ∷ [])).0 i) in
        omega arith)

-- # Key by key
module _ {K : Type 0} where
  -- the lines of a key; a line for each row of numbers that a key has, key by key
  abbrev pub key_lines : K → List (List ℕ) → List (Line K)
  key_lines k xs = map (λ x. record { key = k; numbers = x }) xs

  abbrev pub lines_by : (rows : K → List (List ℕ)) → List K → List (Line K)
  lines_by rows ks = each ks (λ k. key_lines k (rows k))

  in-key-lines : (k : K) (xs : List (List ℕ)) (l : Line K) → l ∈ key_lines k xs → (l.key ≡ k) × (l.numbers ∈ xs)
  in-key-lines k xs l i =
      let made : List ℕ → Line K = λ x. record { key = k; numbers = x } in
      let r = (in_map made xs).0 i in
      subst (λ (m : Line K). (m.key ≡ k) × (m.numbers ∈ xs)) (sym r.2) (refl, r.1)

  in-lines-by : (rows : K → List (List ℕ)) (ks : List K) (l : Line K) → l ∈ lines_by rows ks → (l.key ∈ ks) × (l.numbers ∈ rows l.key)
  in-lines-by rows ks l i =
      let r = (in-each ks (λ k. key_lines k (rows k))).0 i in
      let q = in-key-lines r.0 (rows r.0) l r.2 in
      (Memᴰ.cast q.0 r.1, subst (λ k. l.numbers ∈ rows k) (sym q.0) q.1)

module _ {K : Type 0} (f : Format K) where
  abbrev Turned : List K → Type 0
  Turned ks = rising (map (λ k. turn_of f k ∷ []) ks) ≡ true

  later-turn : (k : K) (ks : List K) → Turned (k ∷ ks) → (j : K) → j ∈ ks → turn_of f k < turn_of f j
  later-turn k ks h j i =
      let b = ((rising-map (λ (m : K). turn_of f m ∷ []) k ks).0 h).0 j i in
      ⊎_elim (λ l. l) (λ r. absurd (false≢true r.1)) ((lexicographic (turn_of f k) (turn_of f j) false).0 b)

  turned-rest : (k : K) (ks : List K) → Turned (k ∷ ks) → Turned ks
  turned-rest k ks h = ((rising-map (λ (m : K). turn_of f m ∷ []) k ks).0 h).1

  numbers-other : (k : K) (l : Line K) (ls : List (Line K)) → (turn_of f l.key ≡ turn_of f k → ⊥)
      → numbers_of f.form_of k (l ∷ ls) ≡ numbers_of f.form_of k ls
  numbers-other k l ls h = rw (ne_eqb (turn_of f l.key) (turn_of f k) h)

  numbers-own : (l : Line K) (ls : List (Line K)) → numbers_of f.form_of l.key (l ∷ ls) ≡ l.numbers ∷ numbers_of f.form_of l.key ls
  numbers-own l ls = rw (eq-eqb (turn_of f l.key) (turn_of f l.key) refl)

  abbrev rows_in : List (Line K) → K → List (List ℕ)
  rows_in ls k = numbers_of f.form_of k ls

  -- the first line comes off
  off-here : (l : Line K) (ls : List (Line K)) (ks : List K) → Turned (l.key ∷ ks)
      → lines_by (rows_in (l ∷ ls)) (l.key ∷ ks) ≡ l ∷ lines_by (rows_in ls) (l.key ∷ ks)
  off-here l ls ks t =
      let others : (j : K) → j ∈ ks → key_lines j (rows_in (l ∷ ls) j) ≡ key_lines j (rows_in ls j) =
      λ j i. let m = later-turn l.key ks t j i in ap (key_lines j) (numbers-other j l ls (λ e. omega arith)) in
      ap₂ ◌++◌ (ap (key_lines l.key) (numbers-own l ls)) (each_same ks (λ j. key_lines j (rows_in (l ∷ ls) j)) (λ j. key_lines j (rows_in ls j)) others)

  off-there : (l : Line K) (ls : List (Line K)) (k : K) (ks : List K) → in_order f (l ∷ ls) ≡ true → turn_of f k < turn_of f l.key
      → lines_by (rows_in (l ∷ ls)) ks ≡ l ∷ lines_by (rows_in ls) ks → lines_by (rows_in (l ∷ ls)) (k ∷ ks) ≡ l ∷ lines_by (rows_in ls) (k ∷ ks)
  off-there l ls k ks o t more =
      let none_here : rows_in (l ∷ ls) k ≡ [] = none-of-turn f k (l ∷ ls) (λ m i e. let b = not-before f l ls o m i in omega arith) in
      let none_below : rows_in ls k ≡ [] = none-of-turn f k ls (λ m i e. let b = not-before f l ls o m (Memᴰ.tail i) in omega arith) in
      ap (λ xs. key_lines k xs ++ lines_by (rows_in (l ∷ ls)) ks) none_here
      ∙ more
      ∙ ap (λ (xs : List (List ℕ)). l ∷ (key_lines k xs ++ lines_by (rows_in ls) ks)) (sym none_below)

  first_off : (l : Line K) (ls : List (Line K)) (ks : List K) → Turned ks → in_order f (l ∷ ls) ≡ true → l.key ∈ ks
      → lines_by (rows_in (l ∷ ls)) ks ≡ l ∷ lines_by (rows_in ls) ks
  first_off l ls [] t o i = absurd (Memᴰ.not-nil i)
  first_off l ls (k ∷ ks) t o i =
      ⊎_elim
      (λ e. subst (λ j. Turned (j ∷ ks) → lines_by (rows_in (l ∷ ls)) (j ∷ ks) ≡ l ∷ lines_by (rows_in ls) (j ∷ ks)) e (off-here l ls ks) t)
      (λ j. off-there l ls k ks o (later-turn k ks t l.key j) (first_off l ls ks (turned-rest k ks t) o j))
      (in-cons.0 i)

  no_lines : (ks : List K) → lines_by (rows_in []) ks ≡ []
  no_lines [] = refl
  no_lines (k ∷ ks) = no_lines ks

  -- "Keys come in this order": lines in order are those of the first key, then those of the second, and so on
  pub by-keys : Regular f → (ls : List (Line K)) → ((l : Line K) → l ∈ ls → LineInForm f l) → in_order f ls ≡ true → ls ≡ lines_by (rows_in ls) f.keys
  by-keys regular [] h o = sym (no_lines f.keys)
  by-keys regular (l ∷ ls) h o =
      ap (λ (ms : List (Line K)). l ∷ ms) (by-keys regular ls (λ m i. h m (Memᴰ.tail i)) ((in-order-cons f l ls).0 o).1)
      ∙ sym (first_off l ls f.keys regular.turns-rise o (h l (Memᴰ.head refl)).listed)

  -- # Lines put together key by key
  module _ (rows : K → List (List ℕ)) where
    own-rows : (k : K) (xs : List (List ℕ)) → rows_in (key_lines k xs) k ≡ xs
    own-rows k [] = refl
    own-rows k (x ∷ xs) = numbers-own record { key = k; numbers = x } (key_lines k xs) ∙ ap (λ ys. x ∷ ys) (own-rows k xs)

    rows-here : (k : K) (ks : List K) → Turned (k ∷ ks) → rows_in (lines_by rows (k ∷ ks)) k ≡ rows k
    rows-here k ks t =
        let others = none-of-turn f k (lines_by rows ks) (λ l i e. let m = later-turn k ks t l.key (in-lines-by rows ks l i).0 in omega arith) in
        numbers-append f.form_of k (key_lines k (rows k)) (lines_by rows ks) ∙ ap₂ ◌++◌ (own-rows k (rows k)) others ∙ append-nil (rows k)

    rows-there : (k j : K) (ks : List K) → turn_of f k < turn_of f j → rows_in (lines_by rows ks) j ≡ rows j
        → rows_in (lines_by rows (k ∷ ks)) j ≡ rows j
    rows-there k j ks t more =
        let others = none-of-turn f j (key_lines k (rows k)) (λ l i e. let m = ap (λ (h : K). turn_of f h) (in-key-lines k (rows k) l i).0 in omega arith) in
        numbers-append f.form_of j (key_lines k (rows k)) (lines_by rows ks) ∙ ap₂ ◌++◌ others more

    -- each key has its rows again
    pub rows_back : (ks : List K) → Turned ks → (k : K) → k ∈ ks → rows_in (lines_by rows ks) k ≡ rows k
    rows_back [] t k i = absurd (Memᴰ.not-nil i)
    rows_back (j ∷ ks) t k i =
        ⊎_elim
        (λ e. subst (λ m. rows_in (lines_by rows (j ∷ ks)) m ≡ rows m) (sym e) (rows-here j ks t))
        (λ h. rows-there j k ks (later-turn j ks t k h) (rows_back ks (turned-rest j ks t) k h))
        (in-cons.0 i)

-- rows of numbers that rise by those that count
abbrev pub rows_rise : (by : Option ℕ) → List (List ℕ) → Bool
rows_rise None xs = true
rows_rise (Some n) xs = rising (map (take n) xs)

rows-rise-cons : (by : Option ℕ) (x : List ℕ) (xs : List (List ℕ)) → rows_rise by (x ∷ xs) ≡ true
    → ((y : List ℕ) → y ∈ xs → rises by x y ≡ true) × (rows_rise by xs ≡ true)
rows-rise-cons None x xs h = ((λ y i. refl), refl)
rows-rise-cons (Some n) x xs h = (rising-map (take n) x xs).0 h

not-full-yet : (most : Option ℕ) (m n : ℕ) → AtMost most n → m < n → full most m ≡ false
not-full-yet None m n h l = refl
not-full-yet (Some k) m n h l = lt-leb k m (omega arith)

-- what document 01 asks of the lines of each key, whatever the other keys have
pub record RowsFit {K : Type 0} (f : Format K) (rows : K → List (List ℕ)) : Type 0 where
  pub rise : (k : K) → k ∈ f.keys → rows_rise (f.form_of k).by (rows k) ≡ true
  pub limited : (k : K) → k ∈ f.keys → (x : List ℕ) → x ∈ rows k → within (f.form_of k).below x ≡ true
  pub few : (k : K) → k ∈ f.keys → AtMost (f.form_of k).most (length (rows k))

module _ {K : Type 0} (f : Format K) (rows : K → List (List ℕ)) where
  key-in-order : (k : K) (xs : List (List ℕ)) → rows_rise (f.form_of k).by xs ≡ true → in_order f (key_lines k xs) ≡ true
  key-in-order k [] h = refl
  key-in-order k (x ∷ xs) h =
      let r = rows-rise-cons (f.form_of k).by x xs h in
      (in-order-cons f record { key = k; numbers = x } (key_lines k xs)).1 (
        (λ m i.
            let q = in-key-lines k xs m i in
            (lexicographic (turn_of f k) (turn_of f m.key) (rises (f.form_of m.key).by x m.numbers)).1
            (inr (ap (λ j. turn_of f j) (sym q.0), subst (λ j. rises (f.form_of j).by x m.numbers ≡ true) (sym q.0) (r.0 m.numbers q.1)))),
        key-in-order k xs r.1,
      )

  keys-in-order : (ks : List K) → Turned f ks → ((k : K) → k ∈ ks → rows_rise (f.form_of k).by (rows k) ≡ true) → in_order f (lines_by rows ks) ≡ true
  keys-in-order [] t h = refl
  keys-in-order (k ∷ ks) t h =
      (in-order-append f (key_lines k (rows k)) (lines_by rows ks)).1 (
        key-in-order k (rows k) (h k (Memᴰ.head refl)),
        keys-in-order ks (turned-rest f k ks t) (λ j i. h j (Memᴰ.tail i)),
        λ x y i j.
            let a = ap (λ m. turn_of f m) (in-key-lines k (rows k) x i).0 in
            let b = later-turn f k ks t y.key (in-lines-by rows ks y j).0 in
            (lexicographic (turn_of f x.key) (turn_of f y.key) (rises (f.form_of y.key).by x.numbers y.numbers)).1 (inl (omega arith)),
      )

  module _ (regular : Regular f) (fits : RowsFit f rows) where
    abbrev lines : List (Line K)
    lines = lines_by rows f.keys

    pub lines-in-order : in_order f lines ≡ true
    lines-in-order = keys-in-order f.keys regular.turns-rise fits.rise

    lines-in-form : (l : Line K) → l ∈ lines → LineInForm f l
    lines-in-form l i = let r = in-lines-by rows f.keys l i in record { listed = r.0; limited = fits.limited l.key r.0 l.numbers r.1 }

    row_at : (above rest : List (Line K)) (l : Line K) → lines ≡ above ++ (l ∷ rest) → (l.key ∈ f.keys) × (l.numbers ∈ rows l.key)
    row_at above rest l e = in-lines-by rows f.keys l (rw e ((in-append above (l ∷ rest)).1 (inr (Memᴰ.head refl))))

    room_at : (above rest : List (Line K)) (l : Line K) → lines ≡ above ++ (l ∷ rest)
        → full (f.form_of l.key).most (length (numbers_of f.form_of l.key above)) ≡ false
    room_at above rest l e =
        let k = l.key in
        let listed = (row_at above rest l e).0 in
        let all-rows : rows k ≡ rows_in f above k ++ (l.numbers ∷ rows_in f rest k) =
        sym (rows_back f rows f.keys regular.turns-rise k listed)
        ∙ ap (λ m. rows_in f m k) e
        ∙ numbers-append f.form_of k above (l ∷ rest)
        ∙ ap (λ xs. rows_in f above k ++ xs) (numbers-own f l rest) in
        not-full-yet (f.form_of k).most (length (rows_in f above k)) (length (rows k)) (fits.few k listed)
        (omega (arith, ap length all-rows, length-append (rows_in f above k) (l.numbers ∷ rows_in f rest k)))

    -- lines so put together pass, where each line's own checks hold
    pub lines-pass : ((above rest : List (Line K)) (l : Line K) → lines ≡ above ++ (l ∷ rest) → l.numbers ∈ rows l.key
        → f.checks_at above l.key l.numbers ≡ checks true true true true)
        → Passing f lines
    lines-pass h =
        record {
          in-form = lines-in-form;
          pass =
              pass-from f [] lines (λ above rest l e.
              let c = h above rest l e (row_at above rest l e).1 in
              (meets-iff f above l).1 (record {
                in-turn = in-turn-at f lines above rest l lines-in-order e;
                placed = ap (λ d. d.placed) c;
                room = room_at above rest l e;
                declared = ap (λ d. d.declared) c;
                conforming = ap (λ d. d.conforming) c;
                suited = ap (λ d. d.suited) c;
              }));
        }

-- # Lines that pass, key by key
module _ {K : Type 0} (f : Format K) (regular : Regular f) (ls : List (Line K)) (h : Passing f ls) where
  -- the rows of lines that pass rise, are within the limits, and are few
  pub passing-fits : RowsFit f (λ k. numbers_of f.form_of k ls)
  passing-fits =
      record {
        rise = λ k i. go k i (f.form_of k).by refl;
        limited = λ k i. within-key f regular k i ls h.in-form;
        few = λ k i. passing-at-most f regular k i ls h;
      }
    where
      go : (k : K) → k ∈ f.keys → (by : Option ℕ) → (f.form_of k).by ≡ by → rows_rise by (numbers_of f.form_of k ls) ≡ true
      go k i None e = refl
      go k i (Some n) e = key-rises f regular k i n e ls h.in-form (passing-in-order f regular ls h)
