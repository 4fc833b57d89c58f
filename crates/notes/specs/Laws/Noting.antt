-- Noting keys: keys that are noted are the keys that are joined to a rising list, until there is no room.
-- A key is noted exactly if it is new, and then it is joined; a list that rises is no longer than one that has all its members.
use Rattle.std.specs.Prelude.{ℕ, suc, ◌+◌, ◌<◌, ◌≤◌, ◌≡◌, refl, ◌↔◌, ◌⊎◌, Bool, true, false, cond, ◌&&◌, length, take, eqb, ltb}
use Rattle.std.proofs.Common.{arith, add-one, take-suc, ap, ◌∙◌, sym, inl, inr, ⊎_elim, length-append, ltb-true, ltb-false, lt-ltb, le-ltb, eqb-true}
use mathlib.Core.List.{List, [], ◌∷◌, ◌++◌, foldl, foldl-append, append_assoc, append-nil}
use mathlib.Core.List.Memᴰ
use Rattle.lists.specs.Lists.{◌∈◌, keep, each, member, ◌!◌}
use Rattle.lists.proofs.Laws.Lists.{in-cons, in-append, in-keep, in-numbers, same_truth, fails, keep-length}
use Rattle.keys.specs.Keys.{keys_rise, join_key}
use Rattle.keys.specs.Laws.Keys.{rise-cons, keys-determined, in-join, join-rises, join-there, keep-rises}
use Rattle.notes.specs.Notes.{most, note, note_all, sorted}
use Rattle.notes.specs.Visits.{visited}

-- a fold over one member more
pub fold-next : {A : Type 0} (f : A → ℕ → A) (a : A) (xs : List ℕ) (i : ℕ) → i < length xs → foldl f a (take (i + 1) xs) ≡ f (foldl f a (take i xs)) (xs ! i)
fold-next f a xs i l = rw add-one (ap (foldl f a) (take-suc xs i 0 l) ∙ foldl-append f a (take i xs) ((xs ! i) ∷ []))

-- # Keys joined one after the other
abbrev pub join_all : List ℕ → List ℕ → List ℕ
join_all rise ks = foldl (λ rising k. join_key k rising) rise ks

-- one more, unless it is there
join-length : (e : ℕ) (fs : List ℕ) → (length (join_key e fs) ≤ suc (length fs)) × ((e ∈ fs → ⊥) → length (join_key e fs) ≡ suc (length fs))
unfolding join_key
join-length e [] = (omega arith, λ h. refl)
join-length e (f ∷ fs) = go (ltb e f) (eqb e f) refl (join-length e fs)
  where
    go : (a b : Bool) → eqb e f ≡ b → (length (join_key e fs) ≤ suc (length fs)) × ((e ∈ fs → ⊥) → length (join_key e fs) ≡ suc (length fs))
        → (length (cond a (e ∷ f ∷ fs) (cond b (f ∷ fs) (f ∷ join_key e fs))) ≤ suc (suc (length fs)))
        × ((e ∈ (f ∷ fs) → ⊥) → length (cond a (e ∷ f ∷ fs) (cond b (f ∷ fs) (f ∷ join_key e fs))) ≡ suc (suc (length fs)))
    go true b q more = (omega arith, λ h. refl)
    go false true q more = (omega arith, λ h. absurd (h (Memᴰ.head (eqb-true e f q))))
    go false false q more = (omega (arith, more.0), λ h. ap suc (more.1 (λ i. h (Memᴰ.tail i))))

-- a key that is no member makes them one more
pub join_more : (e : ℕ) (fs : List ℕ) → member fs e ≡ false → length (join_key e fs) ≡ suc (length fs)
join_more e fs h = (join-length e fs).1 (λ i. (fails (member fs e)).0 h ((in-numbers fs e).1 i))

pub joined-rises : (rise ks : List ℕ) → keys_rise rise ≡ true → keys_rise (join_all rise ks) ≡ true
joined-rises rise [] h = h
joined-rises rise (k ∷ ks) h = joined-rises (join_key k rise) ks (join-rises k rise h)

pub in-joined : (rise ks : List ℕ) (k : ℕ) → (k ∈ join_all rise ks) ↔ ((k ∈ rise) ⊎ (k ∈ ks))
in-joined rise [] k = (inl, ⊎_elim (λ h. h) (λ h. absurd (Memᴰ.not-nil h)))
in-joined rise (x ∷ ks) k =
    let one = in-join x rise k in
    let more = in-joined (join_key x rise) ks k in (
      (λ h. ⊎_elim (λ i. ⊎_elim (λ e. inr (Memᴰ.head e)) inl (one.0 i)) (λ i. inr (Memᴰ.tail i)) (more.0 h)),
      ⊎_elim (λ h. more.1 (inl (one.1 (inr h)))) (λ h. ⊎_elim (λ e. more.1 (inl (one.1 (inl e)))) (λ i. more.1 (inr i)) (in-cons.0 h)),
    )

joined_length : (rise ks : List ℕ) → length (join_all rise ks) ≤ length rise + length ks
joined_length rise [] = omega arith
joined_length rise (k ∷ ks) = omega (arith, joined_length (join_key k rise) ks, (join-length k rise).0)

-- # Keys in rising order
pub sorted_rises : (ks : List ℕ) → keys_rise (sorted ks) ≡ true
unfolding keys_rise
sorted_rises ks = joined-rises [] ks refl

pub in-sorted : (ks : List ℕ) (k : ℕ) → (k ∈ sorted ks) ↔ (k ∈ ks)
in-sorted ks k = let r = in-joined [] ks k in ((λ h. ⊎_elim (λ i. absurd (Memᴰ.not-nil i)) (λ i. i) (r.0 h)), λ h. r.1 (inr h))

pub same-member : (xs ys : List ℕ) (k : ℕ) → (k ∈ xs) ↔ (k ∈ ys) → member xs k ≡ member ys k
same-member xs ys k h = same_truth (member xs k) (member ys k) (
  (λ e. (in-numbers ys k).1 (h.0 ((in-numbers xs k).0 e))),
  λ e. (in-numbers xs k).1 (h.1 ((in-numbers ys k).0 e)),
)

pub sorted-member : (ks : List ℕ) (k : ℕ) → member (sorted ks) k ≡ member ks k
sorted-member ks k = same-member (sorted ks) ks k (in-sorted ks k)

-- keys that rise and have the members of a list are that list in order
pub sorted-as : (ks rise : List ℕ) → keys_rise rise ≡ true → ((k : ℕ) → (k ∈ ks) ↔ (k ∈ rise)) → sorted ks ≡ rise
sorted-as ks rise h e =
    keys-determined (sorted ks) rise (sorted_rises ks) h (λ k i. (e k).0 ((in-sorted ks k).0 i)) (λ k i. (in-sorted ks k).1 ((e k).1 i))

pub sorted-rising : (ks : List ℕ) → keys_rise ks ≡ true → sorted ks ≡ ks
sorted-rising ks h = sorted-as ks ks h (λ k. ((λ i. i), λ i. i))

-- rising keys are at most as many as any keys among which they are
rise-few : (rise ks : List ℕ) → keys_rise rise ≡ true → ((k : ℕ) → k ∈ rise → k ∈ ks) → length rise ≤ length ks
rise-few rise ks h f =
    let kept = keep (member rise) (sorted ks) in
    let e : rise ≡ kept =
    keys-determined rise kept h (keep-rises (member rise) (sorted ks) (sorted_rises ks))
    (λ k i. (in-keep (member rise) (sorted ks)).1 ((in-sorted ks k).1 (f k i), (in-numbers rise k).1 i))
    (λ k i. (in-numbers rise k).0 ((in-keep (member rise) (sorted ks)).0 i).1) in
    omega (arith, ap length e, keep-length (member rise) (sorted ks), joined_length [] ks)

-- # One key
pub note-first : (log : List ℕ) (k : ℕ) → length log < most → member log k ≡ false → note log k ≡ log ++ (k ∷ [])
unfolding note
note-first log k l h = rw (lt-ltb (length log) most l, h)

pub note-again : (log : List ℕ) (k : ℕ) → member log k ≡ true → note log k ≡ log
unfolding note
note-again log k h = rw h (go (ltb (length log) most))
  where
    go : (t : Bool) → cond (t && false) (log ++ (k ∷ [])) log ≡ log
    go true = refl
    go false = refl

pub note-past : (log : List ℕ) (k : ℕ) → most ≤ length log → note log k ≡ log
unfolding note
note-past log k l = rw (le-ltb (length log) most l)

-- it is noted already or there is no room; or it is new
note-cases : (log : List ℕ) (k : ℕ)
    → ((note log k ≡ log) × ((most ≤ length log) ⊎ (k ∈ log)))
    ⊎ ((note log k ≡ log ++ (k ∷ [])) × (length log < most) × (k ∈ log → ⊥))
note-cases log k = go (ltb (length log) most) (member log k) refl refl
  where
    go : (a b : Bool) → ltb (length log) most ≡ a → member log k ≡ b
        → ((note log k ≡ log) × ((most ≤ length log) ⊎ (k ∈ log)))
        ⊎ ((note log k ≡ log ++ (k ∷ [])) × (length log < most) × (k ∈ log → ⊥))
    go a true p q = inl (note-again log k q, inr ((in-numbers log k).0 q))
    go true false p q =
        let l = ltb-true (length log) most p in
        inr (note-first log k l q, l, λ i. (fails (member log k)).0 q ((in-numbers log k).1 i))
    go false false p q = let l = ltb-false (length log) most p in inl (note-past log k l, inl l)

snoc-length : (log : List ℕ) (k : ℕ) → length (log ++ (k ∷ [])) ≡ suc (length log)
snoc-length log k = omega (arith, length-append log (k ∷ []))

pub sorted-snoc : (log : List ℕ) (k : ℕ) → sorted (log ++ (k ∷ [])) ≡ join_key k (sorted log)
sorted-snoc log k = foldl-append (λ rising x. join_key x rising) [] log (k ∷ [])

note-grows : (log : List ℕ) (k : ℕ) → length log ≤ length (note log k)
note-grows log k = ⊎_elim (λ h. omega (arith, ap length h.0)) (λ h. omega (arith, ap length h.0, snoc-length log k)) (note-cases log k)

note-most : (log : List ℕ) (k : ℕ) → length log ≤ most → length (note log k) ≤ most
note-most log k l = ⊎_elim (λ h. omega (arith, ap length h.0)) (λ h. omega (arith, ap length h.0, snoc-length log k, h.1)) (note-cases log k)

-- while there is room, a key that is noted is joined
note-joins : (log : List ℕ) (k : ℕ) → length (note log k) < most → sorted (note log k) ≡ join_key k (sorted log)
note-joins log k l = ⊎_elim
    (λ h. ap sorted h.0
    ∙ ⊎_elim
    (λ full. absurd (omega (arith, ap length h.0)))
    (λ i. join-there (sorted log) k (sorted_rises log) (sym ((in-numbers (sorted log) k).1 ((in-sorted log k).1 i))))
    h.1)
    (λ h. ap sorted h.0 ∙ sorted-snoc log k)
    (note-cases log k)

-- # Each key is noted once
-- no key stands twice
abbrev Distinct : List ℕ → Type 0
Distinct log = length (sorted log) ≡ length log

note-distinct : (log : List ℕ) (k : ℕ) → Distinct log → Distinct (note log k)
note-distinct log k d = ⊎_elim
    (λ h. ap (λ l. length (sorted l)) h.0 ∙ d ∙ sym (ap length h.0))
    (λ h.
    ap (λ l. length (sorted l)) h.0
    ∙ ap length (sorted-snoc log k)
    ∙ (join-length k (sorted log)).1 (λ i. h.2 ((in-sorted log k).0 i))
    ∙ ap suc d
    ∙ sym (snoc-length log k)
    ∙ sym (ap length h.0))
    (note-cases log k)

noted-distinct : (log ks : List ℕ) → Distinct log → Distinct (note_all log ks)
noted-distinct log [] d = d
noted-distinct log (k ∷ ks) d = noted-distinct (note log k) ks (note-distinct log k d)

pub sorted-length : (ks : List ℕ) → length (sorted (note_all [] ks)) ≡ length (note_all [] ks)
sorted-length ks = noted-distinct [] ks refl

-- # Keys noted one after the other
pub noted-grows : (log ks : List ℕ) → length log ≤ length (note_all log ks)
noted-grows log [] = omega arith
noted-grows log (k ∷ ks) = omega (arith, note-grows log k, noted-grows (note log k) ks)

pub noted-most : (log ks : List ℕ) → length log ≤ most → length (note_all log ks) ≤ most
noted-most log [] l = l
noted-most log (k ∷ ks) l = noted-most (note log k) ks (note-most log k l)

pub noted-append : (log ks more : List ℕ) → note_all log (ks ++ more) ≡ note_all (note_all log ks) more
noted-append = foldl-append note

-- nothing else is noted
pub noted-from : (log ks : List ℕ) (k : ℕ) → k ∈ note_all log ks → (k ∈ log) ⊎ (k ∈ ks)
noted-from log [] k i = inl i
noted-from log (x ∷ ks) k i = ⊎_elim
    (λ j. ⊎_elim
    (λ h. inl (rw h.0 at j))
    (λ h. ⊎_elim inl (λ m. inr (Memᴰ.head (Memᴰ.eq_of_singleton m))) ((in-append log (x ∷ [])).0 (rw h.0 at j)))
    (note-cases log x))
    (λ j. inr (Memᴰ.tail j))
    (noted-from (note log x) ks k i)

-- while there is room, keys that are noted are joined
pub joined-noted : (log ks : List ℕ) → length (note_all log ks) < most → sorted (note_all log ks) ≡ join_all (sorted log) ks
joined-noted log [] l = refl
joined-noted log (k ∷ ks) l =
    joined-noted (note log k) ks l
    ∙ ap (λ rise. join_all rise ks) (note-joins log k (omega (arith, noted-grows (note log k) ks)))

pub in-noted : (log ks : List ℕ) → length (note_all log ks) < most → (k : ℕ) → (k ∈ note_all log ks) ↔ ((k ∈ log) ⊎ (k ∈ ks))
in-noted log ks l k = (
  noted-from log ks k,
  λ h.
      (in-sorted (note_all log ks) k).0
      (rw (joined-noted log ks l) ((in-joined (sorted log) ks k).1 (⊎_elim (λ i. inl ((in-sorted log k).1 i)) inr h))),
)

-- # How many are noted
-- at most as many as any keys among which they are
noted-among : (log ks all : List ℕ) → Distinct log → ((k : ℕ) → (k ∈ log) ⊎ (k ∈ ks) → k ∈ all) → length (note_all log ks) ≤ length all
noted-among log ks all d f =
    let notes = note_all log ks in
    omega (
      arith,
      noted-distinct log ks d,
      rise-few (sorted notes) all (sorted_rises notes) (λ k i. f k (noted-from log ks k ((in-sorted notes k).0 i))),
    )

pub noted-few : (all ks : List ℕ) → ((k : ℕ) → k ∈ ks → k ∈ all) → length (note_all [] ks) ≤ length all
noted-few all ks f = noted-among [] ks all refl (λ k. ⊎_elim (λ i. absurd (Memᴰ.not-nil i)) (f k))

-- at most as many as are joined
noted-joined : (es ks : List ℕ) → keys_rise es ≡ true → length (note_all es ks) ≤ length (join_all es ks)
noted-joined es ks h = noted-among es ks (join_all es ks) (ap length (sorted-rising es h)) (λ k. (in-joined es ks k).1)

pub joined-many : (es ks : List ℕ) → keys_rise es ≡ true → length (note_all es ks) ≡ most → most ≤ length (join_all es ks)
joined-many es ks h e = omega (arith, noted-joined es ks h)

-- rising keys are noted as they are
noted-after : (log ks : List ℕ) → keys_rise ks ≡ true → ((k : ℕ) → k ∈ ks → k ∈ log → ⊥) → length log + length ks ≤ most → note_all log ks ≡ log ++ ks
noted-after log [] h a l = sym (append-nil log)
noted-after log (k ∷ ks) h a l =
    let r = (rise-cons k ks).0 h in
    let e : note log k ≡ log ++ (k ∷ []) =
    ⊎_elim (λ c. absurd (⊎_elim (λ full. omega arith) (a k (Memᴰ.head refl)) c.1)) (λ c. c.0) (note-cases log k) in
    ap (λ l. note_all l ks) e
    ∙ noted-after (log ++ (k ∷ [])) ks r.1
    (λ x i j.
    ⊎_elim (a x (Memᴰ.tail i)) (λ m. let l : k < k = r.0 k (Memᴰ.cast (sym (Memᴰ.eq_of_singleton m)) i) in omega arith)
    ((in-append log (k ∷ [])).0 j))
    (omega (arith, snoc-length log k))
    ∙ append_assoc log (k ∷ []) ks

pub noted-rising : (ks : List ℕ) → keys_rise ks ≡ true → length ks ≤ most → note_all [] ks ≡ ks
noted-rising ks h l = noted-after [] ks h (λ k i j. Memᴰ.not-nil j) (omega arith)

-- # Keys that are noted at matchings
pub visits-flat : (keys : List ℕ → List ℕ) (log : List ℕ) (ms : List (List ℕ)) → foldl (visited keys) log ms ≡ note_all log (each ms keys)
visits-flat keys log [] = refl
visits-flat keys log (m ∷ ms) = visits-flat keys (visited keys log m) ms ∙ sym (noted-append log (keys m) (each ms keys))
