-- The undo history moved copy by copy, up for a push and down for a pop: what has moved after so many turns, and what is left at the end.
-- By the front of the list that is moved already, which grows by one copy each turn.
use Rattle.std.specs.Prelude.{ℕ, zero, suc, ◌+◌, ◌-◌, ◌<◌, ◌≤◌, min, ◌≡◌, refl, List, ◌∷◌, length, get_or, take, drop, set}
use Rattle.std.proofs.Common.{add-one, add_comm, arith, ap, ap₂, sym, ◌∙◌, subst, length-drop, length-set, take-take, take-suc, take-suc-set, drop-cons, drop-drop, drop-set-lt, get_or-take, get_or-drop, get_or-set_same}
use Rattle.std.proofs.lemmas.List.{take-set-le}
use Rattle.model.specs.Limits
use Rattle.graph.specs.declared.history.History.{History}
use Rattle.graph.specs.declared.instance.PackedInstance.{PackedInstance}
use Rattle.history.specs.Histories.{PushedOn, PoppedOff}
use Rattle.history.specs.Laws.Copies.{take_min, take-first, take-stored}

-- # Lists
module _ {A : Type 0} where
  -- a store of the next member makes the front longer by one
  front-next : (xs ys : List A) (i : ℕ) (z : A) → i < length xs → i < length ys → take i xs ≡ take i ys
      → take (i + 1) (set xs i (get_or ys i z)) ≡ take (i + 1) ys
  front-next xs ys i z h k e = rw (add-one i, take-suc-set xs i (get_or ys i z) h, e) (sym (take-suc ys i z k))

  -- what two lists have in front they have in a shorter front, too
  front-shorter : (n m : ℕ) (xs ys : List A) → n ≤ m → take m xs ≡ take m ys → take n xs ≡ take n ys
  front-shorter n m xs ys h e = sym (take-take n m xs h) ∙ ap (take n) e ∙ take-take n m ys h

-- # Push
-- how many copies stand at most behind the newest
abbrev behind : ℕ
behind = Limits.copies - 1

-- of n copies that will stand, those after place i have been moved up by one, and the others are where they were
pub record MovedUp (copies : List PackedInstance) (n i : ℕ) (moved : List PackedInstance) : Type 0 where
  pub few : n ≤ Limits.copies
  pub within : i < n
  pub whole : length copies ≡ Limits.copies
  pub room : length moved ≡ Limits.copies
  pub front : take (i + 1) moved ≡ take (i + 1) copies
  pub back : (m : ℕ) → i + 1 + m ≤ n → take m (drop (i + 1) moved) ≡ take m (drop i copies)

pub up_first : (copies : List PackedInstance) (n depth : ℕ) → length copies ≡ Limits.copies → n ≡ min (depth + 1) Limits.copies
    → MovedUp copies n (n - 1) copies
up_first copies n depth h e = record { few = omega arith; within = omega arith; whole = h; room = h; front = refl; back = none }
  where
    none : (m : ℕ) → n - 1 + 1 + m ≤ n → take m (drop (n - 1 + 1) copies) ≡ take m (drop (n - 1) copies)
    none zero k = refl
    none (suc m) k = absurd (omega arith)

up_one : {copies moved : List PackedInstance} {n i : ℕ} (z : PackedInstance) → MovedUp copies n (i + 1) moved
    → MovedUp copies n i (set moved (i + 1) (get_or moved i z))
up_one {copies} {moved} {n} {i} z u =
    record {
      few = u.few;
      within = omega (arith, u.within);
      whole = u.whole;
      room = length-set moved (i + 1) x ∙ u.room;
      front = take-set-le (i + 1) moved (i + 1) x (omega arith) ∙ front-shorter (i + 1) (i + 1 + 1) moved copies (omega arith) u.front;
      back = later;
    }
  where
    x : PackedInstance
    x = get_or moved i z

    same : x ≡ get_or copies i z
    same =
        sym (get_or-take (i + 1 + 1) moved i z (omega arith)) ∙ ap (λ (l : List PackedInstance). get_or l i z) u.front
        ∙ get_or-take (i + 1 + 1) copies i z (omega arith)

    stored : drop (i + 1) (set moved (i + 1) x) ≡ x ∷ drop (suc (i + 1)) moved
    stored =
        drop-cons (set moved (i + 1) x) (i + 1) z (rw length-set (omega (arith, u.room, u.few, u.within)))
        ∙ ap₂ {C = List PackedInstance} (λ y l. y ∷ l) (get_or-set_same moved (i + 1) x z (omega (arith, u.room, u.few, u.within)))
        (drop-set-lt (suc (i + 1)) moved (i + 1) x (omega arith))

    later : (m : ℕ) → i + 1 + m ≤ n → take m (drop (i + 1) (set moved (i + 1) x)) ≡ take m (drop i copies)
    later zero k = refl
    later (suc m) k =
        ap (take (suc m)) stored ∙ ap₂ {C = List PackedInstance} (λ y l. y ∷ l) same rest
        ∙ sym (ap (take (suc m)) (drop-cons copies i z (omega (arith, u.whole, u.few, u.within))))
      where
        rest : take m (drop (suc (i + 1)) moved) ≡ take m (drop (suc i) copies)
        rest = rw (← add-one (i + 1), ← add-one i) (u.back m (omega arith))

pub up_next : {copies moved : List PackedInstance} {n i : ℕ} (z : PackedInstance) → 0 < i → MovedUp copies n i moved
    → MovedUp copies n (i - 1) (set moved (i - 1 + 1) (get_or moved (i - 1) z))
up_next {copies} {moved} {n} {i} z h u =
    let e : i ≡ i - 1 + 1 = omega arith in up_one z (subst (λ (j : ℕ). MovedUp copies n j moved) e u)

module _ (h : History) (d : PackedInstance) (moved : List PackedInstance) (n i : ℕ) (up : MovedUp h.copies n i moved) (all : i ≤ 0) where
  later : (m : ℕ) → 1 + m ≤ n → take m (drop 1 moved) ≡ take m h.copies
  later m k =
      let none : i ≡ 0 = omega arith in
      let first : MovedUp h.copies n 0 moved = subst (λ (j : ℕ). MovedUp h.copies n j moved) none up in
      first.back m k

  pub push-done : h.depth ≤ Limits.copies → n ≡ min (h.depth + 1) Limits.copies → PushedOn h d (record { copies = set moved 0 d; depth = n })
  push-done k e =
      record {
        pushed = ap (λ (j : ℕ). take j (set moved 0 d)) one_more ∙ take-stored (n - 1) moved d (omega (arith, up.room))
            ∙ ap {B = List PackedInstance} (λ l. d ∷ l)
            (later (n - 1) (omega (arith, up.within)) ∙ ap (λ (j : ℕ). take j h.copies) fewer ∙ sym (take_min behind h.depth h.copies));
        few = up.few;
      }
    where
      one_more : n ≡ n - 1 + 1
      one_more = omega (arith, up.within)

      fewer : n - 1 ≡ min behind h.depth
      fewer = omega arith

-- # Pop
-- after i of n turns: the first i copies after the newest, at the front, and the others where they were
pub record MovedDown (copies : List PackedInstance) (n i : ℕ) (moved : List PackedInstance) : Type 0 where
  pub few : n < Limits.copies
  pub within : i ≤ n
  pub whole : length copies ≡ Limits.copies
  pub room : length moved ≡ Limits.copies
  pub front : take i moved ≡ take i (drop 1 copies)
  pub back : drop i moved ≡ drop i copies

pub down-first : (copies : List PackedInstance) (n : ℕ) → length copies ≡ Limits.copies → n < Limits.copies → MovedDown copies n 0 copies
down-first copies n h l = record { few = l; within = omega arith; whole = h; room = h; front = refl; back = refl }

pub down-next : {copies moved : List PackedInstance} {n i : ℕ} (z : PackedInstance) → i < n → MovedDown copies n i moved
    → MovedDown copies n (i + 1) (set moved i (get_or moved (i + 1) z))
down-next {copies} {moved} {n} {i} z k m =
    record {
      few = m.few;
      within = omega arith;
      whole = m.whole;
      room = length-set moved i (get_or moved (i + 1) z) ∙ m.room;
      front = rw same
          (front-next moved (drop 1 copies) i z (omega (arith, m.room, m.few)) (simp length-drop (omega (arith, m.whole, m.few))) m.front);
      back = drop-set-lt (i + 1) moved i (get_or moved (i + 1) z) (omega arith) ∙ further;
    }
  where
    same : get_or moved (i + 1) z ≡ get_or (drop 1 copies) i z
    same =
        sym (get_or-drop i moved 1 z) ∙ ap (λ (l : List PackedInstance). get_or l 1 z) m.back ∙ get_or-drop i copies 1 z
        ∙ ap (λ (j : ℕ). get_or copies j z) (add_comm i 1) ∙ sym (get_or-drop 1 copies i z)

    further : drop (i + 1) moved ≡ drop (i + 1) copies
    further = sym (drop-drop 1 i moved) ∙ ap (drop 1) m.back ∙ drop-drop 1 i copies

module _ (h : History) (z : PackedInstance) (moved : List PackedInstance) (i : ℕ) (down : MovedDown h.copies (h.depth - 1) i moved)
    (all : h.depth - 1 ≤ i) where
  pub pop-left : 0 < h.depth → h.depth ≤ Limits.copies
      → PoppedOff h (get_or h.copies 0 z) (record { copies = moved; depth = h.depth - 1 })
  pop-left k l =
      record {
        popped = take-first h.depth h.copies z k (omega (arith, down.whole))
            ∙ ap {B = List PackedInstance} (λ l. get_or h.copies 0 z ∷ l)
            (sym (front-shorter (h.depth - 1) i moved (drop 1 h.copies) all down.front));
        few = omega arith;
      }
