-- Keys without one, and keys that are moved over it one by one: what a move by one place keeps, for insertions and removals written as loops.
use Rattle.std.specs.Prelude.{ℕ, zero, suc, ◌+◌, ◌-◌, ◌<◌, ◌≤◌, ◌≡◌, false, true, not, length, take, drop, set, eqb}
use Rattle.std.proofs.Common.{arith, le_refl, add-one, ap₂, ◌∙◌, drop_of_length-le, length-take-le, take-suc, take-take, take_at, drop-cons, drop_at, get_or-take, lt-length-set, drop-set-lt, get_or-set_same, get_or-set_other}
use Rattle.std.proofs.Math.Path.{sym}
use mathlib.Core.List.{List, ◌∷◌, ◌++◌, append-nil}
use Rattle.std.proofs.Math.Seq.{append_snoc, take-set-lt}
use Rattle.std.proofs.lemmas.List.{set_split, take-set-le}
use Rattle.lists.specs.Lists.{keep, member, ◌!◌}
use Rattle.keys.specs.Keys.{keys_rise, place_of, join_key}
use Rattle.keys.specs.Laws.Keys.{join-at, cut-there}

-- all but the key at place i
unfoldable pub without : ℕ → List ℕ → List ℕ
without i ks = take i ks ++ drop (suc i) ks

without-set : (i k : ℕ) (ks : List ℕ) → without i (set ks i k) ≡ without i ks
unfolding without
without-set i k ks = rw (take-set-le i ks i k (le_refl i), drop-set-lt (suc i) ks i k (le_refl (suc i)))

set-without : (i k : ℕ) (ks : List ℕ) → i < length ks → set ks i k ≡ take i (without i ks) ++ k ∷ drop i (without i ks)
unfolding without
set-without i k ks l =
    let e : length (take i ks) ≡ i = length-take-le i ks (omega arith) in
    set_split ks i k l
    ∙ ap₂ (λ (a b : List ℕ). a ++ k ∷ b) (sym (take_at (take i ks) (drop (suc i) ks) i e)) (sym (drop_at (take i ks) (drop (suc i) ks) i e))

-- of two neighbours that are the same, either may be left out
without-neighbour : (i : ℕ) (ks : List ℕ) → suc i < length ks → ks ! i ≡ ks ! suc i → without i ks ≡ without (suc i) ks
unfolding without
without-neighbour i ks l e =
    let m : i < length ks = omega arith in
    rw (drop-cons ks (suc i) 0 l, ← e, take-suc ks i 0 m) (sym (append_snoc (take i ks) (ks ! i) (drop (suc (suc i)) ks)))

module _ (ks : List ℕ) (i : ℕ) (l : suc i < length ks) where
  without-upper : without i (set ks (suc i) (ks ! i)) ≡ without (suc i) ks
  without-upper =
      without-neighbour i (set ks (suc i) (ks ! i)) (lt-length-set ks (suc i) (ks ! i) l)
      (get_or-set_other ks (suc i) i (ks ! i) 0 (λ e. omega arith) ∙ sym (get_or-set_same ks (suc i) (ks ! i) 0 l))
      ∙ without-set (suc i) (ks ! i) ks

  without-lower : without (suc i) (set ks i (ks ! suc i)) ≡ without i ks
  without-lower =
      sym (without-neighbour i (set ks i (ks ! suc i)) (lt-length-set ks i (ks ! suc i) l)
      (get_or-set_same ks i (ks ! suc i) 0 (omega arith) ∙ sym (get_or-set_other ks i (suc i) (ks ! suc i) 0 (λ e. omega arith))))
      ∙ without-set i (ks ! suc i) ks

-- the first n keys, of which one takes its neighbour's place
module _ (ks : List ℕ) (n : ℕ) (fits : n ≤ length ks) where
  pub shift-up : (i : ℕ) → 0 < i → i < n → without (i - 1) (take n (set ks i (ks ! (i - 1)))) ≡ without i (take n ks)
  shift-up zero p l = absurd (omega arith)
  shift-up (suc i) p l =
      let e : suc i - 1 ≡ i = omega arith in
      rw (e, take-set-lt n ks (suc i) (ks ! i) l, ← get_or-take n ks i 0 (omega arith))
      (without-upper (take n ks) i (rw (length-take-le n ks fits) l))

  pub shift-down : (i : ℕ) → i + 1 < n → without (i + 1) (take n (set ks i (ks ! (i + 1)))) ≡ without i (take n ks)
  shift-down i l =
      let m : suc i < n = omega arith in
      rw (add-one, take-set-lt n ks i (ks ! suc i) (omega arith), ← get_or-take n ks (suc i) 0 m)
      (without-lower (take n ks) i (rw (length-take-le n ks fits) m))

pub without-last : (ks : List ℕ) (i : ℕ) → i < length ks → without i (take (i + 1) ks) ≡ take i ks
unfolding without
without-last ks i l =
    let fits : length (take (i + 1) ks) ≤ suc i = omega (arith, length-take-le (i + 1) ks (omega arith)) in
    rw (take-take i (i + 1) ks (omega arith), drop_of_length-le (take (i + 1) ks) fits) (append-nil (take i ks))

-- a key that stands among the keys is taken away; one that does not is joined, in the place that the moves have made
module _ (front : List ℕ) (key : ℕ) (rise : keys_rise front ≡ true) (at : ℕ) (place : at ≡ place_of key front) where
  pub cut-without : true ≡ member front key → without at front ≡ keep (λ k. not (eqb k key)) front
  unfolding without
  cut-without h = cut-there front key rise at place h

  pub join_apart : (ks : List ℕ) (n : ℕ) → at < n → n ≤ length ks → false ≡ member front key
      → without at (take n ks) ≡ front → take n (set ks at key) ≡ join_key key front
  join_apart ks n l fits h e =
      rw (take-set-lt n ks at key l, set-without at key (take n ks) (rw (length-take-le n ks fits) l), e)
      (join-at front key rise at place h)
