-- What nodes serve, as code finds it: the first edge of a run stands where its least key would; all else goes by what is left of the list that code
-- walks.
use Rattle.std.specs.Prelude.{ℕ, zero, suc, ◌+◌, ◌*◌, ◌/◌, ◌%◌, ◌^◌, ◌<◌, ◌≤◌, ◌≡◌, refl, Bool, List, [], ◌∷◌, drop, Option, None, Some, option_map}
use native.Mathlib.Omega.{arith}
use Rattle.std.proofs.Common.{le_refl, lt_of_lt_of_le, ◌∙◌, pow_mono}
use Rattle.std.proofs.Math.Numerals.{add-one}
use Rattle.std.proofs.Math.Path.{ap, sym}
use Rattle.std.proofs.Math.Bool.{true, false}
use Rattle.std.proofs.Math.ListN.{length, drop_of_length-le}
use Rattle.std.proofs.Math.Seq.{drop-cons}
use Rattle.std.proofs.Math.Pow.{pow-add}
use Rattle.std.proofs.Math.Dec.{eqb, ltb}
use borrow.Author.Tests.{eq-eqb, ne_eqb, ltb-true, ltb-false}
use Rattle.lists.specs.Lists.{find, ◌!◌, Below}
use Rattle.lists.proofs.Laws.Places.{at_place}
use Rattle.model.specs.Limits
use Rattle.keys.specs.Keys.{keys_rise, place_of}
use Rattle.keys.specs.Laws.Keys.{place-above, place-below}
use Rattle.notes.specs.Notes.{note, note_all}
use Rattle.serving.specs.Served.{first_target, served_key, served_keys}

-- # The first edge of a run
finds-at : (p : ℕ → Bool) (ks : List ℕ) (i : ℕ) → i < length ks → p (ks ! i) ≡ true → ((j : ℕ) → j < i → p (ks ! j) ≡ false)
    → find p ks ≡ Some (ks ! i)
finds-at p [] i l h b = absurd (omega arith)
finds-at p (x ∷ ks) zero l h b = rw h
finds-at p (x ∷ ks) (suc i) l h b = rw (b 0 (omega arith)) (finds-at p ks i (omega arith) h (λ j m. b (suc j) (omega arith)))

finds-nowhere : (p : ℕ → Bool) (ks : List ℕ) → ((j : ℕ) → j < length ks → p (ks ! j) ≡ false) → find p ks ≡ None
finds-nowhere p [] b = refl
finds-nowhere p (x ∷ ks) b = rw (b 0 (omega arith)) (finds-nowhere p ks (λ j m. b (suc j) (omega arith)))

-- rising keys rise from place to place
later-above : (ks : List ℕ) → keys_rise ks ≡ true → (i j : ℕ) → i ≤ j → j < length ks → ks ! i ≤ ks ! j
later-above ks rise i j l m = go (ltb (ks ! j) (ks ! i)) refl
  where
    go : (t : Bool) → ltb (ks ! j) (ks ! i) ≡ t → ks ! i ≤ ks ! j
    go true e =
        let a : j + 1 ≤ place_of (ks ! i) ks = place-above ks (ks ! i) rise j m (ltb-true (ks ! j) (ks ! i) e) in
        let b : place_of (ks ! i) ks ≤ i = place-below ks (ks ! i) rise i (omega arith) (le_refl (ks ! i)) in
        absurd (omega arith)
    go false e = ltb-false (ks ! j) (ks ! i) e

module _ (edges : List ℕ) (number name at : ℕ) (rise : keys_rise edges ≡ true) (place : at ≡ place_of (number * 2 ^ 22 + name * 2 ^ 16) edges) where
  abbrev least : ℕ
  least = number * 2 ^ 22 + name * 2 ^ 16

  abbrev in_run : ℕ → Bool
  in_run k = eqb (k / 2 ^ 16) (number * 2 ^ 6 + name)

  before-run : (j : ℕ) → j < at → j < length edges → in_run (edges ! j) ≡ false
  before-run j l m =
      ne_eqb (edges ! j / 2 ^ 16) (number * 2 ^ 6 + name) (λ e.
      let b : place_of least edges ≤ j = place-below edges least rise j m (omega arith) in
      omega arith)

  pub target_found : (edge : ℕ) → edge ≡ edges ! at → at < length edges → edge / 2 ^ 16 ≡ (number * 2 ^ 22 + name * 2 ^ 16) / 2 ^ 16
      → Some (edge % 2 ^ 16) ≡ first_target edges number name
  unfolding first_target
  target_found edge same l e =
      ap (λ k. Some (k % 2 ^ 16)) same
      ∙ sym (ap (option_map (λ k. k % 2 ^ 16)) (finds-at in_run edges at l
      (eq-eqb (edges ! at / 2 ^ 16) (number * 2 ^ 6 + name) (omega arith))
      (λ j m. before-run j m (omega arith))))

  -- the first key from the place on is not of the run: none is
  after_run : (edges ! at / 2 ^ 16 ≡ least / 2 ^ 16 → ⊥) → (j : ℕ) → at ≤ j → j < length edges → in_run (edges ! j) ≡ false
  after_run h j l m =
      ne_eqb (edges ! j / 2 ^ 16) (number * 2 ^ 6 + name) (λ e. go e (ltb (edges ! at) least) refl)
    where
      go : edges ! j / 2 ^ 16 ≡ number * 2 ^ 6 + name → (t : Bool) → ltb (edges ! at) least ≡ t → ⊥
      go e true q =
          let a : at + 1 ≤ place_of least edges = place-above edges least rise at (omega arith) (ltb-true (edges ! at) least q) in
          omega arith
      go e false q =
          let a : least ≤ edges ! at = ltb-false (edges ! at) least q in
          let b : edges ! at ≤ edges ! j = later-above edges rise at j l m in
          h (omega arith)

  pub target-other : (edge : ℕ) → edge ≡ edges ! at → at < length edges → (edge / 2 ^ 16 ≡ (number * 2 ^ 22 + name * 2 ^ 16) / 2 ^ 16 → ⊥)
      → None ≡ first_target edges number name
  unfolding first_target
  target-other edge same l h = sym (ap (option_map (λ k. k % 2 ^ 16)) (finds-nowhere in_run edges (λ j m. go j m (ltb j at) refl)))
    where
      go : (j : ℕ) → j < length edges → (t : Bool) → ltb j at ≡ t → in_run (edges ! j) ≡ false
      go j m true q = before-run j (ltb-true j at q) m
      go j m false q = after_run (λ e. h (ap (λ k. k / 2 ^ 16) same ∙ e)) j (ltb-false j at q) m

  pub target_past : length edges ≤ at → None ≡ first_target edges number name
  unfolding first_target
  target_past l = sym (ap (option_map (λ k. k % 2 ^ 16)) (finds-nowhere in_run edges (λ j m. before-run j (omega arith) m)))

-- # The key of what a node serves
target_small : (o : Option ℕ) (t : ℕ) → option_map (λ k. k % 2 ^ 16) o ≡ Some t → t < 2 ^ 16
target_small None t e = let z : ◌≡◌ {A = ℕ} 0 1 = cc in absurd (omega arith)
target_small (Some k) t e = let q : k % 2 ^ 16 ≡ t = cc in omega arith

-- the targets by the first i arms are in the key
pub record Gathered (edges : List ℕ) (number : ℕ) (arms : List ℕ) (i key : ℕ) : Type 0 where
  pub low : key < 2 ^ (16 * i)
  pub leaves : served_key edges number 0 arms ≡ served_key edges number key (drop i arms)

pub name-small : (arms : List ℕ) (i : ℕ) → Below (2 ^ 22) arms → i < length arms → arms ! i / 2 ^ 16 < 2 ^ 6
name-small arms i below l = omega (arith, below (arms ! i) (at_place arms i 0 l))

module _ (edges : List ℕ) (number : ℕ) (arms : List ℕ) where
  pub gathered_none : Gathered edges number arms 0 0
  gathered_none = record { low = omega arith; leaves = refl }

  module _ (i key : ℕ) (h : Gathered edges number arms i key) where
    gathered-low : i < length arms → length arms ≤ Limits.arms → key < 2 ^ 48
    gathered-low l few = let three : 16 * i ≤ 48 = omega arith in lt_of_lt_of_le h.low (pow_mono three)

    pub shifted_fits : i < length arms → length arms ≤ Limits.arms → key * 2 ^ 16 < 2 ^ 64
    shifted_fits l few = omega (arith, gathered-low l few)

    module _ (l : i < length arms) where
      module _ (t : ℕ) (found : Some t ≡ first_target edges number (arms ! i / 2 ^ 16)) where
        gathered-target : t < 2 ^ 16
        unfolding first_target
        gathered-target = target_small (find (λ k. eqb (k / 2 ^ 16) (number * 2 ^ 6 + arms ! i / 2 ^ 16)) edges) t (sym found)

        pub joined-fits : length arms ≤ Limits.arms → key * 2 ^ 16 + t < 2 ^ 64
        joined-fits few = omega (arith, gathered-low l few, gathered-target)

        pub gathered-more : Gathered edges number arms (i + 1) (key * 2 ^ 16 + t)
        unfolding served_key
        gathered-more =
            let p : 16 * (i + 1) ≡ 16 * i + 16 = omega arith in
            let q : 2 ^ (16 * (i + 1)) ≡ 2 ^ (16 * i) * 2 ^ 16 = ap (λ (n : ℕ). 2 ^ n) p ∙ pow-add 2 (16 * i) 16 in
            record {
              low = omega (arith, gathered-target);
              leaves = h.leaves ∙ rw (drop-cons arms i 0, add-one, ← found);
            }

      pub gathered-missed : None ≡ first_target edges number (arms ! i / 2 ^ 16) → None ≡ served_key edges number 0 arms
      unfolding served_key
      gathered-missed e = sym (h.leaves ∙ rw (drop-cons arms i 0, ← e))

    pub gathered-all : length arms ≤ i → Some key ≡ served_key edges number 0 arms
    unfolding served_key
    gathered-all l = sym (h.leaves ∙ rw (drop_of_length-le arms))

-- # Noting what nodes serve
pub number_small : (nodes : List ℕ) (i : ℕ) → Below (2 ^ 54) nodes → i < length nodes → nodes ! i / 2 ^ 38 < 2 ^ 16
number_small nodes i below l = omega (arith, below (nodes ! i) (at_place nodes i 0 l))

-- what the nodes before i serve is noted
module _ (class : ℕ) (arms edges nodes before : List ℕ) where
  abbrev pub Serving : (i : ℕ) (log : List ℕ) → Type 0
  Serving i log = note_all log (served_keys class arms edges (drop i nodes)) ≡ note_all before (served_keys class arms edges nodes)

  pub serving-none : Serving 0 before
  serving-none = refl

  module _ (i : ℕ) (log : List ℕ) (h : Serving i log) where
    module _ (l : i < length nodes) where
      pub serving-other : (nodes ! i / 2 ^ 32 % 2 ^ 6 ≡ class → ⊥) → Serving (i + 1) log
      unfolding served_keys
      serving-other d = sym (rw (add-one, drop-cons nodes i 0, ne_eqb (nodes ! i / 2 ^ 32 % 2 ^ 6) class d)) ∙ h

      module _ (same : nodes ! i / 2 ^ 32 % 2 ^ 6 ≡ class) where
        pub serving-nothing : None ≡ served_key edges (nodes ! i / 2 ^ 38) 0 arms → Serving (i + 1) log
        unfolding served_keys
        serving-nothing e = sym (rw (add-one, drop-cons nodes i 0, eq-eqb (nodes ! i / 2 ^ 32 % 2 ^ 6) class same, ← e)) ∙ h

        pub serving-key : (key : ℕ) → Some key ≡ served_key edges (nodes ! i / 2 ^ 38) 0 arms → (after : List ℕ) → after ≡ note log key
            → Serving (i + 1) after
        unfolding served_keys
        serving-key key e after m = rw m (sym (rw (add-one, drop-cons nodes i 0, eq-eqb (nodes ! i / 2 ^ 32 % 2 ^ 6) class same, ← e)) ∙ h)

    pub serving-all : length nodes ≤ i → log ≡ note_all before (served_keys class arms edges nodes)
    unfolding served_keys
    serving-all l = rw drop_of_length-le at h
