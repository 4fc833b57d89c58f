-- Groups of images, as code finds them: the front of an array is filled with what passes, by what is left of the members.
-- An image leads its group if no image before it has its targets, and these are what its run has.
use Prim.Native.Nat.{ℕ, suc, ◌+◌, ◌*◌, ◌/◌, ◌%◌, ◌^◌, ◌<◌, ◌≤◌}
use Rattle.std.proofs.Common.{arith, add-one, ◌∙◌, sym, subst, Fits, length-set, drop_of_length-le, take-append-drop, get_or-take, length-take-le, ⊎_elim}
use Rattle.std.proofs.Math.Path.{◌≡◌, refl, ap}
use Rattle.std.proofs.Math.Bool.{Bool, true, false, cond}
use mathlib.Core.List.Memᴰ
use mathlib.Core.List.{List, [], ◌∷◌, ◌++◌, map, map-append, append_assoc, append-nil}
use Rattle.std.proofs.lemmas.Bool.{cases_lt}
use Rattle.std.specs.Int.{w64}
use Rattle.std.specs.Prelude.{length, take, set, eqb}
use Rattle.std.proofs.Math.ListN.{drop}
use Rattle.std.proofs.Math.Seq.{drop-cons}
use borrow.Author.Tests.{eq-eqb, ne_eqb, ltb-true}
use Rattle.lists.specs.Lists.{◌∈◌, any, keep, ◌!◌, Below}
use Rattle.lists.specs.Order.{same, rising}
use Rattle.lists.proofs.Laws.Lists.{in-keep, in_map, keep_append, keep-none, any-member, no_member}
use Rattle.lists.proofs.Laws.Order.{same-list, rising-append, before-number}
use Rattle.lists.proofs.Laws.OneMore.{stored_last}
use Rattle.keys.specs.Keys.{keys_rise, Front}
use Rattle.keys.specs.Laws.Keys.{search-hit, search-on, search-past}
use Rattle.edge_runs.specs.Runs.{run_of, lowest, targets_at, has_targets}
use Rattle.groups.specs.Groups.{numbers_of, arms_led_by}
use Rattle.edge_runs.specs.Laws.Running.{number_at_lem}

-- # The front of an array, filled with what f makes of the members that pass
pub record Filling (passes : ℕ → Bool) (f : ℕ → ℕ) (xs whole before : List ℕ) (count i : ℕ) (now : List ℕ) : Type 0 where
  pub passed : count ≤ i
  pub few : count ≤ length now
  pub as_long : length now ≡ length before
  pub filled : take count now ++ map f (keep passes (drop i xs)) ≡ whole

module _ (passes : ℕ → Bool) (f : ℕ → ℕ) (xs : List ℕ) where
  pub filling-none : (before : List ℕ) (i : ℕ) → Filling passes f xs (map f (keep passes (drop i xs))) before 0 i before
  filling-none before i = record { passed = omega arith; few = omega arith; as_long = refl; filled = refl }

  module _ (whole before : List ℕ) (count i : ℕ) (now : List ℕ) (h : Filling passes f xs whole before count i now) where
    pub filling-more : length xs ≤ length before → i < length xs → passes (xs ! i) ≡ true
        → Filling passes f xs whole before (count + 1) (i + 1) (set now count (f (xs ! i)))
    filling-more room l e =
        let as_long = h.as_long in
        let passed = h.passed in
        record {
          passed = omega arith;
          few = simp length-set (omega arith);
          as_long = simp length-set as_long;
          filled = rw (stored_last now count (f (xs ! i)) (omega arith), add-one i, append_assoc)
              (sym (ap (λ (l : List ℕ). take count now ++ map f (keep passes l)) (drop-cons xs i 0 l)
              ∙ ap (λ b. take count now ++ map f (cond b (xs ! i ∷ keep passes (drop (suc i) xs)) (keep passes (drop (suc i) xs)))) e)
              ∙ h.filled);
        }

    pub filling-same : i < length xs → passes (xs ! i) ≡ false → Filling passes f xs whole before count (i + 1) now
    filling-same l e =
        let passed = h.passed in
        record {
          passed = omega arith;
          few = h.few;
          as_long = h.as_long;
          filled = rw (add-one i)
              (sym (ap (λ (l : List ℕ). take count now ++ map f (keep passes l)) (drop-cons xs i 0 l)
              ∙ ap (λ b. take count now ++ map f (cond b (xs ! i ∷ keep passes (drop (suc i) xs)) (keep passes (drop (suc i) xs)))) e)
              ∙ h.filled);
        }

    pub filling-all : length xs ≤ i → Front now count whole
    filling-all past =
        record {
          few = h.few;
          front = sym (append-nil (take count now))
              ∙ ap (λ (l : List ℕ). take count now ++ map f (keep passes l)) (sym (drop_of_length-le xs past))
              ∙ h.filled;
        }

-- # The numbers of the nodes of a class
abbrev pub Numbering : (nodes : List ℕ) (class : ℕ) (before : List ℕ) (count i : ℕ) (numbers : List ℕ) → Type 0
Numbering nodes class before count i numbers =
    Filling (λ n. eqb (n / 2 ^ 32 % 2 ^ 6) class) (λ n. n / 2 ^ 38) nodes (numbers_of class nodes) before count i numbers

module _ (nodes : List ℕ) (class : ℕ) (before : List ℕ) where
  pub numbering-none : Numbering nodes class before 0 0 before
  unfolding numbers_of
  numbering-none = filling-none _ _ nodes before 0

  module _ (count i : ℕ) (numbers : List ℕ) (h : Numbering nodes class before count i numbers) where
    pub numbering-more : length nodes ≤ length before → i < length nodes → nodes ! i / 2 ^ 32 % 2 ^ 6 ≡ class
        → Numbering nodes class before (count + 1) (i + 1) (set numbers count (nodes ! i / 2 ^ 38))
    numbering-more room l e = filling-more _ _ nodes _ before count i numbers h room l (eq-eqb _ class e)

    pub numbering-same : i < length nodes → (nodes ! i / 2 ^ 32 % 2 ^ 6 ≡ class → ⊥) → Numbering nodes class before count (i + 1) numbers
    numbering-same l e = filling-same _ _ nodes _ before count i numbers h l (ne_eqb _ class e)

    pub numbering-all : length nodes ≤ i → Front numbers count (numbers_of class nodes)
    numbering-all past = filling-all _ _ nodes _ before count i numbers h past

pub arm-fits : (b : ℕ) (images : List ℕ) (i : ℕ) → b < 2 ^ 6 → Below (2 ^ 16) images → i < length images → Fits w64 (b * 2 ^ 16 + images ! i)
arm-fits b images i h below l = let n = number_at_lem images i below l in omega arith

-- # The group that an image leads
split_at : (ks : List ℕ) (i : ℕ) → i < length ks → ks ≡ take i ks ++ (ks ! i ∷ drop (suc i) ks)
split_at ks i l = sym (take-append-drop i ks) ∙ ap (λ (m : List ℕ). take i ks ++ m) (drop-cons ks i 0 l)

-- of rising numbers, one before the place i is below the one at i
before-place : (ks : List ℕ) (i k : ℕ) → keys_rise ks ≡ true → i < length ks → k ∈ take i ks → k < ks ! i
unfolding keys_rise
before-place ks i k h l j =
    let rise : rising (map (λ k. k ∷ []) (take i ks ++ (ks ! i ∷ drop (suc i) ks))) ≡ true =
    ap (λ (m : List ℕ). rising (map (λ k. k ∷ []) m)) (sym (split_at ks i l)) ∙ h in
    let r = (rising-append (map (λ k. k ∷ []) (take i ks)) ((ks ! i ∷ []) ∷ map (λ k. k ∷ []) (drop (suc i) ks))).0 (rw map-append at rise) in
    ltb-true k (ks ! i) (rw before-number at (r.2 (k ∷ []) (ks ! i ∷ []) ((in_map (λ k. k ∷ []) (take i ks)).1 (k, j, refl)) (Memᴰ.head refl)))

-- arms to the images before the one at j that have the targets of the keys, of which those before the one at i are known to have others
pub record Leading (edges : List ℕ) (a b : ℕ) (images : List ℕ) (i : ℕ) (keys before : List ℕ) (count j : ℕ) (arms : List ℕ) : Type 0 where
  pub filling : Filling (has_targets edges a keys) (λ n. b * 2 ^ 16 + n) images
      (map (λ n. b * 2 ^ 16 + n) (keep (has_targets edges a keys) images)) before count j arms
  pub earlier : any (has_targets edges a keys) (take i images) ≡ any (has_targets edges a keys) (drop j (take i images))

module _ (edges : List ℕ) (a b : ℕ) (images : List ℕ) (i : ℕ) (rise : keys_rise images ≡ true) (l : i < length images) where
  abbrev first : ℕ
  first = images ! i

  abbrev like_first : ℕ → Bool
  like_first j = same (targets_at edges (run_of a j)) (targets_at edges (run_of a first))

  abbrev arm_to : ℕ → ℕ
  arm_to j = b * 2 ^ 16 + j

  group-split : keep like_first images ≡ keep like_first (take i images) ++ (first ∷ keep like_first (drop (suc i) images))
  group-split =
      ap (keep like_first) (split_at images i l)
      ∙ keep_append like_first (take i images) (first ∷ drop (suc i) images)
      ∙ rw ((same-list (targets_at edges (run_of a first)) (targets_at edges (run_of a first))).1 refl) refl

  led-first : cond (any like_first (take i images)) [] (map arm_to (keep like_first (drop i images))) ≡ arms_led_by edges a b images first
  unfolding arms_led_by
  led-first = rw (group-split, drop-cons images i 0 l) (go (keep like_first (take i images)) (any like_first (take i images)) refl refl)
    where
      go : (front : List ℕ) (o : Bool) → keep like_first (take i images) ≡ front → any like_first (take i images) ≡ o
          → cond o [] (map arm_to (keep like_first (first ∷ drop (suc i) images)))
          ≡ cond (eqb ((front ++ (first ∷ keep like_first (drop (suc i) images))) ! 0) first)
          (map arm_to (front ++ (first ∷ keep like_first (drop (suc i) images)))) []
      go [] true e h =
          let r = (any-member like_first (take i images)).0 h in
          absurd (Memᴰ.not-nil (subst (λ (m : List ℕ). r.0 ∈ m) e ((in-keep like_first (take i images)).1 (r.1, r.2))))
      go [] false e h = rw ((same-list (targets_at edges (run_of a first)) (targets_at edges (run_of a first))).1 refl, eq-eqb first first refl)
      go (y ∷ ys) true e h =
          let j = ((in-keep like_first (take i images)).0 (subst (λ (m : List ℕ). y ∈ m) (sym e) (Memᴰ.head refl))).0 in
          let below : y < first = before-place images i y rise l j in
          rw (ne_eqb y first (λ q. omega arith))
      go (y ∷ ys) false e h =
          let none = keep-none like_first (take i images) ((no_member like_first (take i images)).0 h) in
          let z : ◌≡◌ {A = ℕ} 0 1 = cc in absurd (omega arith)

  -- keys that have the targets of the image at i
  module _ (keys : List ℕ) (targets : map lowest keys ≡ targets_at edges (images ! i * 2 ^ 6 + a)) where
    abbrev has : ℕ → Bool
    has = has_targets edges a keys

    pub led-by : cond (any has (take i images)) [] (map arm_to (keep has (drop i images))) ≡ arms_led_by edges a b images (images ! i)
    led-by =
        ap (λ (ts : List ℕ).
        let p : ℕ → Bool = λ j. same (targets_at edges (run_of a j)) ts in
        cond (any p (take i images)) [] (map arm_to (keep p (drop i images)))) targets
        ∙ led-first

    pub leading-none : (before : List ℕ) → Leading edges a b images i keys before 0 0 before
    leading-none before = record { filling = filling-none has arm_to images before 0; earlier = refl }

    front-at : (j : ℕ) → j < i → take i images ! j ≡ images ! j
    front-at j m = get_or-take i images j 0 m

    front-long : length (take i images) ≡ i
    front-long = length-take-le i images (omega arith)

    -- an image before the one at i has the targets
    pub led-before : (j : ℕ) → j < i → has_targets edges a keys (images ! j) ≡ true → [] ≡ arms_led_by edges a b images (images ! i)
    led-before j m t =
        let one : true ≡ any has (take i images) = search-hit has (take i images) j (omega (arith, front-long)) (rw (front-at j m) t) in
        rw (← one) at led-by

    module _ (before : List ℕ) (count j : ℕ) (arms : List ℕ) (h : Leading edges a b images i keys before count j arms) where
      past : i ≤ j → drop j (take i images) ≡ []
      past m = drop_of_length-le (take i images) (omega (arith, front-long))

      further : i ≤ j → any has (take i images) ≡ any has (drop (j + 1) (take i images))
      further m =
          let long : length (take i images) ≤ j + 1 = omega (arith, front-long) in
          h.earlier ∙ ap (any has) (past m ∙ sym (drop_of_length-le (take i images) long))

      pub leading-more : length images ≤ length before → j < length images → has_targets edges a keys (images ! j) ≡ true → i ≤ j
          → Leading edges a b images i keys before (count + 1) (j + 1) (set arms count (b * 2 ^ 16 + images ! j))
      leading-more room k t m = record { filling = filling-more has arm_to images _ before count j arms h.filling room k t; earlier = further m }

      pub leading-same : j < length images → has_targets edges a keys (images ! j) ≡ false → Leading edges a b images i keys before count (j + 1) arms
      leading-same k t =
          record {
            filling = filling-same has arm_to images _ before count j arms h.filling k t;
            earlier = ⊎_elim
                (λ (m : j < i). search-on has (take i images) j (omega (arith, front-long)) (rw (front-at j m) t) h.earlier)
                further
                (cases_lt j i);
          }

      pub led-all : length images ≤ j → take count arms ≡ arms_led_by edges a b images (images ! i)
      led-all p =
          let none : false ≡ any has (take i images) = search-past has (take i images) j (omega (arith, front-long)) h.earlier in
          let passed : keep has (take i images) ≡ [] = keep-none has (take i images) ((no_member has (take i images)).0 (sym none)) in
          let all : keep has images ≡ keep has (drop i images) =
          ap (keep has) (sym (take-append-drop i images)) ∙ keep_append has (take i images) (drop i images) ∙ ap (λ (l : List ℕ). l ++ keep has (drop i images)) passed in
          (filling-all has arm_to images _ before count j arms h.filling p).front ∙ ap (map arm_to) all ∙ rw (← none) at led-by
