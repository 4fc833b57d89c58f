-- Arms to the images that have just the targets of one, without regard to which image leads: filled in one pass, and none where an image before has them.
use Prim.Native.Nat.{ℕ, ◌+◌, ◌*◌, ◌^◌, ◌<◌, ◌≤◌}
use Rattle.std.proofs.Common.{arith, ◌∙◌, sym}
use Rattle.std.proofs.Math.Path.{◌≡◌, refl}
use Rattle.std.proofs.Math.Bool.{Bool, true, false, cond}
use mathlib.Core.List.{List, [], map}
use Rattle.std.specs.Prelude.{length, take, set}
use Rattle.std.proofs.Math.ListN.{drop}
use Rattle.lists.specs.Lists.{any, keep, ◌!◌}
use Rattle.lists.specs.Order.{same}
use Rattle.keys.specs.Keys.{keys_rise, Front}
use Rattle.edge_runs.specs.Runs.{lowest, targets_at, has_targets}
use Rattle.groups.specs.Groups.{arms_led_by}
use Rattle.groups.proofs.Laws.Grouping.{Filling, filling-none, filling-more, filling-same, filling-all, led-by}

-- arms of the name b to the images whose targets by a are just the given ones
unfoldable pub arms_alike : (edges : List ℕ) → (a : ℕ) → (keys : List ℕ) → (b : ℕ) → (images : List ℕ) → List ℕ
arms_alike edges a keys b images = map (λ i. b * 2 ^ 16 + i) (keep (has_targets edges a keys) images)

-- but none where an image before the one at i has them
unfoldable pub arms_unless_before : (edges : List ℕ) → (a : ℕ) → (keys : List ℕ) → (b : ℕ) → (images : List ℕ) → (i : ℕ) → List ℕ
arms_unless_before edges a keys b images i =
    cond (any (has_targets edges a keys) (take i images)) [] (arms_alike edges a keys b (drop i images))

-- # Arms to the images that have just the targets
module _ (edges : List ℕ) (a : ℕ) (keys : List ℕ) (b : ℕ) where
  abbrev pub Arming : (images whole before : List ℕ) (count i : ℕ) (arms : List ℕ) → Type 0
  Arming images whole before count i arms = Filling (has_targets edges a keys) (λ n. b * 2 ^ 16 + n) images whole before count i arms

  module _ (images before : List ℕ) where
    pub arming-none : (i : ℕ) → Arming images (arms_alike edges a keys b (drop i images)) before 0 i before
    unfolding arms_alike
    arming-none i = filling-none _ _ images before i

    module _ (whole : List ℕ) (count i : ℕ) (arms : List ℕ) (h : Arming images whole before count i arms) (o : Bool)
        (e : o ≡ same (targets_at edges (images ! i * 2 ^ 6 + a)) (map lowest keys)) (l : i < length images) where
      pub arming-more : length images ≤ length before → o ≡ true
          → Arming images whole before (count + 1) (i + 1) (set arms count (b * 2 ^ 16 + images ! i))
      arming-more room t = filling-more _ _ images whole before count i arms h room l (sym e ∙ t)

      pub arming-same : o ≡ false → Arming images whole before count (i + 1) arms
      arming-same t = filling-same _ _ images whole before count i arms h l (sym e ∙ t)

    pub arming-all : (whole : List ℕ) (count i : ℕ) (arms : List ℕ) → Arming images whole before count i arms → length images ≤ i
        → Front arms count whole
    arming-all whole count i arms h past = filling-all _ _ images whole before count i arms h past

-- # The group that an image leads
module _ (edges : List ℕ) (a : ℕ) (keys : List ℕ) (b : ℕ) (images : List ℕ) (i : ℕ) (o : Bool)
    (e : o ≡ any (has_targets edges a keys) (take i images)) where
  pub unless-had : (arms : List ℕ) → o ≡ true → Front arms 0 (arms_unless_before edges a keys b images i)
  unfolding arms_unless_before
  unless-had arms t = rw (sym e ∙ t) (record { few = omega arith; front = refl })

  pub unless-lacked : (arms : List ℕ) (r : ℕ) → o ≡ false → Front arms r (arms_alike edges a keys b (drop i images))
      → Front arms r (arms_unless_before edges a keys b images i)
  unfolding arms_unless_before
  unless-lacked arms r t h = rw (sym e ∙ t) h

module _ (edges : List ℕ) (a b : ℕ) (images : List ℕ) (i : ℕ) (rise : keys_rise images ≡ true) (l : i < length images) where
  pub led-front : (keys arms : List ℕ) (r : ℕ) → map lowest keys ≡ targets_at edges (images ! i * 2 ^ 6 + a)
      → Front arms r (arms_unless_before edges a keys b images i) → Front arms r (arms_led_by edges a b images (images ! i))
  unfolding arms_unless_before arms_alike
  led-front keys arms r e h = record { few = h.few; front = h.front ∙ led-by edges a b images i rise l keys e }
