-- The undo history as a list: what push and pop leave when the copies that stand are moved by one place.
use Rattle.std.specs.Prelude.{ℕ, zero, suc, ◌+◌, ◌-◌, ◌<◌, ◌≤◌, min, ◌≡◌, refl, List, [], ◌∷◌, length, get_or, take, drop, set}
use Rattle.std.specs.List.{copy_within}
use Rattle.std.proofs.Common.{add-one, arith, ap, sym, ◌∙◌, length-drop, zero-add}
use Rattle.std.proofs.Math.Seq.{paste}
use Rattle.std.proofs.Math.Nat.{zero-min, min-zero, suc-min-suc}
use Rattle.std.proofs.lemmas.List.Edits.{take-paste}
use Rattle.model.specs.Limits
use Rattle.graph.specs.declared.history.History.{History}
use Rattle.graph.specs.declared.instance.PackedInstance.{PackedInstance}
use Rattle.history.specs.Histories.{PoppedOff}

-- # Lists
module _ {A : Type 0} where
  pub take_min : (m n : ℕ) (xs : List A) → take m (take n xs) ≡ take (min m n) xs
  take_min zero n xs = ap (λ (k : ℕ). take k xs) (sym (zero-min n))
  take_min (suc m) zero xs = ap (λ (k : ℕ). take k xs) (sym (min-zero (suc m)))
  take_min (suc m) (suc n) [] = rw suc-min-suc refl
  take_min (suc m) (suc n) (x ∷ xs) = rw suc-min-suc (ap (λ (l : List A). x ∷ l) (take_min m n xs))

  pub take-first : (n : ℕ) (xs : List A) (z : A) → 0 < n → 0 < length xs → take n xs ≡ get_or xs 0 z ∷ take (n - 1) (drop 1 xs)
  take-first zero xs z h k = absurd (omega arith)
  take-first (suc n) [] z h k = absurd (omega arith)
  take-first (suc n) (x ∷ xs) z h k = let e : n ≡ suc n - 1 = omega arith in ap (λ (i : ℕ). x ∷ take i xs) e

  pub take-stored : (n : ℕ) (xs : List A) (x : A) → 0 < length xs → take (n + 1) (set xs 0 x) ≡ x ∷ take n (drop 1 xs)
  take-stored n [] x h = absurd (omega arith)
  take-stored n (y ∷ xs) x h = rw add-one refl

module _ (h : History) (whole : length h.copies ≡ Limits.copies) (few : h.depth ≤ Limits.copies) where
  -- # Pop
  pub popped-off : (z : PackedInstance) → 0 < h.depth
      → PoppedOff h (get_or h.copies 0 z) (record { copies = copy_within h.copies 1 h.depth 0; depth = h.depth - 1 })
  popped-off z k =
      let left = h.depth - 1 in
      let down = paste h.copies 0 (drop 1 h.copies) left in
      let moved : take left down ≡ take left (drop 1 h.copies) =
      ap (λ (j : ℕ). take j down) (sym (zero-add left)) ∙ take-paste h.copies 0 (drop 1 h.copies) left (omega arith) (omega (arith, length-drop 1 h.copies)) in
      record {
        popped = take-first h.depth h.copies z k (omega arith) ∙ ap (λ (l : List PackedInstance). get_or h.copies 0 z ∷ l) (sym moved);
        few = omega arith;
      }
