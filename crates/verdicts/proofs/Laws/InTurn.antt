-- A line in turn and order under lines that pass: none of a later key stands above it, and with it the lines of its key rise.
-- By the last line above: it has an earlier key, and then none of the line's key stands, or the same key, and then it comes last of that.
use Rattle.std.specs.Prelude.{ℕ, ◌<◌, ◌≡◌, refl, ◌⊎◌, true, take, Option, None, Some}
use Rattle.std.proofs.Common.{arith, ap, ◌∙◌, subst, inl, inr, eq-eqb}
use mathlib.Core.List.{List, [], ◌∷◌, ◌++◌, map, map-append}
use Rattle.lists.specs.Lists.{last_of}
use Rattle.lists.specs.Order.{before, rising}
use Rattle.lists.proofs.Laws.Order.{lexicographic}
use Rattle.lists.proofs.Laws.OneMore.{no_last, last-split, rising-after}
use Rattle.model.specs.Files.{Line, Format, rises, numbers_of, follows}
use Rattle.model.specs.InForm.{LineInForm}
use Rattle.model.proofs.Laws.Lines.{Regular}
use Rattle.model.proofs.Laws.Passing.{turn_of, Passing, passing-in-order, numbers-append}
use Rattle.model.proofs.Laws.Keys.{rows_rise, passing-fits, later-not-yet}

module _ {K : Type 0} (f : Format K) (regular : Regular f) (above : List (Line K)) (l : Line K) (passing : Passing f above) (in-form : LineInForm f l)
    (in-turn : follows f.form_of (last_of above) l ≡ true) where
  -- the line is the first, or the last line above it is one that it follows
  data Stands : Type 0 where
    first : above ≡ [] → Stands
    after : (front : List (Line K)) (a : Line K) → above ≡ front ++ (a ∷ []) → (turn_of f a.key < turn_of f l.key)
        ⊎ ((turn_of f a.key ≡ turn_of f l.key) × (rises (f.form_of l.key).by a.numbers l.numbers ≡ true)) → Stands

  line-stands : Stands
  line-stands = go (last_of above) refl in-turn
    where
      go : (o : Option (Line K)) → last_of above ≡ o → follows f.form_of o l ≡ true → Stands
      go None e t = first (no_last above e)
      go (Some a) e t =
          let r = last-split above e in
          after r.0 a r.1 ((lexicographic (turn_of f a.key) (turn_of f l.key) (rises (f.form_of l.key).by a.numbers l.numbers)).0 t)

  none_after : (front : List (Line K)) (a : Line K) → above ≡ front ++ (a ∷ []) → (k : K) → turn_of f a.key < turn_of f k
      → numbers_of f.form_of k above ≡ []
  none_after front a e k h =
      ap (numbers_of f.form_of k) e ∙ later-not-yet f above front [] a (passing-in-order f regular above passing) e k h

  -- no line of a later key stands above it
  pub none-later : (k : K) → turn_of f l.key < turn_of f k → numbers_of f.form_of k above ≡ []
  none-later k h = go line-stands
    where
      go : Stands → numbers_of f.form_of k above ≡ []
      go (first e) = ap (numbers_of f.form_of k) e
      go (after front a e (inl t)) = none_after front a e k (omega arith)
      go (after front a e (inr t)) = let q = t.0 in none_after front a e k (omega arith)

  -- with it, the lines of its key rise by the numbers that count
  pub rows-rise-with : (n : ℕ) → (f.form_of l.key).by ≡ Some n
      → rising (map (take n) (numbers_of f.form_of l.key above ++ (l.numbers ∷ []))) ≡ true
  rows-rise-with n by = go line-stands
    where
      rows : List (List ℕ)
      rows = numbers_of f.form_of l.key above

      alone : rows ≡ [] → rising (map (take n) (rows ++ (l.numbers ∷ []))) ≡ true
      alone e = rw e

      go : Stands → rising (map (take n) (rows ++ (l.numbers ∷ []))) ≡ true
      go (first e) = alone (ap (numbers_of f.form_of l.key) e)
      go (after front a e (inl t)) = alone (none_after front a e l.key t)
      go (after front a e (inr t)) =
          let k = l.key in
          let one : numbers_of f.form_of k (a ∷ []) ≡ a.numbers ∷ [] = rw (eq-eqb (turn_of f a.key) (turn_of f k) t.0) in
          let last_row : rows ≡ numbers_of f.form_of k front ++ (a.numbers ∷ []) =
          ap (numbers_of f.form_of k) e ∙ numbers-append f.form_of k front (a ∷ []) ∙ ap (λ xs. numbers_of f.form_of k front ++ xs) one in
          let rise : rising (map (take n) rows) ≡ true =
          subst (λ b. rows_rise b rows ≡ true) by ((passing-fits f regular above passing).rise k in-form.listed) in
          let last : before (take n a.numbers) (take n l.numbers) ≡ true = subst (λ b. rises b a.numbers l.numbers ≡ true) by t.1 in
          rw (last_row, map-append, map-append)
          (rising-after (map (take n) (numbers_of f.form_of k front)) (take n a.numbers) (take n l.numbers) (rw (last_row, map-append) at rise) last)
