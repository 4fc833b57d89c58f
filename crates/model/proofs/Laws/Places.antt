-- Where a line stands among lines that all pass, and what it meets there under the lines above it.
-- By induction on the lines.
use Rattle.std.specs.Prelude.{ℕ, ◌≡◌, true, List, [], ◌∷◌, ◌++◌}
use Rattle.std.proofs.Common.{ap, ap₂, sym, subst, ⊎_elim, append_assoc, append-nil}
use mathlib.Core.List.Memᴰ
use Rattle.lists.specs.Lists.{◌∈◌}
use Rattle.lists.proofs.Laws.Lists.{both, in-cons}
use Rattle.model.specs.Files.{Line, Format, numbers_of}
use Rattle.model.specs.Causes.{passes, all_pass}
use Rattle.model.proofs.Laws.Lines.{Regular}
use Rattle.model.proofs.Laws.Passing.{Passing, Meets, meets-iff, of-key}

module _ {K : Type 0} (f : Format K) where
  -- the lines above and below a line, and what it meets
  pub record Place (ls : List (Line K)) (l : Line K) : Type 0 where
    pub above : List (Line K)
    pub below : List (Line K)
    pub split : ls ≡ above ++ l ∷ below
    pub meets : Meets f above l

  place-from : (front ls : List (Line K)) (l : Line K) → all_pass f front ls ≡ true → l ∈ ls
      → (above : List (Line K)) × (below : List (Line K)) × (ls ≡ above ++ l ∷ below) × (passes f (front ++ above) l ≡ true)
  place-from front [] l h i = absurd (Memᴰ.not-nil i)
  place-from front (m ∷ ls) l h i =
      let p = (both (passes f front m) (all_pass f (front ++ (m ∷ [])) ls)).0 h in
      ⊎_elim
      (λ e. ([], ls, ap (λ (n : Line K). n ∷ ls) (sym e), rw append-nil (subst (λ (n : Line K). passes f front n ≡ true) (sym e) p.0)))
      (λ j.
      let r = place-from (front ++ (m ∷ [])) ls l p.1 j in
      (m ∷ r.0, r.1, ap (λ (ns : List (Line K)). m ∷ ns) r.2, rw append_assoc at r.3))
      (in-cons.0 i)

  module _ (regular : Regular f) (ls : List (Line K)) (passing : Passing f ls) where
    place_of_lem : (l : Line K) → l ∈ ls → Place ls l
    place_of_lem l i =
        let r = place-from [] ls l passing.pass i in
        record { above = r.0; below = r.1; split = r.2; meets = (meets-iff f r.0 l).0 r.3 }

    pub place-of-key : (k : K) → k ∈ f.keys → (x : List ℕ) → x ∈ numbers_of f.form_of k ls → Place ls (record { key = k; numbers = x })
    place-of-key k j x i =
        let r = of-key f regular k j ls passing.in-form x i in
        subst (Place ls) (ap₂ (λ (a : K) (b : List ℕ). record { key = a; numbers = b }) r.2 (sym r.3)) (place_of_lem r.0 r.1)
