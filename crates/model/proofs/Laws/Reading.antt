-- A text is refused exactly for its first bad line, with the first of causes 1 to 5 that applies to it, or for a line missing at the end.
-- By induction on the lines; one line by the five tests that are made of it.
use Prim.Native.Nat.{ℕ, suc}
use Rattle.std.specs.Prelude.{◌≡◌, ◌↔◌, ◌⊎◌, Bool, true, false, not, ◌&&◌, length, Option, None, Some}
use Rattle.std.proofs.Math.Path.{refl, ap, sym, subst}
use Rattle.std.proofs.Common.{◌∙◌, true≢false}
use Rattle.std.proofs.Math.Logic.{inl, inr, ⊎_elim}
use mathlib.Core.List.{List, [], ◌∷◌, ◌++◌, map, append_assoc, append-nil}
use borrow.Author.Tests.{not-true, not-false}
use Rattle.lists.proofs.Laws.Lists.{both, not_so}
use Rattle.lists.specs.Text.{pieces}
use Rattle.model.specs.Files.{Line, Checks, Format, checks_of, in_place, crowded, lines_of, reading, read}
use Rattle.model.specs.Refusals.{refused}
use Rattle.model.specs.Causes.{passes, all_pass, BadLine, out-of-form, out-of-turn, too_many, undeclared, nonconforming, bad-action}
use Rattle.model.specs.Causes.{BadText, first-bad, missing}
use Rattle.model.proofs.Laws.Outcomes.{same-refusal, unless-refused, otherwise-refused}
use Rattle.model.specs.declared.Refusal.{Refusal}
use Rattle.model.specs.declared.Refusal.TheVariants.{Malformed, TooMany, Undeclared, Nonconforming, BadAction}

module _ {K : Type 0} (f : Format K) where
  -- a line is refused for what is wrong with it, or else for what follows it
  line_refused : (above : List (Line K)) (l : Line K) (os : List (Option (Line K))) {x : Refusal} → reading f above (Some l ∷ os) ≡ refused x
      → BadLine f above (Some l) x ⊎ ((passes f above l ≡ true) × (reading f (above ++ (l ∷ [])) os ≡ refused x))
  unfolding reading
  line_refused above l os {x} h =
      let c = checks_of f above l in
      let n = suc (length above) in
      ⊎_elim (λ q. inl (subst (BadLine f above (Some l)) q.1 (out-of-turn (not-true (in_place f above l) q.0))))
      (λ q.
      let one = not-false (in_place f above l) q.0 in
      ⊎_elim (λ p. inl (subst (BadLine f above (Some l)) p.1 (too_many one p.0)))
      (λ p.
      ⊎_elim (λ r. inl (subst (BadLine f above (Some l)) r.1 (undeclared one p.0 (not-true c.declared r.0))))
      (λ r.
      let three = not-false c.declared r.0 in
      ⊎_elim (λ t. inl (subst (BadLine f above (Some l)) t.1 (nonconforming one p.0 three (not-true c.conforming t.0))))
      (λ t.
      let four = not-false c.conforming t.0 in
      ⊎_elim (λ u. inl (subst (BadLine f above (Some l)) u.1 (bad-action one p.0 three four (not-true c.suited u.0))))
      (λ u. inr (simp (both, not_so) (((((simp both at one), p.0), three), four), not-false c.suited u.0), u.1))
      ((unless-refused (not c.suited) (BadAction n) _ x).0 t.1))
      ((unless-refused (not c.conforming) (Nonconforming n) _ x).0 r.1))
      ((unless-refused (not c.declared) (Undeclared n) _ x).0 p.1))
      ((unless-refused (crowded f above l) (TooMany n) _ x).0 q.1))
      ((unless-refused (not (in_place f above l)) (Malformed n) _ x).0 h)

  -- a bad line is refused, whatever follows it
  pub bad-line-refused : (above : List (Line K)) (o : Option (Line K)) (os : List (Option (Line K))) {x : Refusal} → BadLine f above o x
      → reading f above (o ∷ os) ≡ refused x
  unfolding reading
  bad-line-refused above None os out-of-form = refl
  bad-line-refused above (Some l) os (out-of-turn a) = rw a
  bad-line-refused above (Some l) os (too_many a b) = rw (a, b)
  bad-line-refused above (Some l) os (undeclared a b c) = rw (a, b, c)
  bad-line-refused above (Some l) os (nonconforming a b c d) = rw (a, b, c, d)
  bad-line-refused above (Some l) os (bad-action a b c d e) = rw (a, b, c, d, e)

  -- a line that does not pass is bad
  pub bad-line : (above : List (Line K)) (l : Line K) → passes f above l ≡ false → (x : Refusal) × BadLine f above (Some l) x
  bad-line above l h = go (in_place f above l) (crowded f above l) c.declared c.conforming c.suited refl refl refl refl refl h
    where
      c : Checks
      c = checks_of f above l

      go : (one two three four five : Bool) → in_place f above l ≡ one → crowded f above l ≡ two → c.declared ≡ three → c.conforming ≡ four
          → c.suited ≡ five → (one && not two && three && four && five) ≡ false → (x : Refusal) × BadLine f above (Some l) x
      go false two three four five a b d e g h = (_, out-of-turn a)
      go true true three four five a b d e g h = (_, too_many a b)
      go true false false four five a b d e g h = (_, undeclared a b d)
      go true false true false five a b d e g h = (_, nonconforming a b d e)
      go true false true true false a b d e g h = (_, bad-action a b d e g)
      go true false true true true a b d e g h = absurd (true≢false h)

  -- # Lines
  -- a line that passes is read, and what follows it is read under it
  pub reading-passing : (above : List (Line K)) (l : Line K) (os : List (Option (Line K))) → passes f above l ≡ true
      → reading f above (Some l ∷ os) ≡ reading f (above ++ (l ∷ [])) os
  unfolding reading
  reading-passing above l os h = let p = simp (both, not_so) at h in rw (p.0.0.0.0.0, p.0.0.0.0.1, p.0.0.0.1, p.0.0.1, p.0.1, p.1)

  -- lines that all pass are read, and what follows them is read under them
  pub reading-through : (above ls : List (Line K)) (os : List (Option (Line K))) → all_pass f above ls ≡ true
      → reading f above (map Some ls ++ os) ≡ reading f (above ++ ls) os
  reading-through above [] os h = rw append-nil
  reading-through above (l ∷ ls) os h =
      let p = (both (passes f above l) (all_pass f (above ++ (l ∷ [])) ls)).0 h in
      reading-passing above l (map Some ls ++ os) p.0
      ∙ reading-through (above ++ (l ∷ [])) ls os p.1
      ∙ ap (λ (ms : List (Line K)). reading f ms os) (append_assoc above (l ∷ []) ls)

  -- how lines read under `above` come to a refusal
  data Bad (above : List (Line K)) (os : List (Option (Line K))) (x : Refusal) : Type 0 where
    stops : (front : List (Line K)) (o : Option (Line K)) (rest : List (Option (Line K))) → os ≡ map Some front ++ o ∷ rest
        → all_pass f above front ≡ true → BadLine f (above ++ front) o x → Bad above os x
    ends : (ls : List (Line K)) → os ≡ map Some ls → all_pass f above ls ≡ true → f.complete (above ++ ls) ≡ false
        → Malformed (suc (length (above ++ ls))) ≡ x → Bad above os x

  bad-later : (above : List (Line K)) (l : Line K) (os : List (Option (Line K))) {x : Refusal} → passes f above l ≡ true → Bad (above ++ (l ∷ [])) os x
      → Bad above (Some l ∷ os) x
  bad-later above l os p (stops front o rest e a b) =
      stops (l ∷ front) o rest (ap (λ (ms : List (Option (Line K))). Some l ∷ ms) e)
      ((both (passes f above l) (all_pass f (above ++ (l ∷ [])) front)).1 (p, a)) (rw append_assoc at b)
  bad-later above l os p (ends ls e a c n) =
      ends (l ∷ ls) (ap (λ (ms : List (Option (Line K))). Some l ∷ ms) e)
      ((both (passes f above l) (all_pass f (above ++ (l ∷ [])) ls)).1 (p, a)) (rw append_assoc at c) (rw append_assoc at n)

  refused-bad : (above : List (Line K)) (os : List (Option (Line K))) {x : Refusal} → reading f above os ≡ refused x → Bad above os x
  unfolding reading
  refused-bad above [] {x} h =
      let r = (otherwise-refused (f.complete above) _ above x).0 h in
      ends [] refl refl (rw append-nil r.0) (rw append-nil (same-refusal r.1))
  refused-bad above (None ∷ os) h = stops [] None os refl refl (rw append-nil (subst (BadLine f above None) (same-refusal h) out-of-form))
  refused-bad above (Some l ∷ os) h =
      ⊎_elim (λ b. stops [] (Some l) os refl refl (rw append-nil b)) (λ q. bad-later above l os q.0 (refused-bad (above ++ (l ∷ [])) os q.1))
      (line_refused above l os h)

  bad-refused : (above : List (Line K)) (os : List (Option (Line K))) {x : Refusal} → Bad above os x → reading f above os ≡ refused x
  unfolding reading
  bad-refused above os (stops front o rest e a b) =
      ap (reading f above) e ∙ reading-through above front (o ∷ rest) a ∙ bad-line-refused (above ++ front) o rest b
  bad-refused above os (ends ls e a c n) =
      ap (reading f above) (e ∙ sym (append-nil (map Some ls))) ∙ reading-through above ls [] a ∙ rw c (ap refused n)

  -- a text is refused exactly if it is a bad text
  pub read-refused : (t : List ℕ) (x : Refusal) → (read f t ≡ refused x) ↔ BadText f t x
  unfolding read
  read-refused t x = (
    (λ h. to (refused-bad [] (lines_of f (pieces 10 t)) h)),
    from,
  )
    where
      to : {x : Refusal} → Bad [] (lines_of f (pieces 10 t)) x → BadText f t x
      to (stops front o rest e a b) = first-bad front o rest e a b
      to (ends ls e a c n) = subst (BadText f t) n (missing ls e a c)

      from : {x : Refusal} → BadText f t x → reading f [] (lines_of f (pieces 10 t)) ≡ refused x
      from (first-bad above o rest e a b) = bad-refused [] (lines_of f (pieces 10 t)) (stops above o rest e a b)
      from (missing ls e a c) = bad-refused [] (lines_of f (pieces 10 t)) (ends ls e a c refl)
