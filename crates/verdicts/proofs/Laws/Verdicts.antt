-- A line's verdict is what the definition of reading makes of the line: a text is read as the line's verdict says, and then as what follows it.
-- By the five tests of a line, each of which fails it or leaves it to the next.
use Rattle.std.specs.Prelude.{ℕ, suc, ◌≡◌, refl, ◌↔◌, Bool, true, false, cond, not, ◌&&◌, List, [], ◌∷◌, ◌++◌, length, Option, Some, Result, Ok, Err}
use Rattle.std.specs.Bool.{⊤}
use Rattle.std.proofs.Common.{arith, ap, sym}
use Rattle.lists.proofs.Laws.Lists.{both, not_so}
use Rattle.model.specs.Files.{Line, Checks, Format, checks_of, in_place, crowded, reading}
use Rattle.model.specs.Refusals.{Outcome, refused}
use Rattle.model.specs.Causes.{passes}
use Rattle.model.specs.declared.Refusal.{Refusal}
use Rattle.model.specs.declared.Refusal.TheVariants.{TooMany}
use Rattle.verdicts.specs.Verdicts.{judged, verdict}

-- what comes of a text whose next line has the verdict, where the rest of the text comes to `r`
abbrev pub after : {A : Type 0} → Result ⊤ Refusal → Outcome A → Outcome A
after (Ok passed) r = r
after (Err x) r = refused x

after_test : {A : Type 0} (t : Bool) (x : Refusal) (v : Result ⊤ Refusal) (r : Outcome A) → after (cond t (Err x) v) r ≡ cond t (refused x) (after v r)
after_test true x v r = refl
after_test false x v r = refl

test-passes : (t : Bool) (x : Refusal) (v : Result ⊤ Refusal) → (cond t (Err x) v ≡ Ok tt) ↔ ((t ≡ false) × (v ≡ Ok tt))
test-passes true x v = ((λ h. let z : ◌≡◌ {A = ℕ} 0 1 = cc in absurd (omega arith)), λ h. let z : ◌≡◌ {A = ℕ} 0 1 = cc in absurd (omega arith))
test-passes false x v = ((λ h. (refl, h)), λ h. h.1)

not-not : (a : Bool) → (not a ≡ false) ↔ (a ≡ true)
not-not true = ((λ h. refl), λ h. refl)
not-not false = ((λ h. sym h), λ h. sym h)

verdict-none : (line : ℕ) (in_place crowded : Bool) (c : Checks)
    → (verdict line in_place crowded c ≡ Ok tt) ↔ ((in_place && not crowded && c.declared && c.conforming && c.suited) ≡ true)
unfolding verdict judged
verdict-none line in_place crowded c = (
  (λ h. let p = simp (test-passes, not-not) at h in simp (both, not_so) ((((p.0, p.1.0), p.1.1.0), p.1.1.1.0), p.1.1.1.1.0)),
  λ h. let p = simp (both, not_so) at h in simp (test-passes, not-not) (p.0.0.0.0, (p.0.0.0.1, (p.0.0.1, (p.0.1, (p.1, refl))))),
)

pub uncrowded : (line : ℕ) (in_place crowded : Bool) (c : Checks) → verdict line in_place crowded c ≡ Ok tt → crowded ≡ false
uncrowded line in_place crowded c e = (simp (both, not_so) at ((verdict-none line in_place crowded c).0 e)).0.0.0.1

-- checks that come to the same: what is not declared is not asked whether it conforms
pub record Agree (c d : Checks) : Type 0 where
  pub declared : c.declared ≡ d.declared
  pub conforming : c.declared ≡ true → c.conforming ≡ d.conforming
  pub suited : c.suited ≡ d.suited

pub agree_same : {c d : Checks} → c ≡ d → Agree c d
agree_same e = record { declared = ap (λ c. c.declared) e; conforming = λ h. ap (λ c. c.conforming) e; suited = ap (λ c. c.suited) e }

judged-agrees : (line : ℕ) (c d : Checks) → Agree c d → judged line c ≡ judged line d
unfolding judged
judged-agrees line c d a = go c.declared refl
  where
    go : (t : Bool) → c.declared ≡ t → judged line c ≡ judged line d
    go true e = rw (← a.declared, ← a.conforming e, ← a.suited)
    go false e = rw (← a.declared, e)

pub verdict-agrees : (line : ℕ) (in_place crowded : Bool) (c d : Checks) → (in_place ≡ true → Agree c d)
    → verdict line in_place crowded c ≡ verdict line in_place crowded d
unfolding verdict
verdict-agrees line true crowded c d a = ap (cond crowded (Err (TooMany line))) (judged-agrees line c d (a refl))
verdict-agrees line false crowded c d a = refl

module _ {K : Type 0} (f : Format K) (above : List (Line K)) (l : Line K) where
  -- the verdict that the definition gives the line under the lines above it
  abbrev pub verdict_of : Result ⊤ Refusal
  verdict_of = verdict (suc (length above)) (in_place f above l) (crowded f above l) (checks_of f above l)

  -- a text is read by the verdicts of its lines
  pub reading-verdict : (os : List (Option (Line K))) → reading f above (Some l ∷ os) ≡ after verdict_of (reading f (above ++ (l ∷ [])) os)
  unfolding reading verdict judged
  reading-verdict os = simp after_test

  -- a line passes exactly if none of causes 1 to 5 applies to it
  pub verdict-passes : (verdict_of ≡ Ok tt) ↔ (passes f above l ≡ true)
  verdict-passes = verdict-none (suc (length above)) (in_place f above l) (crowded f above l) (checks_of f above l)
