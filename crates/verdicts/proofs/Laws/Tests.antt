-- A line's verdict by the outcomes of its tests, "tried 1 to 5": the first that fails it decides. The tests are as code leaves them: a result
-- that is that of a test, and the branch taken on it.
use Rattle.std.specs.Prelude.{ℕ, ◌≡◌, Bool, true, false, not, ◌&&◌, Ok, Err}
use Rattle.std.proofs.Common.{sym, ◌∙◌}
use Rattle.std.proofs.lemmas.Bool.{not-true, not-false}
use Rattle.model.specs.Files.{Checks}
use Rattle.model.specs.declared.Refusal.TheVariants.{Malformed, TooMany, Undeclared, Nonconforming, BadAction}
use Rattle.verdicts.specs.Verdicts.{judged, verdict}

-- # Causes 1 and 2, after which the checks decide
module _ (line : ℕ) (in_place crowded : Bool) (c : Checks) where
  pub verdict-malformed : in_place ≡ false → verdict line in_place crowded c ≡ Err (Malformed line)
  unfolding verdict
  verdict-malformed e = rw e

  module _ (e : in_place ≡ true) where
    pub verdict-crowded : crowded ≡ true → verdict line in_place crowded c ≡ Err (TooMany line)
    unfolding verdict
    verdict-crowded f = rw (e, f)

    pub verdict-judged : crowded ≡ false → verdict line in_place crowded c ≡ judged line c
    unfolding verdict
    verdict-judged f = rw (e, f)

-- # Causes 3 to 5, by the first of a line's checks that fails
module _ (line : ℕ) (c : Checks) where
  pub judged-undeclared : c.declared ≡ false → Err (Undeclared line) ≡ judged line c
  unfolding judged
  judged-undeclared d = rw d

  module _ (declared : c.declared ≡ true) where
    pub judged-nonconforming : c.conforming ≡ false → Err (Nonconforming line) ≡ judged line c
    unfolding judged
    judged-nonconforming e = rw (declared, e)

    module _ (conforming : c.conforming ≡ true) where
      pub judged-bad-action : c.suited ≡ false → Err (BadAction line) ≡ judged line c
      unfolding judged
      judged-bad-action s = rw (declared, conforming, s)

      pub judged-passes : c.suited ≡ true → Ok tt ≡ judged line c
      unfolding judged
      judged-passes s = rw (declared, conforming, s)

-- # A test's result
module _ {r t : Bool} (made : r ≡ t) where
  pub failed : not r ≡ true → t ≡ false
  failed h = sym made ∙ not-true r h

  pub passed : not r ≡ false → t ≡ true
  passed h = sym made ∙ not-false r h

  -- a test that must fail
  pub not-failed : r ≡ true → not t ≡ false
  not-failed h = rw (← made, h)

  pub not-passed : r ≡ false → not t ≡ true
  not-passed h = rw (← made, h)

  -- the last of several tests, whose result is that of all
  pub last-test : (a : Bool) → a ≡ true → r ≡ (a && t)
  last-test a h = rw (h, made)

module _ (a b : Bool) where
  pub first-failed : a ≡ false → (a && b) ≡ false
  first-failed h = rw h

  pub second-failed : a ≡ true → b ≡ false → (a && b) ≡ false
  second-failed h k = rw (h, k)

  pub both-passed : a ≡ true → b ≡ true → (a && b) ≡ true
  both-passed h k = rw (h, k)

pub ruleset Tests = (failed, passed, not-failed, not-passed, last-test, first-failed, second-failed, both-passed)

pub ruleset Judging = (judged-undeclared, judged-nonconforming, judged-bad-action, judged-passes, Tests)
