-- A listing by `first` and `after` gives exactly the matchings: in a rising list, the first member after a given one is the member that
-- follows it.
use Rattle.std.specs.Prelude.{ℕ, ◌≡◌, refl, ◌↔◌, true, List, [], ◌∷◌, ◌++◌, map, length, Option}
use Rattle.std.proofs.Common.{ap, ap₂, ◌∙◌, inr, map-id, append_assoc}
use mathlib.Core.List.Memᴰ
use borrow.Author.Tests.{eq-eqb}
use Rattle.lists.specs.Lists.{◌∈◌}
use Rattle.lists.specs.Order.{before, rising, Smallest}
use Rattle.lists.proofs.Laws.Lists.{in-append}
use Rattle.lists.proofs.Laws.Order.{rising-next, smallest-same, find-smallest}
use Rattle.model.specs.Graph.{Scheme, Instance, nodes_rise}
use Rattle.model.specs.Matching.{matchings, smallest, smallest_after}
use Rattle.model.specs.Operations.{Rule}
use Rattle.model.specs.Refusals.{Outcome, accepted}
use Rattle.model.specs.Files.RuleText.{read_rule}
use Rattle.model.specs.Record.{opened, First, After, Report, matching, accept, step, ListingFrom, ends, goes, Listing}
use Rattle.model.specs.Meaning.{Matches}
use Rattle.model.proofs.Laws.Matchings.{in-matchings, matchings-rise, matching-length}

-- a listing in which each answer to a member of a rising list is the first member after it
module _ (next : List ℕ → Outcome Report) (all : List (List ℕ)) (rise : rising all ≡ true)
    (afters : (m : List ℕ) → m ∈ all → next m ≡ accepted (matching (smallest_after m all))) where
  -- the answer to a member is the one that follows it
  follows : (front back : List (List ℕ)) (m : List ℕ) → front ++ m ∷ back ≡ all → next m ≡ accepted (matching (smallest back))
  follows front back m e =
      afters m (rw (← e) ((in-append front (m ∷ back)).1 (inr (Memᴰ.head refl))))
      ∙ rw (← e) (ap (λ (o : Option (List ℕ)). accepted (matching o)) (rising-next front back m (rw e rise)))

  -- the lists that a listing gives after those in front
  listing-from : (front back : List (List ℕ)) → front ++ back ≡ all
      → {a : Outcome Report} {ms : List (List ℕ)} → ListingFrom next a ms → a ≡ accepted (matching (smallest back)) → ms ≡ back
  listing-from front [] e ends h = refl
  listing-from front (x ∷ back) e ends h = cc
  listing-from front [] e (goes l) h = cc
  listing-from front (x ∷ back) e (goes {m} {ms} l) h =
      let k : m ≡ x = cc in
      ap₂ ◌∷◌ k (listing-from (front ++ x ∷ []) back (append_assoc front (x ∷ []) back ∙ e) l (rw k (follows front back x e)))

  -- there is such a listing
  listing-of : (front back : List (List ℕ)) → front ++ back ≡ all
      → (a : Outcome Report) → a ≡ accepted (matching (smallest back)) → ListingFrom next a back
  listing-of front [] e a h = rw h ends
  listing-of front (x ∷ back) e a h =
      rw h (goes (listing-of (front ++ x ∷ []) back (append_assoc front (x ∷ []) back ∙ e) (next x) (follows front back x e)))

  -- from the first member on, it gives them all and nothing else
  pub listing-gives-all : (a : Outcome Report) → a ≡ accepted (matching (smallest all)) → (ms : List (List ℕ)) → ListingFrom next a ms ↔ (ms ≡ all)
  listing-gives-all a h ms = ((λ l. listing-from [] all refl l h), λ e. rw e (listing-of [] all refl a h))

-- an accepted rule text in an open drawing
module _ (s : Scheme) (d : Instance) (cs : List Instance) (rule : List ℕ) (r : Rule) (reads : read_rule s rule ≡ accepted r) where
  first-answers : (step (opened s d cs) (First rule)).answer ≡ accepted (matching (smallest (matchings r.pattern d)))
  unfolding step accept
  first-answers = rw reads

  after-answers : (l : List ℕ) → length l ≡ length r.pattern.nodes
      → (step (opened s d cs) (After rule l)).answer ≡ accepted (matching (smallest_after l (matchings r.pattern d)))
  unfolding step accept
  after-answers l e = rw (reads, eq-eqb (length l) (length r.pattern.nodes) e)

  module _ (rise : nodes_rise d ≡ true) where
    all-rise : rising (map (λ m. m) (matchings r.pattern d)) ≡ true
    all-rise = rw map-id (matchings-rise r.pattern d rise)

    -- "first gives the smallest matching of an accepted pattern", or none
    pub first-gives-smallest : (o : Option (List ℕ)) × ((step (opened s d cs) (First rule)).answer ≡ accepted (matching o))
        × Smallest (λ m. m) (Matches r.pattern d) o
    first-gives-smallest = (
      smallest (matchings r.pattern d),
      first-answers,
      smallest-same (λ m. m) _ (Matches r.pattern d)
          (λ m. let e = in-matchings r.pattern d m in ((λ h. e.0 h.0), λ h. (e.1 h, refl)))
          (smallest (matchings r.pattern d)) (find-smallest (λ m. m) (λ m. true) (matchings r.pattern d) all-rise),
    )

    -- "after gives the smallest one greater than a given list (which need not be a matching), or none"
    pub after-gives-smallest : (l : List ℕ) → length l ≡ length r.pattern.nodes
        → (o : Option (List ℕ)) × ((step (opened s d cs) (After rule l)).answer ≡ accepted (matching o))
        × Smallest (λ m. m) (λ m. Matches r.pattern d m × (before l m ≡ true)) o
    after-gives-smallest l k = (
      smallest_after l (matchings r.pattern d),
      after-answers l k,
      smallest-same (λ m. m) _ (λ m. Matches r.pattern d m × (before l m ≡ true))
          (λ m. let e = in-matchings r.pattern d m in ((λ h. (e.0 h.0, h.1)), λ h. (e.1 h.0, h.1)))
          (smallest_after l (matchings r.pattern d)) (find-smallest (λ m. m) (before l) (matchings r.pattern d) all-rise),
    )

    -- "What it gives equals the list of all the pattern's matchings in the open drawing, in rising order."
    pub listing-is-all : (ms : List (List ℕ)) → Listing (opened s d cs) rule ms ↔ (ms ≡ matchings r.pattern d)
    listing-is-all =
        listing-gives-all (λ m. (step (opened s d cs) (After rule m)).answer) (matchings r.pattern d) (matchings-rise r.pattern d rise)
        (λ m i. after-answers m (matching-length r.pattern d m i)) (step (opened s d cs) (First rule)).answer first-answers
