-- Listings by answers that are the record's on every list of 64-bit numbers: on each matching they are, since its numbers are those of nodes. So the
-- listing is the record's, and there is no other.
use Rattle.std.specs.Prelude.{ℕ, ◌^◌, ◌≡◌, refl, ◌↔◌, List, ◌∷◌}
use Rattle.std.proofs.Common.{arith, ap}
use mathlib.Core.List.Memᴰ
use Rattle.lists.specs.Lists.{◌∈◌, Below}
use Rattle.lists.proofs.Laws.Lists.{in_map}
use Rattle.model.specs.Graph.{Scheme, Instance}
use Rattle.model.specs.Matching.{matchings}
use Rattle.model.specs.Operations.{Rule}
use Rattle.model.specs.Refusals.{Outcome, accepted}
use Rattle.model.specs.Files.RuleText.{read_rule}
use Rattle.model.specs.Record.{opened, First, After, Report, step, ListingFrom, ends, goes}
use Rattle.model.specs.Sound.{Sound}
use Rattle.model.proofs.Laws.Sound.{well-formed}
use Rattle.model.proofs.Laws.Matchings.{in-matchings, sent-numbers}
use Rattle.model.proofs.Laws.Listings.{listing-is-all}

-- answers that are the same on all that is listed give the same listing
listing-along : {next other : List ℕ → Outcome Report} {a : Outcome Report} {ms : List (List ℕ)} → ListingFrom next a ms
    → ((m : List ℕ) → m ∈ ms → other m ≡ next m) → ListingFrom other a ms
listing-along ends h = ends
listing-along (goes {m} {ms} l) h = goes {m = m} {ms = ms} (rw (h m (Memᴰ.head refl)) (listing-along l (λ k i. h k (Memᴰ.tail i))))

-- there is one listing at most
listing-once : {next : List ℕ → Outcome Report} {a : Outcome Report} {ms ns : List (List ℕ)} → ListingFrom next a ms → ListingFrom next a ns → ms ≡ ns
listing-once ends ends = refl
listing-once (goes {m = m} k) (goes l) = ap (λ (ms : List (List ℕ)). m ∷ ms) (listing-once k l)

module _ {s : Scheme} {d : Instance} (sound : Sound s d) (rule : Rule) where
  numbers-small : (m : List ℕ) → m ∈ matchings rule.pattern d → Below (2 ^ 64) m
  numbers-small m i k j =
      let sent = ((in-matchings rule.pattern d m).0 i).sent in
      let r = (in_map (λ n. n.number) d.nodes).0 (sent-numbers d rule.pattern.nodes m sent k j) in
      let e : k ≡ r.0.number = r.2 in
      omega (arith, ((well-formed s d sound).within r.0 r.1).0)

  pub answered-listing : (cs : List Instance) (text : List ℕ) {first : Outcome Report} {after : List ℕ → Outcome Report}
      → read_rule s text ≡ accepted rule → first ≡ (step (opened s d cs) (First text)).answer
      → ((list : List ℕ) → Below (2 ^ 64) list → after list ≡ (step (opened s d cs) (After text list)).answer)
      → (ms : List (List ℕ)) → ListingFrom after first ms ↔ (ms ≡ matchings rule.pattern d)
  answered-listing cs text {first} {after} reads firsts afters ms = ((λ l. listing-once l listed), λ e. rw e listed)
    where
      listed : ListingFrom after first (matchings rule.pattern d)
      listed =
          let rise = (well-formed s d sound).nodes-rise in
          let record-lists = (listing-is-all s d cs text rule reads rise (matchings rule.pattern d)).1 refl in
          rw firsts (listing-along record-lists (λ m i. afters m (numbers-small m i)))
