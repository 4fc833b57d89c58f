-- Demand 3 holds, as specs/Demand3 says it: calls run as the record does, which keeps a drawing sound, and answers that are the record's on the
-- numbers of nodes give its listing.
use Rattle.std.specs.Prelude.{ℕ, ◌≡◌, refl, List}
use Rattle.model.specs.Graph.{Scheme, Instance}
use Rattle.model.specs.Matching.{matchings}
use Rattle.model.specs.Operations.{Rule}
use Rattle.model.specs.Refusals.{Outcome, accepted}
use Rattle.model.specs.Files.RuleText.{read_rule}
use Rattle.model.specs.Record.{opened, Report}
use Rattle.model.proofs.Laws.Sound.{well-formed}
use Rattle.model.proofs.Laws.Matchings.{in-matchings, matching-once, matchings-rise}
use Rattle.session.specs.Sessions.{unpack_session}
use Rattle.demands.specs.Reached.{reached}
use Rattle.demands.specs.Demand3.{Answering, ListsAll, Demand3Promise}
use Rattle.demands.proofs.Laws.Chains.{new-runs, open-sound}
use Rattle.demands.proofs.Laws.Listings.{answered-listing}

pub demand-3 : Demand3Promise
demand-3 new after calls answers begins chain =
    record {
      equals = new-runs begins chain;
      when_open = λ s d cs is. record { conforming = (open-sound (reached begins chain) is).conforming; listing = lists-all is };
    }
  where
    lists-all : {s : Scheme} {d : Instance} {cs : List Instance} → unpack_session after ≡ opened s d cs
        → (text : List ℕ) (rule : Rule) → read_rule s text ≡ accepted rule
        → (f : Outcome Report) (g : List ℕ → Outcome Report) → Answering after text f g → ListsAll f g rule.pattern d
    lists-all {s} {d} {cs} is text rule reads f g h =
        let sound = open-sound (reached begins chain) is in
        let p = rule.pattern in
        let rise = (well-formed s d sound).nodes-rise in
        let listing = answered-listing sound rule cs text reads (rw is at h.firsts.answers) (λ l b. rw is at (h.afters l b).answers) in
        record {
          listed = (listing (matchings p d)).1 refl;
          only = λ ms. (listing ms).0;
          members = in-matchings p d;
          once = λ m. matching-once p d m rise;
          rise = matchings-rise p d rise;
        }
