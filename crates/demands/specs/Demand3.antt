-- Demand 3: after any list of calls, of every length, session and answers equal the plain record's; an open drawing conforms; listing a pattern names
-- every matching exactly once, in rising order, and nothing else. Proved in proofs/Demand3.
use Rattle.std.specs.Prelude.{ℕ, ◌^◌, ◌≡◌, ◌↔◌, true, List, [], ◌∷◌}
use Rattle.lists.specs.Lists.{◌∈◌, keep, Below}
use Rattle.lists.specs.Order.{same, rising}
use Rattle.model.specs.Graph.{Scheme, Instance, Pattern, conforms}
use Rattle.model.specs.Matching.{matchings}
use Rattle.model.specs.Meaning.{Matches}
use Rattle.model.specs.Operations.{Rule}
use Rattle.model.specs.Refusals.{Outcome, accepted}
use Rattle.model.specs.Files.RuleText.{read_rule}
use Rattle.model.specs.Record.{shut, opened, Call, First, After, Report, run, ListingFrom}
use Rattle.session.specs.Sessions.{unpack_session, NewSession, Stepped}
use Rattle.session.specs.Chains.{Chain}
use Rattle.session.specs.declared.Session.{Session}

-- what first answers for a rule text, and after for each list of 64-bit numbers: by their contracts
pub record Answering (s : Session) (text : List ℕ) (first : Outcome Report) (after : List ℕ → Outcome Report) : Type 0 where
  pub firsts : Stepped (First text) s first [] s
  pub afters : (list : List ℕ) → Below (2 ^ 64) list → Stepped (After text list) s (after list) [] s

-- "first, then after on each matching given, with the same rule text, until none": it ends, and gives one list and no other, in which every matching
-- stands, exactly once, and nothing else, in rising order
pub record ListsAll (first : Outcome Report) (after : List ℕ → Outcome Report) (p : Pattern) (d : Instance) : Type 0 where
  pub listed : ListingFrom after first (matchings p d)
  pub only : (ms : List (List ℕ)) → ListingFrom after first ms → ms ≡ matchings p d
  pub members : (m : List ℕ) → (m ∈ matchings p d) ↔ Matches p d m
  pub once : (m : List ℕ) → Matches p d m → keep (same m) (matchings p d) ≡ m ∷ []
  pub rise : rising (matchings p d) ≡ true

-- an open drawing conforms, and every accepted pattern is listed in it
pub record OpenSession (after : Session) (s : Scheme) (d : Instance) : Type 0 where
  pub conforming : conforms s d ≡ true
  pub listing : (text : List ℕ) (rule : Rule) → read_rule s text ≡ accepted rule
      → (f : Outcome Report) (g : List ℕ → Outcome Report) → Answering after text f g → ListsAll f g rule.pattern d

-- shut or open, scheme, drawing, copies and all answers are the record's
pub record Demand3 (calls : List Call) (answers : List (Outcome Report)) (after : Session) : Type 0 where
  pub equals : record { state = unpack_session after; answers = answers } ≡ run shut calls
  pub when_open : (s : Scheme) (d : Instance) (cs : List Instance) → unpack_session after ≡ opened s d cs → OpenSession after s d

-- `demand-3`: so it is after every list of calls, each held to its contract, from a new session
abbrev pub Demand3Promise : Type 0
Demand3Promise = (new after : Session) (calls : List Call) (answers : List (Outcome Report))
    → NewSession new → Chain new calls answers after → Demand3 calls answers after
