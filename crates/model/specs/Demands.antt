-- The three demands on paper: what they say of the plain record, after every list of calls. Their theorems stand in proofs/Demands.antt, and what those
-- follow from in proofs/Laws.
use Rattle.std.specs.Prelude.{ℕ, ◌≤◌, ◌≡◌, ◌↔◌, true, List}
use Rattle.lists.specs.Lists.{◌∈◌}
use Rattle.lists.specs.Order.{rising}
use Rattle.model.specs.Graph.{Scheme, Instance, Pattern}
use Rattle.model.specs.Matching.{matchings}
use Rattle.model.specs.Operations.{Rule, counts}
use Rattle.model.specs.Refusals.{Outcome, accepted, refused, table_row}
use Rattle.model.specs.Files.RuleText.{read_rule}
use Rattle.model.specs.Record.{Record, shut, opened, Call, Report, step, Listing}
use Rattle.model.specs.Sound.{Sound, SoundCopies}
use Rattle.model.specs.Causes.{Cause}
use Rattle.model.specs.Meaning.{Matches, Leaves, Reports, Unchanged, Applied, SinceOpen}
use Rattle.model.specs.declared.Refusal.{Refusal}

-- # 1: any file, rule or call, in any order, gets a finished answer or a numbered refusal, and a refusal changes nothing
-- a refusal is the one whose cause holds and before which no other does, has a number of the table, and changes neither record nor buffer
pub record Declined (r : Record) (c : Call) (x : Refusal) : Type 0 where
  pub cause : Cause r c x
  pub numbered : (1 ≤ (table_row x).number) × ((table_row x).number ≤ 14)
  pub unchanged : Unchanged r c (step r c)

-- a report, where no cause holds, or such a refusal
abbrev pub Answered : (r : Record) → Call → Outcome Report → Type 0
Answered r c (accepted y) = (x : Refusal) → Cause r c x → ⊥
Answered r c (refused x) = Declined r c x

-- # 2: an applied rule leaves exactly what the definitions say, with counts taken from them
-- an accepted apply: the rule that was read makes the new drawing, in which its action has left exactly what document 01 says and which
-- conforms, is sorted and limited; the old one is the newest copy; the five counts are those of the matchings and of what only one of the two
-- drawings has
pub record AppliedRule (s : Scheme) (d : Instance) (cs : List Instance) (rule : List ℕ) (after : Record) (y : Report) : Type 0 where
  pub done : Applied s d cs rule after y
  pub leaves : Leaves done.read.action (matchings done.read.pattern d) d done.new
  pub sound : Sound s done.new
  pub reports : Reports done.read.pattern d done.new (counts done.read.pattern d done.new)

-- # 3: after any list of calls an open drawing conforms, and listing a pattern names every matching exactly once, in rising order, and nothing
-- else; the scheme is that of the file that was opened last
pub record OpenRecord (calls : List Call) (s : Scheme) (d : Instance) (cs : List Instance) : Type 0 where
  pub sound : SoundCopies s d cs
  pub scheme : SinceOpen shut calls s
  pub listing : (rule : List ℕ) (r : Rule) → read_rule s rule ≡ accepted r → (ms : List (List ℕ))
      → Listing (opened s d cs) rule ms ↔ (ms ≡ matchings r.pattern d)
  pub members : (p : Pattern) (m : List ℕ) → (m ∈ matchings p d) ↔ Matches p d m
  pub rise : (p : Pattern) → rising (matchings p d) ≡ true
