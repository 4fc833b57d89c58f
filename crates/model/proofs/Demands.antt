-- The theorems of the three demands on paper (specs/Demands.antt). Laws has the theorems that they follow from. Assumes nothing.
use Rattle.std.specs.Prelude.{ℕ, ◌≤◌, ◌≡◌, refl, List, [], length}
use Rattle.std.proofs.Common.{ap, ◌∙◌, sym, subst}
use Rattle.model.specs.Graph.{Scheme, Instance}
use Rattle.model.specs.Refusals.{Outcome, accepted, refused}
use Rattle.model.specs.Files.DrawingFile.{file_text}
use Rattle.model.specs.Record.{Record, shut, opened, Call, Open, Apply, Save, Report, step, run}
use Rattle.model.specs.Sound.{SoundCopies, SoundRecord}
use Rattle.model.specs.Meaning.{Applied, written, scheme_of}
use Rattle.model.specs.Demands.{Answered, AppliedRule, OpenRecord}
use Rattle.model.proofs.Laws.Sound.{well-formed}
use Rattle.model.proofs.Laws.Matchings.{in-matchings, matchings-rise}
use Rattle.model.proofs.Laws.Listings.{listing-is-all}
use Rattle.model.proofs.Laws.Outcomes.{refused-not-accepted}
use Rattle.model.proofs.Laws.Counts.{counts-report}
use Rattle.model.proofs.Laws.Calls.{step-accepts, step-state, refused-changes-nothing, refusal-numbered}
use Rattle.model.proofs.Laws.Calls.{apply-accepts, saves}
use Rattle.model.proofs.Laws.Operations.{applied-is-sound}
use Rattle.model.proofs.Laws.Leaves.{applied-leaves}
use Rattle.model.proofs.Laws.RuleActions.{rule-is-sound}
use Rattle.model.proofs.Laws.Record.{run-is-sound, opened-file, opens-again}
use Rattle.model.proofs.Laws.Schemes.{scheme-since-open}
use Rattle.model.proofs.Laws.Refusals.{refused-exactly}

-- # 1: any file, rule or call, in any order, gets a finished answer or a numbered refusal, and a refusal changes nothing
pub demand-1 : (calls : List Call) (c : Call) → Answered (run shut calls).state c (step (run shut calls).state c).answer
demand-1 calls c = go (step (run shut calls).state c).answer refl
  where
    r : Record
    r = (run shut calls).state

    go : (o : Outcome Report) → (step r c).answer ≡ o → Answered r c o
    go (accepted y) e = λ x k. refused-not-accepted (sym ((refused-exactly r c x (run-is-sound calls)).1 k) ∙ e)
    go (refused x) e =
        record {
          cause = (refused-exactly r c x (run-is-sound calls)).0 e;
          numbered = refusal-numbered x;
          unchanged = refused-changes-nothing r c e;
        }

-- # 2: an applied rule leaves exactly what the definitions say, with counts taken from them
module _ (calls : List Call) (s : Scheme) (d : Instance) (cs : List Instance) (reached : (run shut calls).state ≡ opened s d cs) where
  sound-now : SoundCopies s d cs
  sound-now = subst SoundRecord reached (run-is-sound calls)

  pub demand-2-apply : (rule : List ℕ) (y : Report) → (step (opened s d cs) (Apply rule)).answer ≡ accepted y
      → AppliedRule s d cs rule (step (opened s d cs) (Apply rule)).state y
  demand-2-apply rule y h =
      let a = step-accepts (opened s d cs) (Apply rule) h in
      let old = sound-now.drawing in
      let done : Applied s d cs rule (step (opened s d cs) (Apply rule)).state y =
      subst (Applied s d cs rule _) a.2 (subst (λ (r : Record). Applied s d cs rule r a.0.answer)
      (sym (step-state (opened s d cs) (Apply rule) a.1)) (apply-accepts s d cs rule a.1)) in
      let new = applied-is-sound s done.read d done.new old (rule-is-sound s rule done.read old.scheme done.reads) done.makes in
      record {
        done = done;
        leaves = applied-leaves s done.read d done.new old done.makes;
        sound = new;
        reports = counts-report s done.read.pattern d done.new old new;
      }

  -- .. a saved file opens as the same drawing
  pub demand-2-save : (buffer : List ℕ) → length (file_text s d) ≤ length buffer
      → (step (opened s d cs) (Save buffer) ≡ written (opened s d cs) (file_text s d) buffer) × ((step shut (Open (file_text s d))).state ≡ opened s d [])
  demand-2-save buffer h = (saves s d cs buffer h, opens-again s d sound-now.drawing)

-- .. a file that opens saves byte for byte
pub demand-2-open : (file : List ℕ) (s : Scheme) (d : Instance) → (step shut (Open file)).state ≡ opened s d []
    → (buffer : List ℕ) → length file ≤ length buffer → step (opened s d []) (Save buffer) ≡ written (opened s d []) file buffer
demand-2-open file s d h buffer l =
    let same = opened-file file s d h in
    subst (λ (text : List ℕ). step (opened s d []) (Save buffer) ≡ written (opened s d []) text buffer) same
    (saves s d [] buffer (rw same l))

-- # 3: after any list of calls an open drawing conforms, and listing a pattern names every matching exactly once, in rising order, and nothing
-- else; the scheme is that of the file that was opened last
pub demand-3 : (calls : List Call) (s : Scheme) (d : Instance) (cs : List Instance) → (run shut calls).state ≡ opened s d cs → OpenRecord calls s d cs
demand-3 calls s d cs reached =
    let sound = sound-now calls s d cs reached in
    let rise = (well-formed s d sound.drawing).nodes-rise in
    record {
      sound = sound;
      scheme = scheme-since-open calls (ap scheme_of reached);
      listing = λ rule r e. listing-is-all s d cs rule r e rise;
      members = λ p. in-matchings p d;
      rise = λ p. matchings-rise p d rise;
    }
