-- Files that are opened and saved, call by call: the record's laws of reading and writing, as answers and buffers of its steps.
use Rattle.std.specs.Prelude.{ℕ, ◌<◌, ◌≤◌, ◌≡◌, refl, Bool, true, false, List, [], length, take, leb}
use Rattle.std.proofs.Common.{ap, ◌∙◌, sym}
use Rattle.std.proofs.Math.Seq.{take-append_seam}
use borrow.Author.Tests.{leb-true, leb-false, lt-leb}
use Rattle.model.specs.Graph.{Scheme, Instance}
use Rattle.model.specs.Refusals.{Outcome, accepted, refused}
use Rattle.model.specs.Files.DrawingFile.{Contents, file_text}
use Rattle.model.specs.Record.{Record, shut, opened, Open, Save, Report, declared, saved, Left, accept, step}
use Rattle.model.specs.Sound.{Sound}
use Rattle.model.specs.Meaning.{written}
use Rattle.model.proofs.Laws.Outcomes.{refused-not-accepted}
use Rattle.model.proofs.Laws.Calls.{step-accepts, step-state, open-accepts, saves}
use Rattle.model.proofs.Laws.DrawingFiles.{write_read}
use Rattle.model.proofs.Laws.SavedFiles.{read-write}
use Rattle.model.specs.declared.Refusal.TheVariants.{BufferShort}

-- # Open
-- what opens leaves a scheme and a drawing whose file it is
pub accepted-open : (r : Record) (file : List ℕ) {y : Report} → (step r (Open file)).answer ≡ accepted y
    → (c : Contents) × ((step r (Open file)).state ≡ opened c.scheme c.instance []) × (file_text c.scheme c.instance ≡ file)
unfolding step accept
accepted-open shut file h =
    let a = step-accepts shut (Open file) h in
    let c = open-accepts file a.1 in
    (c.0, step-state shut (Open file) a.1 ∙ c.2, write_read file c.0 c.1)
accepted-open (opened s d cs) file h = absurd (refused-not-accepted h)

-- the file of a sound drawing opens as that drawing
pub opens-saved : (s : Scheme) (d : Instance) → Sound s d → step shut (Open (file_text s d))
    ≡ record { state = opened s d []; answer = accepted (declared (length s.classes) (length s.names)); buffer = [] }
unfolding step accept
opens-saved s d h = rw (read-write s d h)

-- # Save
module _ (s : Scheme) (d : Instance) (cs : List Instance) (buffer : List ℕ) {file : List ℕ} (is : file_text s d ≡ file) where
  pub save-fits : length file ≤ length buffer → step (opened s d cs) (Save buffer) ≡ written (opened s d cs) file buffer
  save-fits h = rw (← is) (saves s d cs buffer (rw is h))

  pub save-short : length buffer < length file
      → step (opened s d cs) (Save buffer) ≡ record { state = opened s d cs; answer = refused (BufferShort (length file)); buffer = buffer }
  unfolding step accept
  save-short h = rw (is, lt-leb (length file) (length buffer) h)

  -- what is saved is the file
  pub accepted-save : {n : ℕ} → (step (opened s d cs) (Save buffer)).answer ≡ accepted (saved n)
      → take n (step (opened s d cs) (Save buffer)).buffer ≡ file
  accepted-save {n} h = go (leb (length file) (length buffer)) refl
    where
      go : (b : Bool) → leb (length file) (length buffer) ≡ b → take n (step (opened s d cs) (Save buffer)).buffer ≡ file
      go true e =
          let left = save-fits (leb-true (length file) (length buffer) e) in
          let same : n ≡ length file = let answer = ap (λ (l : Left (Outcome Report)). l.answer) left in cc in
          rw (same, left) (take-append_seam file _)
      go false e =
          let left = save-short (leb-false (length file) (length buffer) e) in
          absurd (refused-not-accepted (ap (λ (l : Left (Outcome Report)). l.answer) (sym left) ∙ h))
