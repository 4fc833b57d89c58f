-- Demand 2 of the code, its second half: a file that opens saves byte for byte, a saved file opens as the same drawing. Of all that the reader and
-- the writer can give, by their contracts.
use Rattle.std.specs.Prelude.{ℕ, ◌≡◌, refl, List, take, Result, Ok, Err}
use Rattle.std.proofs.Common.{ap, ◌∙◌, sym, subst}
use Rattle.std.proofs.Math.Seq.{take-append_seam}
use Rattle.model.specs.Graph.{Scheme, Instance}
use Rattle.model.specs.Refusals.{accepted}
use Rattle.model.specs.Answers.{outcome}
use Rattle.model.specs.Files.DrawingFile.{Contents, read_drawing, file_text}
use Rattle.model.specs.Sound.{Sound}
use Rattle.model.proofs.Laws.Outcomes.{refused-not-accepted}
use Rattle.model.proofs.Laws.DrawingFiles.{write_read}
use Rattle.model.proofs.Laws.SavedFiles.{read-write}
use Rattle.model.specs.declared.Refusal.{Refusal}
use Rattle.graph.specs.Packed.{unpack_scheme, unpack_instance}
use Rattle.reading.specs.declared.whole.Whole.{Whole}
use Rattle.reading.specs.Readers.{contents, ReadDrawing}
use Rattle.writing.specs.Writers.{Saves, SavesText}
use Rattle.writing.proofs.Laws.Saving.{saved-text, saved-file}

-- what was read from a file, saved: the same bytes at the front of the buffer, and the rest as it was; or, where the buffer is too short for the
-- file, its length and the buffer as it was
pub open-then-save : (file : List ℕ) (r : Result Whole Refusal) → ReadDrawing file r → (o : Whole) → r ≡ Ok o
    → (before : List ℕ) (a : Result ℕ Refusal) (after : List ℕ) → Saves (unpack_scheme o.scheme) (unpack_instance o.instance) before a after
    → SavesText file before a after
open-then-save file r read o opens before a after saves =
    let same = write_read file (contents o) (sym read ∙ ap (outcome contents) opens) in
    subst (λ text. SavesText text before a after) same (saved-text saves)

-- what was saved of a sound scheme and instance, read: accepted, and the same scheme and instance
pub save-then-open : (s : Scheme) (d : Instance) → Sound s d → (before after : List ℕ) (n : ℕ) → Saves s d before (Ok n) after
    → (r : Result Whole Refusal) → ReadDrawing (take n after) r → (o : Whole) × (r ≡ Ok o) × (contents o ≡ record { scheme = s; instance = d })
save-then-open s d sound before after n saves r read =
    let written = saved-file saves in
    let same : take n after ≡ file_text s d = rw (written.count, written.buffer) (take-append_seam (file_text s d) _) in
    told r (read ∙ ap read_drawing same ∙ read-write s d sound)
  where
    told : (r : Result Whole Refusal) {e : Contents} → outcome contents r ≡ accepted e → (o : Whole) × (r ≡ Ok o) × (contents o ≡ e)
    told (Ok o) h = (o, refl, cc)
    told (Err x) h = absurd (refused-not-accepted h)
