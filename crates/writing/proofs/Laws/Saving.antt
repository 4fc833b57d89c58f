-- What save leaves: nothing changed where the file is longer than the buffer, and else the file at its front; and that this is all it can leave.
-- By the record's step; a stored scheme's and instance's file is that of their rows, however much room for rows there is.
use Rattle.std.specs.Prelude.{ℕ, ◌<◌, ◌≤◌, ◌≡◌, refl, Bool, true, false, List, [], length, take, leb, Result, Ok, Err}
use Rattle.std.proofs.Common.{arith, ap, ◌∙◌, sym, subst, leb-true, leb-false}
use Rattle.std.proofs.lemmas.Bool.{lt-leb}
use Rattle.lists.specs.Buffers.{Writes}
use Rattle.model.specs.Graph.{Scheme, Instance}
use Rattle.model.specs.Files.DrawingFile.{file_text}
use Rattle.model.specs.Record.{accept, step}
use Rattle.model.specs.Answers.{save_answer}
use Rattle.model.proofs.Laws.Calls.{saves}
use Rattle.model.proofs.Laws.Outcomes.{refused-not-accepted}
use Rattle.model.specs.declared.Refusal.TheVariants.{BufferShort}
use Rattle.model.specs.declared.Refusal.{Refusal}
use Rattle.model.specs.Meaning.{most_of_drawing}
use Rattle.keys.specs.Keys.{Front}
use Rattle.graph.specs.Packed.{declared_rows, unpack_scheme, unpack_instance, StoredInstance}
use Rattle.graph.specs.declared.scheme.PackedScheme.{PackedScheme}
use Rattle.graph.specs.declared.instance.PackedInstance.{PackedInstance}
use Rattle.writing.specs.Writers.{Saves, SavesText}
use Rattle.writing.proofs.Laws.Stored.{file_by, stored-file, stored_short}

same_answer : (a b : Result ℕ Refusal) → save_answer a ≡ save_answer b → a ≡ b
same_answer (Ok m) (Ok n) e = let same : m ≡ n = cc in ap Ok same
same_answer (Ok m) (Err r) e = absurd (refused-not-accepted (sym e))
same_answer (Err r) (Ok n) e = absurd (refused-not-accepted e)
same_answer (Err q) (Err r) e = let same : q ≡ r = cc in ap Err same

-- # The record's step
module _ {s : Scheme} {d : Instance} {before : List ℕ} where
  save-refused : length before < length (file_text s d) → Saves s d before (Err (BufferShort (length (file_text s d)))) before
  unfolding step accept
  save-refused h = record { leaves = λ copies. rw (lt-leb (length (file_text s d)) (length before) h) }

  save-written : {n : ℕ} {after : List ℕ} → length (file_text s d) ≤ length before → Writes (file_text s d) before n after
      → Saves s d before (Ok n) after
  save-written h w = record { leaves = λ copies. rw (w.count, w.buffer) (sym (saves s d copies before h)) }

  saves-text : {r : Result ℕ Refusal} {after : List ℕ} → SavesText (file_text s d) before r after → Saves s d before r after
  saves-text {r} {after} t = go (leb (length (file_text s d)) (length before)) refl
    where
      go : (b : Bool) → leb (length (file_text s d)) (length before) ≡ b → Saves s d before r after
      go true e =
          let h = leb-true (length (file_text s d)) (length before) e in
          rw ((t.fits h).0, (t.fits h).1) (save-written h (record { count = refl; buffer = refl }))
      go false e =
          let h = leb-false (length (file_text s d)) (length before) e in
          rw ((t.short h).0, (t.short h).1) (save-refused h)

  -- one answer and one buffer
  saves-once : {a b : Result ℕ Refusal} {x y : List ℕ} → Saves s d before a x → Saves s d before b y → (a ≡ b) × (x ≡ y)
  saves-once {a} {b} f g =
      let e = f.leaves [] ∙ sym (g.leaves []) in
      (same_answer a b (ap (λ l. l.answer) e), ap (λ l. l.buffer) e)

  -- what is saved is the file
  pub saved-text : {a : Result ℕ Refusal} {after : List ℕ} → Saves s d before a after → SavesText (file_text s d) before a after
  saved-text f =
      record {
        short = λ h. saves-once f (save-refused h);
        fits = λ h. saves-once f (save-written h (record { count = refl; buffer = refl }));
      }

  -- what is accepted fits, and has been written
  accepted-fits : {n : ℕ} {after : List ℕ} → Saves s d before (Ok n) after → length (file_text s d) ≤ length before
  accepted-fits f = go (leb (length (file_text s d)) (length before)) refl
    where
      go : (t : Bool) → leb (length (file_text s d)) (length before) ≡ t → length (file_text s d) ≤ length before
      go true e = leb-true (length (file_text s d)) (length before) e
      go false e =
          let answer = (saves-once f (save-refused (leb-false (length (file_text s d)) (length before) e))).0 in
          let z : ◌≡◌ {A = ℕ} 0 1 = cc in
          absurd (omega arith)

  pub saved-file : {n : ℕ} {after : List ℕ} → Saves s d before (Ok n) after → Writes (file_text s d) before n after
  saved-file f =
      let r = (saved-text f).fits (accepted-fits f) in
      let answer = r.0 in
      record { count = cc; buffer = r.1 }

  pub saved-room : {a : Result ℕ Refusal} {after : List ℕ} → Saves s d before a after → {n : ℕ} → a ≡ Ok n → n ≤ length before
  saved-room {a} {after} f e =
      let g = subst (λ b. Saves s d before b after) e f in
      omega (arith, (saved-file g).count, accepted-fits g)

-- # Stored schemes and instances
-- the rows of declared numbers are listed at the front of an array
module _ (s : PackedScheme) (d : PackedInstance) {cs ns : List ℕ} {c n : ℕ} (classes : Front cs c (declared_rows s.classes))
    (names : Front ns n (declared_rows s.names)) where
  listed-file : file_text (unpack_scheme s) (unpack_instance d) ≡ file_by s d (take c cs) (take n ns)
  listed-file = rw (classes.front, names.front) (stored-file s d)

  pub listed-short : StoredInstance (unpack_scheme s) d → length (file_by s d (take c cs) (take n ns)) ≤ most_of_drawing
  listed-short h = rw (← listed-file) (stored_short s d h)

  pub listed-saves : {before : List ℕ} {r : Result ℕ Refusal} {after : List ℕ} → SavesText (file_by s d (take c cs) (take n ns)) before r after
      → Saves (unpack_scheme s) (unpack_instance d) before r after
  listed-saves t = saves-text (rw listed-file t)
