-- What is written at the end, by the answer to save: the file, or nothing.
use Rattle.std.specs.Prelude.{ℕ, ◌≤◌, ◌≡◌, List, length, Result, Ok, Err}
use Rattle.lists.specs.Buffers.{Writes}
use Rattle.model.specs.Answers.{save_answer}
use Rattle.model.specs.Meaning.{most_of_drawing}
use Rattle.model.specs.Record.{Save}
use Rattle.model.specs.Trial.{saved_file}
use Rattle.model.specs.declared.Refusal.{Refusal}
use Rattle.session.specs.Sessions.{unpack_session, StoredSession, Stepped}
use Rattle.session.specs.declared.Session.{Session}
use Rattle.trials.proofs.Laws.Parts.{file-written, file-few}

module _ {s : Session} (stored : StoredSession s) {buffer : List ℕ} (room : most_of_drawing ≤ length buffer) (r : Result ℕ Refusal) {after : List ℕ}
    (st : Stepped (Save buffer) s (save_answer r) after s) where
  pub saved-written : {n : ℕ} → r ≡ Ok n → Writes (saved_file (unpack_session s)) buffer n after
  saved-written e = rw e at (file-written stored room r st)

  pub saved-few : {n : ℕ} → r ≡ Ok n → n ≤ most_of_drawing
  saved-few e = rw e at (file-few stored room r st)

  pub none_written : {x : Refusal} → r ≡ Err x → Writes (saved_file (unpack_session s)) buffer 0 after
  none_written e = rw e at (file-written stored room r st)
