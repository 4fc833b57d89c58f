-- What save leaves, while shut and while open: the writer leaves what the record leaves.
use Rattle.std.specs.Prelude.{ℕ, ◌≡◌, refl, true, false, List, Result}
use Rattle.model.specs.Refusals.{refused}
use Rattle.model.specs.Record.{Save, accept}
use Rattle.model.specs.Answers.{save_answer}
use Rattle.model.specs.declared.Refusal.TheVariants.{NotOpen}
use Rattle.model.specs.declared.Refusal.{Refusal}
use Rattle.graph.specs.Packed.{unpack_scheme, unpack_instance, unpack_history}
use Rattle.writing.specs.Writers.{Saves}
use Rattle.session.specs.declared.Session.{Session}
use Rattle.session.specs.Sessions.{StoredSession, Stepped}
use Rattle.session.proofs.Laws.Steps.{shut-is, open_is, refused-steps, as_step}

module _ {s : Session} {buffer : List ℕ} (stored : StoredSession s) where
  pub save-while-shut : s.opened ≡ false → Stepped (Save buffer) s (refused NotOpen) buffer s
  unfolding accept
  save-while-shut h = refused-steps stored (rw (shut-is s h) refl)

  -- the buffer is long enough, or too short
  pub saved-or-refused : {r : Result ℕ Refusal} {after : List ℕ} → s.opened ≡ true
      → Saves (unpack_scheme s.scheme) (unpack_instance s.instance) buffer r after → Stepped (Save buffer) s (save_answer r) after s
  saved-or-refused h saves = as_step (rw (← open_is s h) at (saves.leaves (unpack_history s.history))) (λ x _. refl) stored
