-- What open and close leave, outcome by outcome: from what the functions behind them promise, by what the record accepts or refuses while it is shut
-- and while it is open.
use Rattle.std.specs.Prelude.{ℕ, ◌≡◌, refl, true, false, List, [], length, Ok, Err}
use Rattle.std.proofs.Common.{arith}
use mathlib.Core.List.Memᴰ
use Rattle.model.specs.Refusals.{accepted, refused}
use Rattle.model.specs.Record.{Open, Close, nothing, declared, accept}
use Rattle.model.specs.declared.Refusal.{Refusal}
use Rattle.model.specs.declared.Refusal.TheVariants.{NotOpen, AlreadyOpen}
use Rattle.graph.specs.Packed.{unpack_declared, unpack_scheme, unpack_history}
use Rattle.reading.specs.Readers.{ReadDrawing}
use Rattle.reading.specs.declared.whole.Whole.{Whole}
use Rattle.session.specs.declared.Session.{Session}
use Rattle.session.specs.Sessions.{unpack_session, StoredSession, NewSession, Stepped}
use Rattle.session.proofs.Laws.Steps.{shut-is, open_is, refused-steps, accepted-steps}

module _ {s : Session} (stored : StoredSession s) where
  -- # Open
  module _ {file : List ℕ} where
    -- "open while open"
    pub open-while-open : s.opened ≡ true → Stepped (Open file) s (refused AlreadyOpen) [] s
    unfolding accept
    open-while-open h = refused-steps {call = Open file} stored (rw (open_is s h) refl)

    module _ (h : s.opened ≡ false) where
      pub open-refused : {x : Refusal} → ReadDrawing file (Err x) → Stepped (Open file) s (refused x) [] s
      unfolding accept
      open-refused read = refused-steps {call = Open file} stored (rw (shut-is s h, ← read) refl)

      -- none of the copies that lie there stands any more
      pub open-accepted : (w : Whole) {classes names : ℕ} → ReadDrawing file (Ok w)
          → classes ≡ length (unpack_declared w.scheme.classes) → names ≡ length (unpack_declared w.scheme.names)
          → Stepped (Open file) s (accepted (declared classes names)) []
          (record { opened = true; scheme = w.scheme; instance = w.instance; history = record { copies = s.history.copies; depth = 0 } })
      unfolding accept unpack_session unpack_scheme unpack_history
      open-accepted w read c n =
          accepted-steps
          (rw (shut-is s h, ← read, c, n) refl)
          (record {
            scheme = w.scheme_stored;
            instance = w.instance_stored;
            few = omega arith;
            copies = λ _ i. absurd (Memᴰ.not-nil i);
          })

  -- # Close
  pub close-while-shut : s.opened ≡ false → Stepped Close s (refused NotOpen) [] s
  unfolding accept
  close-while-shut h = refused-steps {call = Close} stored (rw (shut-is s h) refl)

  pub closed : {new : Session} → s.opened ≡ true → NewSession new → Stepped Close s (accepted nothing) [] new
  unfolding accept
  closed h n = accepted-steps (rw (open_is s h, n.shut) refl) n.stored
