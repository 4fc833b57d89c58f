-- The text part by part: which is printed, by what each call answers and leaves, and that the parts, written one after another, are the text.
-- What a call has accepted or refused is what the record accepts or refuses; a stored session's file is no longer than one that opens.
use Rattle.std.specs.Prelude.{ℕ, ◌+◌, ◌-◌, ◌≤◌, ◌≡◌, Bool, List, [], ◌++◌, length, take, drop, Result, Ok, Err}
use Rattle.std.specs.Result.{result_unwrap_or}
use Rattle.std.proofs.Common.{arith, ◌∙◌, sym, length-append, length-drop}
use Rattle.std.proofs.Math.Path.{refl, subst}
use Rattle.std.proofs.Math.Bool.{true, false}
use borrow.Author.Rules.{part_to_end}
use Rattle.lists.specs.Buffers.{at_front, Writes}
use Rattle.lists.proofs.Laws.Buffers.{unwritten-front, last_written, writes-as-long}
use Rattle.model.specs.Refusals.{accepted, refused}
use Rattle.model.specs.Record.{Record, shut, Call, Open, Apply, Save, Report, saved, Left, accept, step}
use Rattle.model.specs.Answers.{open_answer, apply_answer, save_answer}
use Rattle.model.specs.Meaning.{most_of_drawing}
use Rattle.model.specs.Trial.{saved_file, trial}
use Rattle.model.proofs.Laws.Calls.{step-refuses, step-accepts, step-state, saves}
use Rattle.model.proofs.Laws.Outcomes.{refused-not-accepted}
use Rattle.model.specs.declared.Counts.{Counts}
use Rattle.model.specs.declared.Opened.{Opened}
use Rattle.model.specs.declared.Refusal.{Refusal}
use Rattle.graph.specs.Packed.{unpack_scheme, unpack_instance, unpack_history}
use Rattle.writing.proofs.Laws.Stored.{stored_short}
use Rattle.session.specs.Sessions.{unpack_session, StoredSession, NewSession, Stepped}
use Rattle.session.proofs.Laws.Steps.{shut-is, open_is}
use Rattle.session.specs.declared.Session.{Session}
use Rattle.trials.specs.Trials.{most_of_done, most_of_trial, refused_text, counts_text, applied_text, apply_text, Tried}

-- # What the record has accepted or refused
module _ {call : Call} {s after : Session} {buffer : List ℕ} where
  accepts-so : {y : Report} → Stepped call s (accepted y) buffer after
      → (a : Left Report) × (accept (unpack_session s) call ≡ accepted a) × (a.answer ≡ y) × (a.state ≡ unpack_session after)
  accepts-so st =
      let a = step-accepts (unpack_session s) call (sym st.answers) in
      (a.0, a.1, a.2, sym (step-state (unpack_session s) call a.1) ∙ sym st.session)

  refuses-so : {x : Refusal} → Stepped call s (refused x) buffer after → accept (unpack_session s) call ≡ refused x
  refuses-so st = (step-refuses (unpack_session s) call).0 (sym st.answers)

-- # Apply
module _ {s : Session} {rule : List ℕ} {after : Session} where
  apply-done : {n : Counts} → Stepped (Apply rule) s (apply_answer (Ok n)) [] after → applied_text n (unpack_session after) ≡ apply_text (unpack_session s) rule
  unfolding apply_text applied_text counts_text
  apply-done st = let a = accepts-so st in rw (a.1, a.2, a.3) refl

  apply-refused : {x : Refusal} → Stepped (Apply rule) s (apply_answer (Err x)) [] after → refused_text x ≡ apply_text (unpack_session s) rule
  unfolding apply_text refused_text
  apply-refused st = rw (refuses-so st) refl

-- # Open and apply
module _ {new : Session} (n : NewSession new) {job : List ℕ} (rule : List ℕ) where
  pub open-tried : {x : Refusal} {after : Session} → Stepped (Open job) new (open_answer (Err x)) [] after → Tried job rule (Err x) after
  unfolding trial refused_text
  open-tried {x} st =
      let refuses : accept shut (Open job) ≡ refused x = rw n.shut at (refuses-so st) in
      record { text = rw refuses refl; stored = st.stored }

  module _ {o : Opened} {s : Session} (st : Stepped (Open job) new (open_answer (Ok o)) [] s) where
    opened-trial : trial job rule ≡ apply_text (unpack_session s) rule
    unfolding trial apply_text
    opened-trial =
        let a = accepts-so st in
        let opens = subst (λ r. accept r (Open job) ≡ accepted a.0) n.shut a.1 in
        rw (opens, a.3) refl

    pub apply-tried : {answer : Result Counts Refusal} {after : Session} → Stepped (Apply rule) s (apply_answer answer) [] after
        → Tried job rule answer after
    apply-tried {answer = Ok n} st = record { text = apply-done st ∙ sym opened-trial; stored = st.stored }
    apply-tried {answer = Err x} st = record { text = apply-refused st ∙ sym opened-trial; stored = st.stored }

-- what is told is what is printed
module _ {job rule : List ℕ} {answer : Result Counts Refusal} {s : Session} (t : Tried job rule answer s)
    {out : List ℕ} {taken : ℕ} {after : List ℕ} where
  pub trial-done : {n : Counts} → answer ≡ Ok n
      → Writes (applied_text n (unpack_session s)) out taken after → Writes (trial job rule) out taken after
  trial-done e w = rw (← t.text, e) w

  pub trial-refused : {x : Refusal} → answer ≡ Err x
      → Writes (refused_text x) out taken after → Writes (trial job rule) out taken after
  trial-refused e w = rw (← t.text, e) w

-- # Save
module _ {text buffer after : List ℕ} where
  told-saved : (r : Result ℕ Refusal) → save_answer r ≡ accepted (saved (length text)) → after ≡ at_front text buffer
      → Writes text buffer (result_unwrap_or r 0) after
  told-saved (Ok n) e b = record { count = cc; buffer = b }
  told-saved (Err x) e b = absurd (refused-not-accepted e)

told-refused : {buffer after : List ℕ} {x : Refusal} (r : Result ℕ Refusal) → save_answer r ≡ refused x → after ≡ buffer
    → Writes [] buffer (result_unwrap_or r 0) after
told-refused (Ok n) e b = absurd (refused-not-accepted (sym e))
told-refused (Err y) e b = record { count = refl; buffer = b }

module _ {s : Session} (stored : StoredSession s) where
  abbrev file : List ℕ
  file = saved_file (unpack_session s)

  file-short : length file ≤ most_of_drawing
  file-short = go s.opened refl
    where
      go : (b : Bool) → s.opened ≡ b → length file ≤ most_of_drawing
      go true h = rw (open_is s h) (stored_short s.scheme s.instance stored.instance)
      go false h = rw (shut-is s h) (omega arith)

  module _ {buffer : List ℕ} (room : most_of_drawing ≤ length buffer) (r : Result ℕ Refusal) {after : List ℕ}
      (st : Stepped (Save buffer) s (save_answer r) after s) where
    pub file-written : Writes file buffer (result_unwrap_or r 0) after
    unfolding step accept
    file-written = go s.opened refl
      where
        go : (b : Bool) → s.opened ≡ b → Writes file buffer (result_unwrap_or r 0) after
        go true h =
            let short = stored_short s.scheme s.instance stored.instance in
            let leaves = saves (unpack_scheme s.scheme) (unpack_instance s.instance) (unpack_history s.history) buffer (omega arith) in
            rw (open_is s h) (told-saved r (rw (open_is s h, leaves) at st.answers) (rw (open_is s h, leaves) at st.lent))
        go false h = rw (shut-is s h) (told-refused r (rw (shut-is s h) at st.answers) (rw (shut-is s h) at st.lent))

    pub file-few : result_unwrap_or r 0 ≤ most_of_drawing
    file-few = omega (arith, file-written.count, file-short)

-- # The counts, then the file
module _ (n : Counts) (out : List ℕ) (room : most_of_trial ≤ length out) {at : ℕ} {now : List ℕ}
    (w : Writes (counts_text n) out at now × (at ≤ most_of_done)) where
  abbrev part : List ℕ
  part = take (length now - at) (drop at now)

  as_long : length now ≡ length out
  as_long = writes-as-long (counts_text n) out (omega (arith, w.0.count, w.1)) w.0

  pub file-start : at ≤ length now
  file-start = omega (arith, as_long, w.1)

  pub file-fits : most_of_drawing ≤ length part
  file-fits = rw (part_to_end now at) (omega (arith, length-drop at now, as_long, w.1))

  module _ (r : Record) {taken : ℕ} {after : List ℕ} (v : Writes (saved_file r) part taken after × (taken ≤ most_of_drawing)) where
    abbrev later : List ℕ
    later = take at now ++ (after ++ drop (length now - at) (drop at now))

    text-fits : length (counts_text n ++ saved_file r) ≤ length out
    text-fits = omega (arith, length-append (counts_text n) (saved_file r), w.0.count, w.1, v.0.count, v.1)

    both-written : Writes (counts_text n ++ saved_file r) out (at + taken) later
    both-written = last_written (saved_file r) (unwritten-front (counts_text n) (saved_file r) refl text-fits w.0) v.0

    pub applied-written : Writes (applied_text n r) out (at + taken) later
    unfolding applied_text
    applied-written = both-written

    pub applied-as-long : length later ≡ length out
    applied-as-long = writes-as-long (counts_text n ++ saved_file r) out text-fits both-written
