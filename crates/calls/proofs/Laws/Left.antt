-- What open and apply leave of an accepted text, in parts: the session of a file, and one whose instance has changed, with the old one as a copy. From
-- each part, whatever session it holds of: what the call leaves.
use Rattle.std.specs.Prelude.{ℕ, ◌≡◌, refl, true, false, List, [], ◌∷◌, length, take, Result, Ok, Err}
use Rattle.std.proofs.Common.{arith, ap, ◌∙◌, sym, ⊎_elim}
use mathlib.Core.List.{map}
use Rattle.lists.proofs.Laws.Lists.{in-cons, in_take, map-take}
use Rattle.model.specs.Limits
use Rattle.model.specs.Refusals.{accepted}
use Rattle.model.specs.Operations.{counts}
use Rattle.model.specs.Record.{opened, declared, counted, Open, Apply, accept}
use Rattle.model.specs.Answers.{open_answer, apply_answer}
use Rattle.model.specs.Files.RuleText.{read_rule}
use Rattle.model.specs.declared.Counts.{Counts}
use Rattle.model.specs.declared.Opened.{Opened}
use Rattle.model.specs.declared.Refusal.{Refusal}
use Rattle.graph.specs.Packed.{unpack_declared, unpack_scheme, unpack_instance, unpack_history, unpack_rule, StoredScheme, StoredInstance, FreshHistory}
use Rattle.graph.specs.declared.history.History.{History}
use Rattle.graph.specs.declared.instance.PackedInstance.{PackedInstance}
use Rattle.graph.specs.declared.rule.PackedRule.{PackedRule}
use Rattle.graph.specs.declared.scheme.PackedScheme.{PackedScheme}
use Rattle.operations.specs.Applies.{Applies}
use Rattle.reading.specs.Readers.{ReadDrawing}
use Rattle.reading.specs.declared.whole.Whole.{Whole}
use Rattle.reports.specs.declared.Applied.{Applied}
use Rattle.rules.specs.Readers.{ReadRule}
use Rattle.history.specs.Histories.{PushedOn}
use Rattle.session.specs.declared.Session.{Session}
use Rattle.session.specs.Sessions.{unpack_session, StoredSession, Stepped}
use Rattle.session.proofs.Laws.Fresh.{fresh-depth, fresh-copies}
use Rattle.session.proofs.Laws.Steps.{shut-is, open_is, refused-steps, accepted-steps}

-- # Open
-- the scheme and instance of an accepted file
pub record OpenedWith (s : PackedScheme) (d : PackedInstance) (answer : Result Opened Refusal) (after : Session) : Type 0 where
  pub answered : open_answer answer ≡ accepted (declared (length (unpack_scheme s).classes) (length (unpack_scheme s).names))
  pub session : unpack_session after ≡ opened (unpack_scheme s) (unpack_instance d) []
  pub stored : StoredSession after

-- "Open, on an accepted file, sets scheme and drawing, with no copies."
pub opened-is : {s : PackedScheme} {d : PackedInstance} {h : History} {classes names : ℕ} → StoredScheme s → StoredInstance (unpack_scheme s) d
    → FreshHistory h → classes ≡ length (unpack_declared s.classes) → names ≡ length (unpack_declared s.names)
    → OpenedWith s d (Ok (record { classes = classes; names = names })) (record { opened = true; scheme = s; instance = d; history = h })
unfolding unpack_session unpack_scheme
opened-is s d h c n = record {
  answered = rw (c, n) refl;
  session = rw h.empty refl;
  stored = record { scheme = s; instance = d; few = omega (arith, fresh-depth h); copies = fresh-copies h _ };
}

-- an accepted file: every answer and session that `OpenedWith` holds of are what open leaves
pub open-accepted-left : {s : Session} {file : List ℕ} {answer : Result Opened Refusal} {after : Session} → s.opened ≡ false
    → (w : Whole) → ReadDrawing file (Ok w) → OpenedWith w.scheme w.instance answer after → Stepped (Open file) s (open_answer answer) [] after
unfolding accept
open-accepted-left {s = s} h w read o = rw o.answered (accepted-steps (rw (shut-is s h, ← read, o.session) refl) o.stored)

-- what an accepted file holds
module _ (w : Whole) where
  pub scheme-stored : StoredScheme w.scheme
  scheme-stored = w.scheme_stored

  pub instance-stored : StoredInstance (unpack_scheme w.scheme) w.instance
  instance-stored = w.instance_stored

-- # Apply
-- a new instance, and the old one as the newest copy
pub record ChangedTo (s : Session) (new : PackedInstance) (after : Session) : Type 0 where
  pub opened : after.opened ≡ s.opened
  pub scheme : after.scheme ≡ s.scheme
  pub instance : after.instance ≡ new
  pub history : unpack_history after.history ≡ take Limits.copies (unpack_instance s.instance ∷ unpack_history s.history)
  pub stored : StoredSession after

-- the copies that stand after a push are the instance before it and copies that stood
pub changed-is : (s : Session) (new : PackedInstance) (h : History) → StoredSession s → StoredInstance (unpack_scheme s.scheme) new
    → PushedOn s.history s.instance h
    → ChangedTo s new (record { opened = s.opened; scheme = s.scheme; instance = new; history = h })
unfolding unpack_history
changed-is s new h stored sound pushed =
    let before = take s.history.depth s.history.copies in
    record {
      opened = refl;
      scheme = refl;
      instance = refl;
      history = ap (map unpack_instance) pushed.pushed ∙ map-take unpack_instance Limits.copies (s.instance ∷ before);
      stored = record {
        scheme = stored.scheme;
        instance = sound;
        few = pushed.few;
        copies = λ c i. ⊎_elim
            (λ e. rw e stored.instance)
            (stored.copies c)
            (in-cons.0 (in_take Limits.copies (s.instance ∷ before) (rw pushed.pushed at i)));
      };
    }

-- an accepted rule, of whatever text
pub record AppliesRule (s : Session) (rule : PackedRule) (answer : Result Counts Refusal) (after : Session) : Type 0 where
  pub steps : (text : List ℕ) → s.opened ≡ true → read_rule (unpack_scheme s.scheme) text ≡ accepted (unpack_rule rule)
      → Stepped (Apply text) s (apply_answer answer) [] after

pub text-accepted : {s : Session} {text : List ℕ} {rule : PackedRule} {answer : Result Counts Refusal} {after : Session} → s.opened ≡ true
    → ReadRule (unpack_scheme s.scheme) text (Ok rule) → AppliesRule s rule answer after → Stepped (Apply text) s (apply_answer answer) [] after
text-accepted {text = text} h read does = does.steps text h (sym read.answer)

-- an accepted rule: every session that `ChangedTo` holds of is what apply leaves where the operation is done; where it is refused, the session stays
module _ {s : Session} {rule : PackedRule} where
  pub rule-applied-left : {a : Applied} {after : Session} → Applies s.scheme s.instance rule (Ok a) → ChangedTo s a.instance after
      → AppliesRule s rule (Ok a.counts) after
  unfolding accept
  rule-applied-left {a} {after} applies changed =
      let answer = rw (← applies.instance) at applies.answer in
      let told : counted a.counts ≡ counted (counts (unpack_rule rule).pattern (unpack_instance s.instance) (unpack_instance a.instance)) = cc in
      record {
        steps = λ text h reads. accepted-steps {after = after}
            (rw (open_is s h, reads, ← applies.instance, open_is after (changed.opened ∙ h), changed.scheme, changed.instance, changed.history, told) refl)
            changed.stored;
      }

  pub rule-refused-left : {x : Refusal} → StoredSession s → Applies s.scheme s.instance rule (Err x) → AppliesRule s rule (Err x) s
  unfolding accept
  rule-refused-left stored applies =
      record { steps = λ text h reads. refused-steps {call = Apply text} stored (rw (open_is s h, reads, ← applies.instance) refl) }
