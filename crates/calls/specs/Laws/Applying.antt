-- What apply and undo leave: one law for each outcome of each call, by what the record accepts or refuses then.
use Rattle.std.specs.Prelude.{ℕ, ◌≡◌, true, false, take, Ok, Err}
use Rattle.std.proofs.Math.Path.{refl, ap}
use Rattle.std.proofs.Common.{◌∙◌, ⊎_elim}
use mathlib.Core.List.Memᴰ
use mathlib.Core.List.{List, [], ◌∷◌, map}
use Rattle.lists.proofs.Laws.Lists.{in-cons, in_take, map-take}
use Rattle.model.specs.Limits
use Rattle.model.specs.Operations.{counts}
use Rattle.model.specs.Refusals.{accepted, refused}
use Rattle.model.specs.Record.{nothing, counted, Apply, Undo, accept}
use Rattle.model.specs.declared.Refusal.{Refusal}
use Rattle.model.specs.declared.Refusal.TheVariants.{NotOpen, NoCopy}
use Rattle.graph.specs.Packed.{unpack_scheme, unpack_instance, unpack_history, unpack_rule, StoredRule}
use Rattle.graph.specs.declared.history.History.{History}
use Rattle.graph.specs.declared.rule.PackedRule.{PackedRule}
use Rattle.history.specs.Histories.{PoppedOff, PushedOn}
use Rattle.graph.specs.declared.instance.PackedInstance.{PackedInstance}
use Rattle.operations.specs.Applies.{Applies}
use Rattle.reports.specs.declared.Applied.{Applied}
use Rattle.rules.specs.Readers.{ReadRule}
use Rattle.session.specs.declared.Session.{Session}
use Rattle.session.specs.Sessions.{StoredSession, Stepped}
use Rattle.session.proofs.Laws.Steps.{shut-is, open_is, refused-steps, accepted-steps}

module _ (s : Session) (stored : StoredSession s) where
  -- # Undo
  pub undo-shut : s.opened ≡ false → Stepped Undo s (refused NotOpen) [] s
  unfolding accept
  undo-shut h = refused-steps {call = Undo} stored (rw (shut-is s h) refl)

  pub undo-none : s.opened ≡ true → s.history.depth ≡ 0 → Stepped Undo s (refused NoCopy) [] s
  unfolding accept unpack_history
  undo-none h e = refused-steps {call = Undo} stored (rw (open_is s h, e) refl)

  pub undo-done : s.opened ≡ true → {newest : PackedInstance} {left : History} → PoppedOff s.history newest left
      → Stepped Undo s (accepted nothing) [] (record { opened = s.opened; scheme = s.scheme; instance = newest; history = left })
  unfolding accept unpack_history
  undo-done h {newest} {left} off =
      let after : Session = record { opened = s.opened; scheme = s.scheme; instance = newest; history = left } in
      let heads : unpack_history s.history ≡ unpack_instance newest ∷ unpack_history left = ap (map unpack_instance) off.popped in
      accepted-steps {after = after}
      (rw (open_is s h, heads, open_is after h) refl)
      (record {
        scheme = stored.scheme;
        instance = stored.copies newest (rw off.popped (Memᴰ.head refl));
        few = off.few;
        copies = λ c i. stored.copies c (rw off.popped (Memᴰ.tail i));
      })

  -- # Apply
  module _ {text : List ℕ} where
    pub apply-shut : s.opened ≡ false → Stepped (Apply text) s (refused NotOpen) [] s
    unfolding accept
    apply-shut h = refused-steps {call = Apply text} stored (rw (shut-is s h) refl)

    pub text-refused : {x : Refusal} → s.opened ≡ true → ReadRule (unpack_scheme s.scheme) text (Err x) → Stepped (Apply text) s (refused x) [] s
    unfolding accept
    text-refused h read = refused-steps {call = Apply text} stored (rw (open_is s h, ← read.answer) refl)

    module _ {rule : PackedRule} (read : ReadRule (unpack_scheme s.scheme) text (Ok rule)) where
      pub text-stored : StoredRule (unpack_scheme s.scheme) rule
      text-stored = read.rule rule refl

      pub rule-refused : {x : Refusal} → s.opened ≡ true → Applies s.scheme s.instance rule (Err x) → Stepped (Apply text) s (refused x) [] s
      unfolding accept
      rule-refused h applies = refused-steps {call = Apply text} stored (rw (open_is s h, ← read.answer, ← applies.instance) refl)

      -- the copies that stand after a push are the instance before it and copies that stood
      pub rule-applied : s.opened ≡ true → {a : Applied} → Applies s.scheme s.instance rule (Ok a) → {past : History}
          → PushedOn s.history s.instance past
          → Stepped (Apply text) s (accepted (counted a.counts)) []
          (record { opened = s.opened; scheme = s.scheme; instance = a.instance; history = past })
      unfolding accept unpack_history
      rule-applied h {a} applies {past} pushed =
          let before = take s.history.depth s.history.copies in
          let after : Session = record { opened = s.opened; scheme = s.scheme; instance = a.instance; history = past } in
          let left : unpack_history past ≡ take Limits.copies (unpack_instance s.instance ∷ unpack_history s.history)
          = ap (map unpack_instance) pushed.pushed ∙ map-take unpack_instance Limits.copies (s.instance ∷ before) in
          let answer = rw (← applies.instance) at applies.answer in
          let told : counted a.counts ≡ counted (counts (unpack_rule rule).pattern (unpack_instance s.instance) (unpack_instance a.instance)) = cc in
          accepted-steps {after = after}
          (rw (open_is s h, ← read.answer, ← applies.instance, open_is after h, left, told) refl)
          (record {
            scheme = stored.scheme;
            instance = applies.stored a refl;
            few = pushed.few;
            copies = λ c i. ⊎_elim
                (λ e. rw e stored.instance)
                (stored.copies c)
                (in-cons.0 (in_take Limits.copies (s.instance ∷ before) (rw pushed.pushed at i)));
          })
