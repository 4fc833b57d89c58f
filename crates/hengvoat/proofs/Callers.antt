-- Every exported call tells its caller what `Told` says, by the law of its result and what a refused call leaves. Assumes nothing.
use Rattle.std.specs.Prelude.{ℕ, ◌≡◌, refl, List}
use Rattle.std.proofs.Common.{ap, ◌∙◌, sym}
use Rattle.model.specs.Refusals.{Outcome, accepted, refused}
use Rattle.model.specs.Record.{Call, Report, lent, step}
use Rattle.model.proofs.Laws.Calls.{refused-changes-nothing}
use Rattle.session.specs.Sessions.{unpack_session}
use Rattle.session.specs.declared.Session.{Session}
use Rattle.results.specs.Results.{row_of, Numbered}
use Rattle.hengvoat.specs.Exports.{Exports}
use Rattle.hengvoat.specs.Callers.{Told}

pub exported-told : {Answer Result : Type 0} {tell : Answer → Outcome Report} {numbers : Answer → Result} (refusal returned : Result → ℕ)
    {call : Call} {before : Session} {r : Result} {buffer : List ℕ} {after : Session}
    → Numbered tell numbers refusal returned → Exports tell numbers call before r buffer after → Told call before (refusal r) (returned r) buffer after
exported-told {tell = tell} refusal returned {call} {before} {r} {buffer} {after} numbered e =
    record {
      number = number;
      returns = ap returned e.tells ∙ (numbered e.answer).1 ∙ ap (λ o. (row_of o).returned) e.stepped.answers;
      unchanged = λ n. kept (tell e.answer) refl n;
    }
  where
    number : refusal r ≡ (row_of (step (unpack_session before) call).answer).number
    number = ap refusal e.tells ∙ (numbered e.answer).0 ∙ ap (λ o. (row_of o).number) e.stepped.answers

    kept : (o : Outcome Report) → tell e.answer ≡ o → (refusal r ≡ 0 → ⊥) → (after ≡ before) × (buffer ≡ lent call)
    kept (accepted y) h n = absurd (n (number ∙ ap (λ o. (row_of o).number) (sym e.stepped.answers ∙ h)))
    kept (refused x) h n = (
      e.stepped.unchanged x h,
      e.stepped.lent ∙ (refused-changes-nothing (unpack_session before) call (sym e.stepped.answers ∙ h)).buffer,
    )
