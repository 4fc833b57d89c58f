-- What `trial` prints of the first parts of two texts is what it prints of the texts: a reader answers both alike. Assumes nothing.
use Rattle.std.specs.Prelude.{ℕ, ◌≡◌, refl, List, take}
use Rattle.std.proofs.Common.{ap}
use Rattle.model.specs.Refusals.{Outcome, accepted, refused, ◌>>=◌}
use Rattle.model.specs.Record.{Record, shut, opened, Open, Apply, Report, Left, accept}
use Rattle.model.specs.Trial.{outcome_text, trial}
use Rattle.model.proofs.Laws.DrawingFiles.{drawing-first-part}
use Rattle.model.proofs.Laws.RuleTexts.{rule-first-part}
use Rattle.trials.specs.Trials.{accepted-text, LongTexts}

pub long-texts : LongTexts
unfolding trial accept
long-texts job rule n m h k = rw (← drawing-first-part n h job) (go (accept shut (Open job)))
  where
    applies : (r : Record) → accept r (Apply (take m rule)) ≡ accept r (Apply rule)
    applies shut = refl
    applies (opened s d cs) = rw (← rule-first-part s m k rule)

    printed : List ℕ → Left Report → Outcome (List ℕ)
    printed text o = accept o.state (Apply text) >>= accepted-text

    go : (o : Outcome (Left Report)) → outcome_text (o >>= printed (take m rule)) ≡ outcome_text (o >>= printed rule)
    go (accepted o) = ap (λ a. outcome_text (a >>= accepted-text)) (applies o.state)
    go (refused x) = refl
