-- `trials::write_trial` meets its contract, answer by answer. Assumes nothing.
use Rattle.trials.proofs.Laws.Parts.{trial-done, trial-refused}
use borrow.Author.Rules.{rules}
use Rattle.trials.proofs.write_trial.Goals as goal

pub returns-in-Ok : goal.returns-in-Ok
returns-in-Ok c = search (trial-done, rules)

pub returns-in-Err : goal.returns-in-Err
returns-in-Err c = search (trial-refused, rules)
