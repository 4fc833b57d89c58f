-- Demand 2 holds, as specs/Demand2 says it: by the record's run an applied rule leaves what the demand on paper says, and what opens or is saved is
-- the file of the drawing that stands.
use Rattle.std.specs.Prelude.{◌≡◌, refl, [], take}
use Rattle.std.proofs.Common.{◌∙◌, sym}
use Rattle.model.specs.Record.{shut, opened, run}
use Rattle.model.specs.Files.DrawingFile.{file_text}
use Rattle.model.proofs.Demands as paper
use Rattle.session.specs.Sessions.{unpack_session}
use Rattle.demands.specs.Reached.{reached}
use Rattle.demands.specs.Demand2.{Demand2Apply, Demand2Open, Demand2Save}
use Rattle.demands.proofs.Laws.Chains.{new-runs, open-sound}
use Rattle.demands.proofs.Laws.Files.{accepted-open, opens-saved, save-fits, save-short, accepted-save}

pub demand-2-apply : Demand2Apply
demand-2-apply s d cs rule buffer y before after (reached {calls = calls} begins chain) is applies =
    let run : (run shut calls).state ≡ opened s d cs = rw (← (new-runs begins chain)) is in
    rw (applies.session, is) (paper.demand-2-apply calls s d cs run rule y (rw is at (sym applies.answers)))

pub demand-2-open : Demand2Open
demand-2-open file lent buffer written y answer before now after opens saves =
    let r = accepted-open (unpack_session before) file (sym opens.answers) in
    let s = r.0.scheme in
    let d = r.0.instance in
    let left = opens.session ∙ r.1 in
    record {
      fits = λ l. rw (saves.answers, saves.lent, left, save-fits s d [] buffer r.2 l) (refl, refl);
      short = λ l. rw (saves.answers, saves.lent, left, save-short s d [] buffer r.2 l) (refl, refl);
    }

pub demand-2-save : Demand2Save
demand-2-save s d cs buffer written lent n answer before after closed again h is saves closes opens =
    let file : take n written ≡ file_text s d = rw (saves.lent, is) (accepted-save s d cs buffer refl (rw is at (sym saves.answers))) in
    let left = opens-saved s d (open-sound h is) in
    record { reports = rw (opens.answers, closes, file, left); session = rw (opens.session, closes, file, left) }
