-- Calls one after another: from any session they leave what the record's run leaves, and the invariant. By induction on the calls.
use Rattle.std.specs.Prelude.{◌≡◌, refl, List, ◌∷◌}
use Rattle.std.proofs.Common.{ap, sym, subst}
use Rattle.model.specs.Graph.{Scheme, Instance}
use Rattle.model.specs.Refusals.{Outcome}
use Rattle.model.specs.Record.{Record, shut, opened, Call, Report, Run, step, run}
use Rattle.model.specs.Sound.{Sound, SoundRecord}
use Rattle.model.proofs.Laws.Record.{run-is-sound}
use Rattle.session.specs.Sessions.{unpack_session, StoredSession, NewSession}
use Rattle.session.specs.Chains.{Chain, ends, goes}
use Rattle.session.specs.declared.Session.{Session}
use Rattle.demands.specs.Reached.{Reached, reached}

-- a call, then a run
run-goes : (r : Record) (c : Call) (cs : List Call) {next : Record} {a : Outcome Report} {rest : Run}
    → next ≡ (step r c).state → a ≡ (step r c).answer → rest ≡ run next cs
    → record { state = rest.state; answers = a ∷ rest.answers } ≡ run r (c ∷ cs)
unfolding run
run-goes r c cs e f h = rw (h, e, f)

pub chain_runs : {s t : Session} {calls : List Call} {answers : List (Outcome Report)} → Chain s calls answers t
    → record { state = unpack_session t; answers = answers } ≡ run (unpack_session s) calls
unfolding run
chain_runs ends = refl
chain_runs (goes {s = s} {c = c} {cs = cs} h rest) = run-goes (unpack_session s) c cs h.session h.answers (chain_runs rest)

chain-stored : {s t : Session} {calls : List Call} {answers : List (Outcome Report)} → StoredSession s → Chain s calls answers t → StoredSession t
chain-stored stored ends = stored
chain-stored stored (goes h rest) = chain-stored h.stored rest

-- # From a new session
pub new-runs : {new after : Session} {calls : List Call} {answers : List (Outcome Report)} → NewSession new → Chain new calls answers after
    → record { state = unpack_session after; answers = answers } ≡ run shut calls
new-runs begins chain = rw begins.shut at (chain_runs chain)

pub reached-stored : {now : Session} → Reached now → StoredSession now
reached-stored (reached begins chain) = chain-stored begins.stored chain

pub reached-sound : {now : Session} → Reached now → SoundRecord (unpack_session now)
reached-sound (reached {calls = calls} begins chain) =
    subst SoundRecord (sym (ap (λ (r : Run). r.state) (new-runs begins chain))) (run-is-sound calls)

pub open-sound : {now : Session} {s : Scheme} {d : Instance} {cs : List Instance} → Reached now → unpack_session now ≡ opened s d cs → Sound s d
open-sound h is = let sound = subst SoundRecord is (reached-sound h) in sound.drawing
