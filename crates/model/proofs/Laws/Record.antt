-- Lists of calls: after every list the record is sound.
-- Each accepted call keeps it so: open by the laws of files, apply by those of rules and operations.
use Rattle.std.specs.Prelude.{ℕ, ◌≡◌, refl, List, [], ◌∷◌}
use Rattle.std.proofs.Common.{arith, ap₂, ◌∙◌, sym, subst, ⊎_elim, length-take}
use mathlib.Core.List.Memᴰ
use Rattle.lists.proofs.Laws.Lists.{in-cons, in_take}
use Rattle.model.specs.Graph.{Scheme, Instance}
use Rattle.model.specs.Files.DrawingFile.{file_text}
use Rattle.model.specs.Sound.{Sound, SoundRecord}
use Rattle.model.specs.Refusals.{Outcome, accepted}
use Rattle.model.specs.Record.{Record, shut, opened, Call, Open, Apply, Undo, Close, First, After, Save, Report, Left, accept, step, run}
use Rattle.model.proofs.Laws.SoundFiles.{accepted-is-sound}
use Rattle.model.proofs.Laws.DrawingFiles.{write_read}
use Rattle.model.proofs.Laws.SavedFiles.{read-write}
use Rattle.model.proofs.Laws.RuleActions.{rule-is-sound}
use Rattle.model.proofs.Laws.Operations.{applied-is-sound}
use Rattle.model.proofs.Laws.Outcomes.{refused-not-accepted}
use Rattle.model.proofs.Laws.Calls.{step_keeps, asked, open-accepts, apply-accepts}
use Rattle.model.specs.Meaning.{first, after, save}

same-state : {a b : Left Report} → ◌≡◌ {A = Outcome (Left Report)} (accepted a) (accepted b) → a.state ≡ b.state
same-state e = cc

accept-keeps : (r : Record) (c : Call) (a : Left Report) → SoundRecord r → accept r c ≡ accepted a → SoundRecord a.state
unfolding accept
accept-keeps shut (Open file) a h e =
    let c = open-accepts file e in
    subst SoundRecord (sym c.2) (record { drawing = accepted-is-sound file c.0 c.1; copies = λ d i. absurd (Memᴰ.not-nil i); few = omega arith })
accept-keeps shut (Apply rule) a h e = absurd (refused-not-accepted e)
accept-keeps shut Undo a h e = absurd (refused-not-accepted e)
accept-keeps shut Close a h e = absurd (refused-not-accepted e)
accept-keeps shut (First rule) a h e = absurd (refused-not-accepted e)
accept-keeps shut (After rule list) a h e = absurd (refused-not-accepted e)
accept-keeps shut (Save buffer) a h e = absurd (refused-not-accepted e)
accept-keeps (opened s d cs) (Open file) a h e = absurd (refused-not-accepted e)
accept-keeps (opened s d cs) (Apply rule) a h e =
    let r = apply-accepts s d cs rule e in
    subst SoundRecord (sym r.state) (record {
      drawing = applied-is-sound s r.read d r.new h.drawing (rule-is-sound s rule r.read h.drawing.scheme r.reads) r.makes;
      copies = λ c i. ⊎_elim (λ q. subst (Sound s) (sym q) h.drawing) (λ j. h.copies c (in_take 7 cs j)) (in-cons.0 i);
      few = simp length-take (omega arith);
    })
accept-keeps (opened s d []) Undo a h e = absurd (refused-not-accepted e)
accept-keeps (opened s d (c ∷ cs)) Undo a h e =
    subst SoundRecord (same-state e) (record {
      drawing = h.copies c (Memᴰ.head refl);
      copies = λ b i. h.copies b (Memᴰ.tail i);
      few = omega (arith, h.few);
    })
accept-keeps (opened s d cs) Close a h e = subst SoundRecord (same-state e) tt
accept-keeps (opened s d cs) (First rule) a h e = subst SoundRecord (sym (asked (opened s d cs) (first rule) e)) h
accept-keeps (opened s d cs) (After rule list) a h e = subst SoundRecord (sym (asked (opened s d cs) (after rule list) e)) h
accept-keeps (opened s d cs) (Save buffer) a h e = subst SoundRecord (sym (asked (opened s d cs) (save buffer) e)) h

run-keeps : (calls : List Call) (r : Record) → SoundRecord r → SoundRecord (run r calls).state
unfolding run
run-keeps [] r h = h
run-keeps (c ∷ calls) r h = run-keeps calls (step r c).state (step_keeps r c SoundRecord h (λ a e. accept-keeps r c a h e))

-- after any list of calls with any arguments, an open record's drawing and copies are sound, and there are at most 8 copies
pub run-is-sound : (calls : List Call) → SoundRecord (run shut calls).state
run-is-sound calls = run-keeps calls shut tt

-- # Files
pub opened-file : (file : List ℕ) (s : Scheme) (d : Instance) → (step shut (Open file)).state ≡ opened s d [] → file_text s d ≡ file
opened-file file s d =
    step_keeps shut (Open file) (λ (r : Record). r ≡ opened s d [] → file_text s d ≡ file)
    (λ k. let z : ◌≡◌ {A = ℕ} 0 1 = cc in absurd (omega arith))
    (λ a e k.
    let c = open-accepts file e in
    let state = c.2 in
    let scheme : c.0.scheme ≡ s = cc in
    let drawing : c.0.instance ≡ d = cc in
    ap₂ file_text (sym scheme) (sym drawing) ∙ write_read file c.0 c.1)

pub opens-again : (s : Scheme) (d : Instance) → Sound s d → (step shut (Open (file_text s d))).state ≡ opened s d []
unfolding step accept
opens-again s d h = rw (read-write s d h)
