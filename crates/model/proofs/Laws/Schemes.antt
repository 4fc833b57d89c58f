-- The scheme is unchanged since open: after any list of calls it is that of the file last opened.
-- An accepted call other than open and close keeps it; by induction on the calls.
use Rattle.std.specs.Prelude.{ℕ, ◌≡◌, refl, ◌⊎◌, List, [], ◌∷◌, Option, None, Some}
use Rattle.std.proofs.Common.{arith, ap, ◌∙◌, sym, inl, inr, ⊎_elim}
use mathlib.Core.List.Memᴰ
use Rattle.lists.specs.Lists.{◌∈◌}
use Rattle.lists.proofs.Laws.Lists.{in-cons}
use Rattle.model.specs.Graph.{Scheme, Instance}
use Rattle.model.specs.Refusals.{accepted}
use Rattle.model.specs.Files.DrawingFile.{Contents, read_drawing}
use Rattle.model.specs.Record.{Record, shut, opened, Call, Open, Apply, Undo, Close, First, After, Save, Report, Left, accept, step, run}
use Rattle.model.specs.Meaning.{first, after, save, scheme_of, SinceOpen}
use Rattle.model.proofs.Laws.Outcomes.{refused-not-accepted}
use Rattle.model.proofs.Laws.Calls.{step_keeps, open-accepts, apply-accepts, asked}

no-scheme : {s : Scheme} → ◌≡◌ {A = Option Scheme} None (Some s) → ⊥
no-scheme h = let z : ◌≡◌ {A = ℕ} 0 1 = cc in omega arith

-- an accepted call other than close leaves the scheme of an open record
scheme-kept : (s : Scheme) (d : Instance) (cs : List Instance) (c : Call) {a : Left Report} → (c ≡ Close → ⊥)
    → accept (opened s d cs) c ≡ accepted a → scheme_of a.state ≡ Some s
unfolding accept
scheme-kept s d cs (Open file) h e = absurd (refused-not-accepted e)
scheme-kept s d cs (Apply rule) h e = ap scheme_of (apply-accepts s d cs rule e).state
scheme-kept s d [] Undo h e = absurd (refused-not-accepted e)
scheme-kept s d (c ∷ cs) Undo h e = cc
scheme-kept s d cs Close h e = absurd (h refl)
scheme-kept s d cs (First rule) h e = ap scheme_of (asked (opened s d cs) (first rule) e)
scheme-kept s d cs (After rule list) h e = ap scheme_of (asked (opened s d cs) (after rule list) e)
scheme-kept s d cs (Save buffer) h e = ap scheme_of (asked (opened s d cs) (save buffer) e)

other-than-close : (c : Call) → (c ≡ Close) ⊎ (c ≡ Close → ⊥)
other-than-close (Open file) = inr (λ e. let z : ◌≡◌ {A = ℕ} 0 1 = cc in omega arith)
other-than-close (Apply rule) = inr (λ e. let z : ◌≡◌ {A = ℕ} 0 1 = cc in omega arith)
other-than-close Undo = inr (λ e. let z : ◌≡◌ {A = ℕ} 0 1 = cc in omega arith)
other-than-close Close = inl refl
other-than-close (First rule) = inr (λ e. let z : ◌≡◌ {A = ℕ} 0 1 = cc in omega arith)
other-than-close (After rule list) = inr (λ e. let z : ◌≡◌ {A = ℕ} 0 1 = cc in omega arith)
other-than-close (Save buffer) = inr (λ e. let z : ◌≡◌ {A = ℕ} 0 1 = cc in omega arith)

closed : (r : Record) → scheme_of (step r Close).state ≡ None
unfolding step accept
closed shut = refl
closed (opened s d cs) = refl

-- a call that leaves a shut record open is an open that is accepted
record OpenedBy (c : Call) (s : Scheme) : Type 0 where
  file : List ℕ
  call : c ≡ Open file
  contents : Contents
  reads : read_drawing file ≡ accepted contents
  scheme : contents.scheme ≡ s

opened-by : (c : Call) {s : Scheme} → scheme_of (step shut c).state ≡ Some s → OpenedBy c s
unfolding step accept
opened-by (Open file) {s} h =
    step_keeps shut (Open file) (λ (r : Record). scheme_of r ≡ Some s → OpenedBy (Open file) s) (λ e. absurd (no-scheme e))
    (λ a e k.
    let c = open-accepts file e in
    let t : Some c.0.scheme ≡ Some s = sym (ap scheme_of c.2) ∙ k in
    record { file = file; call = refl; contents = c.0; reads = c.1; scheme = cc }) h
opened-by (Apply rule) h = absurd (no-scheme h)
opened-by Undo h = absurd (no-scheme h)
opened-by Close h = absurd (no-scheme h)
opened-by (First rule) h = absurd (no-scheme h)
opened-by (After rule list) h = absurd (no-scheme h)
opened-by (Save buffer) h = absurd (no-scheme h)

-- the first of some calls, where what it leaves has the scheme and none of the others is close
at_first : (r : Record) (c : Call) (calls : List Call) {s : Scheme} → scheme_of (step r c).state ≡ Some s → (Close ∈ calls → ⊥)
    → ((scheme_of r ≡ Some s) × (Close ∈ (c ∷ calls) → ⊥)) ⊎ SinceOpen r (c ∷ calls) s
unfolding run
at_first shut c calls h n =
    let o = opened-by c h in
    inr (record {
      before = [];
      file = o.file;
      after = calls;
      split = ap (λ (e : Call). e ∷ calls) o.call;
      was-shut = refl;
      contents = o.contents;
      reads = o.reads;
      scheme = o.scheme;
      unclosed = n;
    })
at_first (opened t d cs) c calls {s} h n =
    ⊎_elim
    (λ e. absurd (no-scheme (sym (closed (opened t d cs)) ∙ ap (λ (b : Call). scheme_of (step (opened t d cs) b).state) (sym e) ∙ h)))
    (λ k.
    let kept = step_keeps (opened t d cs) c (λ (r : Record). scheme_of r ≡ Some t) refl (λ a e. scheme-kept t d cs c k e) in
    inl (sym kept ∙ h, λ i. ⊎_elim (λ e. k (sym e)) n (in-cons.0 i)))
    (other-than-close c)

since : (calls : List Call) (r : Record) {s : Scheme} → scheme_of (run r calls).state ≡ Some s
    → ((scheme_of r ≡ Some s) × (Close ∈ calls → ⊥)) ⊎ SinceOpen r calls s
unfolding run
since [] r h = inl (h, λ i. Memᴰ.not-nil i)
since (c ∷ calls) r h =
    ⊎_elim (λ q. at_first r c calls q.0 q.1)
    (λ q. inr (record {
      before = c ∷ q.before;
      file = q.file;
      after = q.after;
      split = ap (λ (l : List Call). c ∷ l) q.split;
      was-shut = q.was-shut;
      contents = q.contents;
      reads = q.reads;
      scheme = q.scheme;
      unclosed = q.unclosed;
    }))
    (since calls (step r c).state h)

-- "House: the scheme doesn't grow after opening": a record that is open after a list of calls has the scheme of the file of the last accepted open
pub scheme-since-open : (calls : List Call) {s : Scheme} → scheme_of (run shut calls).state ≡ Some s → SinceOpen shut calls s
scheme-since-open calls h = ⊎_elim (λ q. absurd (no-scheme q.0)) (λ q. q) (since calls shut h)
