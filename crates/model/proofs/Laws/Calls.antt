-- Calls on the record: a refusal changes nothing, undo gives back what apply took, first, after and save change nothing.
-- By cases of the call and of its outcome.
use Rattle.std.specs.Prelude.{ℕ, ◌-◌, ◌≤◌, ◌≡◌, ◌↔◌, ◌⊎◌, List, [], ◌∷◌, length, take, eqb, leb}
use Rattle.std.proofs.Common.{arith, ◌∙◌, sym, ⊎_elim, le-leb}
use Rattle.std.proofs.Math.Path.{refl, ap}
use Rattle.model.specs.Limits
use Rattle.model.specs.Graph.{Scheme, Instance}
use Rattle.model.specs.Operations.{applied}
use Rattle.model.specs.Refusals.{Outcome, accepted, refused, table_row}
use Rattle.model.specs.Files.DrawingFile.{Contents, read_drawing, file_text}
use Rattle.model.specs.Files.RuleText.{read_rule}
use Rattle.model.specs.Record.{Record, shut, opened, Call, Open, Apply, Undo, Close, Save, Report, nothing, declared, Left}
use Rattle.model.specs.Record.{accept, lent, settle, step}
use Rattle.model.specs.Meaning.{Unchanged, Asks, first, after, save, Applied, written}
use Rattle.model.proofs.Laws.Outcomes.{refused-not-accepted, then-accepted, otherwise-accepted}
use Rattle.model.specs.declared.Refusal.{Refusal}
use Rattle.model.specs.declared.Refusal.TheVariants.{Malformed, TooMany, Undeclared, Nonconforming, BadAction, NotOpen, AlreadyOpen}
use Rattle.model.specs.declared.Refusal.TheVariants.{NoCopy, NodesFull, NumbersFull, EdgesFull, FunctionalClash, BufferShort, LengthDiffers}

-- # Steps
module _ (r : Record) (c : Call) where
  settle-refuses : {x : Refusal} (o : Outcome (Left Report)) → ((settle r c o).answer ≡ refused x) ↔ (o ≡ refused x)
  settle-refuses (accepted a) = ((λ h. absurd (refused-not-accepted (sym h))), λ h. absurd (refused-not-accepted (sym h)))
  settle-refuses (refused y) = ((λ h. cc), λ h. cc)

  settle-accepts : {y : Report} (o : Outcome (Left Report)) → (settle r c o).answer ≡ accepted y → (a : Left Report) × (o ≡ accepted a) × (a.answer ≡ y)
  settle-accepts (accepted a) h = (a, refl, cc)
  settle-accepts (refused x) h = absurd (refused-not-accepted h)

  pub step-refuses : {x : Refusal} → ((step r c).answer ≡ refused x) ↔ (accept r c ≡ refused x)
  unfolding step
  step-refuses = settle-refuses (accept r c)

  pub step-accepts : {y : Report} → (step r c).answer ≡ accepted y → (a : Left Report) × (accept r c ≡ accepted a) × (a.answer ≡ y)
  unfolding step
  step-accepts = settle-accepts (accept r c)

  pub step-state : {a : Left Report} → accept r c ≡ accepted a → (step r c).state ≡ a.state
  unfolding step
  step-state h = ap (λ (o : Outcome (Left Report)). (settle r c o).state) h

  -- what holds of the record, and of what each accepted call leaves, holds after the call
  pub step_keeps : (P : Record → Type 0) → P r → ((a : Left Report) → accept r c ≡ accepted a → P a.state) → P (step r c).state
  unfolding step
  step_keeps P h f = go (accept r c) refl
    where
      go : (o : Outcome (Left Report)) → accept r c ≡ o → P (settle r c o).state
      go (accepted a) e = f a e
      go (refused x) e = h

-- calls that lend the same and are answered alike leave the same
pub step_same : (r : Record) (c e : Call) → lent c ≡ lent e → accept r c ≡ accept r e → step r c ≡ step r e
unfolding step
step_same r c e l h = ap (settle r c) h ∙ go (accept r e)
  where
    go : (o : Outcome (Left Report)) → settle r c o ≡ settle r e o
    go (accepted a) = refl
    go (refused x) = ap (λ (b : List ℕ). record { state = r; answer = refused x; buffer = b }) l

-- "A refused call changes nothing."
pub refused-changes-nothing : (r : Record) (c : Call) {x : Refusal} → (step r c).answer ≡ refused x → Unchanged r c (step r c)
unfolding step
refused-changes-nothing r c h =
    let e = (settle-refuses r c (accept r c)).0 h in
    record {
      state = ap (λ (o : Outcome (Left Report)). (settle r c o).state) e;
      buffer = ap (λ (o : Outcome (Left Report)). (settle r c o).buffer) e;
    }

-- "one of fourteen numbered refusals"
pub refusal-numbered : (x : Refusal) → (1 ≤ (table_row x).number) × ((table_row x).number ≤ 14)
refusal-numbered (Malformed line) = omega arith
refusal-numbered (TooMany line) = omega arith
refusal-numbered (Undeclared line) = omega arith
refusal-numbered (Nonconforming line) = omega arith
refusal-numbered (BadAction line) = omega arith
refusal-numbered NotOpen = omega arith
refusal-numbered AlreadyOpen = omega arith
refusal-numbered NoCopy = omega arith
refusal-numbered NodesFull = omega arith
refusal-numbered NumbersFull = omega arith
refusal-numbered EdgesFull = omega arith
refusal-numbered (FunctionalClash node) = omega arith
refusal-numbered (BufferShort needed) = omega arith
refusal-numbered (LengthDiffers length) = omega arith

-- # Open, apply, undo
-- "Open, on an accepted file, sets scheme and drawing, with no copies" and "reports how many classes and how many names were declared"
pub open-accepts : (file : List ℕ) {a : Left Report} → accept shut (Open file) ≡ accepted a
    → (c : Contents) × (read_drawing file ≡ accepted c) × (a.state ≡ opened c.scheme c.instance [])
    × (a.answer ≡ declared (length c.scheme.classes) (length c.scheme.names))
unfolding accept
open-accepts file h = let r = (then-accepted (read_drawing file) _ _).0 h in (r.0, r.1, cc r.2, cc r.2)

pub apply-accepts : (s : Scheme) (d : Instance) (cs : List Instance) (rule : List ℕ) {a : Left Report}
    → accept (opened s d cs) (Apply rule) ≡ accepted a → Applied s d cs rule a.state a.answer
unfolding accept
apply-accepts s d cs rule h =
    let r = (then-accepted (read_rule s rule) _ _).0 h in
    let q = (then-accepted (applied s r.0 d) _ _).0 r.2 in
    record { read = r.0; reads = r.1; new = q.0; makes = q.1; state = cc q.2; answer = cc q.2 }

-- "Undo takes the head copy off the list and sets it as drawing." "Close makes it shut." Both report nothing
pub undoes : (s : Scheme) (d c : Instance) (cs : List Instance)
    → step (opened s d (c ∷ cs)) Undo ≡ record { state = opened s c cs; answer = accepted nothing; buffer = [] }
unfolding step accept
undoes s d c cs = refl

pub closes : (s : Scheme) (d : Instance) (cs : List Instance) → step (opened s d cs) Close ≡ record { state = shut; answer = accepted nothing; buffer = [] }
unfolding step accept
closes s d cs = refl

-- "Save writes the file at the front of the buffer, leaves the rest and reports the file's length in bytes."
pub saves : (s : Scheme) (d : Instance) (cs : List Instance) (buffer : List ℕ) → length (file_text s d) ≤ length buffer
    → step (opened s d cs) (Save buffer) ≡ written (opened s d cs) (file_text s d) buffer
unfolding step accept
saves s d cs buffer h = rw (le-leb (length (file_text s d)) (length buffer) h)

-- an accepted apply, then undo: the drawing is back, and so are the copies but for an eighth, which apply has dropped
pub undo-gives-back : (s : Scheme) (d : Instance) (cs : List Instance) (rule : List ℕ) {x : Report} → (step (opened s d cs) (Apply rule)).answer ≡ accepted x
    → (step (step (opened s d cs) (Apply rule)).state Undo).state ≡ opened s d (take (Limits.copies - 1) cs)
undo-gives-back s d cs rule h =
    let a = step-accepts (opened s d cs) (Apply rule) h in
    let r = apply-accepts s d cs rule a.1 in
    rw (step-state (opened s d cs) (Apply rule) a.1 ∙ r.state) (ap (λ (l : Left (Outcome Report)). l.state) (undoes s r.new d (take 7 cs)))

same-state : {a b : Left Report} {x : Refusal} → (a ≡ b) ⊎ (◌≡◌ {A = Outcome (Left Report)} (refused x) (accepted b)) → b.state ≡ a.state
same-state o = ⊎_elim (λ e. ap (λ (l : Left Report). l.state) (sym e)) (λ e. absurd (refused-not-accepted e)) o

-- # Calls that ask
pub asked : (r : Record) {c : Call} {a : Left Report} → Asks c → accept r c ≡ accepted a → a.state ≡ r
unfolding accept
asked shut (first rule) e = absurd (refused-not-accepted e)
asked shut (after rule list) e = absurd (refused-not-accepted e)
asked shut (save buffer) e = absurd (refused-not-accepted e)
asked (opened s d cs) (first rule) e = let r = (then-accepted (read_rule s rule) _ _).0 e in cc r.2
asked (opened s d cs) (after rule list) e =
    let r = (then-accepted (read_rule s rule) _ _).0 e in
    same-state (otherwise-accepted (eqb (length list) (length r.0.pattern.nodes)) _ _ _ r.2)
asked (opened s d cs) (save buffer) e = same-state (otherwise-accepted (leb (length (file_text s d)) (length buffer)) _ _ _ e)

pub asking-changes-nothing : (r : Record) (c : Call) → Asks c → (step r c).state ≡ r
asking-changes-nothing r c h = step_keeps r c (λ (q : Record). q ≡ r) refl (λ a e. asked r h e)
