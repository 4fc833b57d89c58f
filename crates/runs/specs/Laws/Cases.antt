-- The six numbers of each answer by its case, the calls of each kind, and which entry of a list is a call: for a caller who knows the case.
use Rattle.std.specs.Prelude.{ℕ, ◌<◌, ◌≤◌, ◌≡◌, Bool, false, List, [], ◌∷◌, get_or, leb, Result, Ok, Err}
use Rattle.std.specs.Bool.{⊤}
use Rattle.std.proofs.Common.{arith}
use Rattle.std.proofs.Math.Path.{sym, subst}
use Rattle.std.proofs.Math.ListN.{get_or-eq_default, length}
use borrow.Author.Tests.{le-ltb, lt-ltb, le-leb, lt-leb}
use Rattle.model.specs.Refusals.{refused, table_row}
use Rattle.model.specs.Record.{Open, Apply, Undo, Close}
use Rattle.model.specs.Answers.{open_answer, apply_answer, step_answer}
use Rattle.model.specs.declared.Counts.{Counts}
use Rattle.model.specs.declared.Opened.{Opened}
use Rattle.model.specs.declared.Refusal.{Refusal}
use Rattle.session.specs.declared.Session.{Session}
use Rattle.runs.specs.Handed.{kind_count, call_of, is_call, six_numbers}
use Rattle.runs.specs.Runs.{Performs, goes_on}

-- # The numbers
pub refused-six : (x : Refusal) {n m : ℕ} → n ≡ (table_row x).number → m ≡ (table_row x).returned
    → n ∷ m ∷ 0 ∷ 0 ∷ 0 ∷ 0 ∷ [] ≡ six_numbers (refused x)
unfolding six_numbers
refused-six x e f = rw (e, f)

pub opened-six : {a : Result Opened Refusal} {c n : ℕ} → a ≡ Ok (record { classes = c; names = n })
    → 0 ∷ c ∷ n ∷ 0 ∷ 0 ∷ 0 ∷ [] ≡ six_numbers (open_answer a)
unfolding six_numbers
opened-six e = rw e

pub open-refused-six : {a : Result Opened Refusal} {x : Refusal} {r : List ℕ} → a ≡ Err x → r ≡ six_numbers (refused x)
    → r ≡ six_numbers (open_answer a)
open-refused-six e h = rw e h

pub applied-six : {a : Result Counts Refusal} {c : Counts} → a ≡ Ok c
    → 0 ∷ c.matchings ∷ c.added.nodes ∷ c.added.edges ∷ c.removed.nodes ∷ c.removed.edges ∷ [] ≡ six_numbers (apply_answer a)
unfolding six_numbers
applied-six e = rw e

pub apply-refused-six : {a : Result Counts Refusal} {x : Refusal} {r : List ℕ} → a ≡ Err x → r ≡ six_numbers (refused x)
    → r ≡ six_numbers (apply_answer a)
apply-refused-six e h = rw e h

-- of undo and close
pub stepped-six : {a : Result ⊤ Refusal} → a ≡ Ok tt → 0 ∷ 0 ∷ 0 ∷ 0 ∷ 0 ∷ 0 ∷ [] ≡ six_numbers (step_answer a)
unfolding six_numbers
stepped-six e = rw e

pub step-refused-six : {a : Result ⊤ Refusal} {x : Refusal} {r : List ℕ} → a ≡ Err x → r ≡ six_numbers (refused x) → r ≡ six_numbers (step_answer a)
step-refused-six e h = rw e h

-- # Whether an entry is a call
module _ (kind from end texts : ℕ) where
  pub kind-unknown : 3 < kind → false ≡ is_call kind from end texts
  kind-unknown h = rw (le-ltb kind kind_count (omega arith))

  pub ends-early : kind ≤ 3 → end < from → false ≡ is_call kind from end texts
  ends-early k h = rw (lt-ltb kind kind_count (omega arith), lt-leb from end h)

  pub ends-inside : kind ≤ 3 → from ≤ end → leb end texts ≡ is_call kind from end texts
  ends-inside k h = rw (lt-ltb kind kind_count (omega arith), le-leb from end h)

-- # Whether the list goes on
module _ (kinds bounds : List ℕ) (texts room from i : ℕ) where
  pub kinds-end : length kinds ≤ i → false ≡ goes_on kinds bounds texts room from i
  unfolding goes_on
  kinds-end h = rw (le-ltb i (length kinds) h)

  pub bounds-end : i < length kinds → length bounds ≤ i → false ≡ goes_on kinds bounds texts room from i
  unfolding goes_on
  bounds-end hk h = rw (lt-ltb i (length kinds) hk, le-ltb i (length bounds) h)

  pub room-ends : i < length kinds → i < length bounds → room ≤ i → false ≡ goes_on kinds bounds texts room from i
  unfolding goes_on
  room-ends hk hb h = rw (lt-ltb i (length kinds) hk, lt-ltb i (length bounds) hb, le-ltb i room h)

  pub call-decides : i < length kinds → i < length bounds → i < room → {r : Bool} → r ≡ is_call (get_or kinds i 0) from (get_or bounds i 0) texts
      → r ≡ goes_on kinds bounds texts room from i
  unfolding goes_on
  call-decides hk hb hr e = rw (lt-ltb i (length kinds) hk, lt-ltb i (length bounds) hb, lt-ltb i room hr) e

-- # One call
module _ (kind : ℕ) (text : List ℕ) {s t : Session} {numbers : List ℕ} where
  pub performs-open : kind ≡ 0 → Performs (Open text) s numbers t → Performs (call_of kind text) s numbers t
  unfolding call_of
  performs-open e h = rw e h

  pub performs-apply : kind ≡ 1 → Performs (Apply text) s numbers t → Performs (call_of kind text) s numbers t
  unfolding call_of
  performs-apply e h = rw e h

  pub performs-undo : kind ≡ 2 → Performs Undo s numbers t → Performs (call_of kind text) s numbers t
  unfolding call_of
  performs-undo e h = rw e h

  pub performs-close : (kind ≡ 0 → ⊥) → (kind ≡ 1 → ⊥) → (kind ≡ 2 → ⊥) → Performs Close s numbers t → Performs (call_of kind text) s numbers t
  unfolding call_of
  performs-close a b c h =
      subst (λ call. Performs call s numbers t) (sym (get_or-eq_default (Open text ∷ Apply text ∷ Undo ∷ []) Close {n = kind} (omega arith))) h
