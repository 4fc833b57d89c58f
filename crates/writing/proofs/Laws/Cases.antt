-- A text that is longer than the buffer, and one that is written; and the lines of a kind before the first one.
use Rattle.std.specs.Prelude.{ℕ, ◌+◌, ◌-◌, ◌^◌, ◌<◌, ◌≤◌, ◌≡◌, refl, List, length, take, drop, get_or, Ok, Err}
use Rattle.std.proofs.Common.{arith, ap}
use Rattle.lists.specs.Buffers.{Writes}
use Rattle.lists.proofs.Laws.Buffers.{unwritten-from}
use Rattle.model.specs.declared.Refusal.TheVariants.{BufferShort}
use Rattle.forms.specs.declared.LineKind.{LineKind}
use Rattle.printing.specs.Written.{row_text}
use Rattle.writing.specs.Lines.{rows_text}
use Rattle.writing.specs.Writers.{SavesText}
use Rattle.writing.proofs.Laws.Lines.{Lined, lined-next}

module _ (text before : List ℕ) {needed : ℕ} (e : needed ≡ length text) where
  pub text-refused : length before < needed → SavesText text before (Err (BufferShort needed)) before
  text-refused h = record { short = λ l. (ap (λ n. Err (BufferShort n)) e, refl); fits = λ l. absurd (omega arith) }

  pub text-written : needed ≤ length before → {taken : ℕ} {after : List ℕ} → Writes text before taken after → SavesText text before (Ok taken) after
  text-written h w = record { short = λ l. absurd (omega arith); fits = λ l. (ap Ok w.count, w.buffer) }

pub lined-none : (kind : LineKind) (rows : List ℕ) (from : ℕ) (before : List ℕ) → from + length (rows_text kind rows) ≤ length before
    → Lined kind rows from before from 0 before
lined-none kind rows from before room = record { room = room; left = unwritten-from (rows_text kind rows) from before room }

-- no place past the buffer's end is reached
pub line_small : {kind : LineKind} {rows : List ℕ} {from : ℕ} {before : List ℕ} {at i : ℕ} {now : List ℕ} → Lined kind rows from before at i now
    → i < length rows → {taken : ℕ} {after : List ℕ} → Writes (row_text kind (get_or rows i 0)) (take (length now - at) (drop at now)) taken after
    → length before < 2 ^ 64 → at + taken < 2 ^ 64
line_small l h w b = let next = lined-next l h w in omega (arith, next.left.reached, next.left.fits)
