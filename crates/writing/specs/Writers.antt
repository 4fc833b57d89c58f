-- What save promises: the answer and the buffer that the record's save leaves, whether the buffer is long enough or too short.
use Rattle.std.specs.Prelude.{ℕ, ◌<◌, ◌≤◌, ◌≡◌, List, length, Result, Ok, Err}
use Rattle.lists.specs.Buffers.{at_front}
use Rattle.model.specs.Graph.{Scheme, Instance}
use Rattle.model.specs.Record.{opened, Save, step}
use Rattle.model.specs.Answers.{save_answer}
use Rattle.model.specs.declared.Refusal.TheVariants.{BufferShort}
use Rattle.model.specs.declared.Refusal.{Refusal}

-- "Save, too, only reads the session", whatever copies it has
pub record Saves (s : Scheme) (d : Instance) (before : List ℕ) (r : Result ℕ Refusal) (after : List ℕ) : Type 0 where
  pub leaves : (copies : List Instance)
      → record { state = opened s d copies; answer = save_answer r; buffer = after } ≡ step (opened s d copies) (Save before)

-- the same of a text, case by case: one that is longer than the buffer is refused, and nothing changes; any other stands at the front
pub record SavesText (text before : List ℕ) (r : Result ℕ Refusal) (after : List ℕ) : Type 0 where
  pub short : length before < length text → (r ≡ Err (BufferShort (length text))) × (after ≡ before)
  pub fits : length text ≤ length before → (r ≡ Ok (length text)) × (after ≡ at_front text before)
