-- Texts that are written into buffers.
use Rattle.std.specs.Prelude.{ℕ, ◌+◌, ◌≡◌, List, ◌++◌, length, take, drop}

-- the text at the front of the buffer, the rest of which stays
abbrev pub at_front : (text buffer : List ℕ) → List ℕ
at_front text buffer = text ++ drop (length text) buffer

-- a text is written at the front of a buffer: how many bytes it took, and the buffer afterwards
pub record Writes (text before : List ℕ) (taken : ℕ) (after : List ℕ) : Type 0 where
  pub count : taken ≡ length text
  pub buffer : after ≡ at_front text before

-- the same from a place on: the place where the text ends, and the buffer afterwards
pub record WritesFrom (text : List ℕ) (from : ℕ) (before : List ℕ) (next : ℕ) (after : List ℕ) : Type 0 where
  pub ends : next ≡ from + length text
  pub buffer : after ≡ take from before ++ at_front text (drop from before)
