-- What the call of an entry keeps to, so that it can be made, and where its text stands in the script.
use Rattle.std.specs.Prelude.{ℕ, ◌≡◌, Bool, true, ◌+◌, ◌<◌, ◌≤◌, ◌&&◌, List, ◌++◌, length, drop, leb}
use Rattle.model.specs.Limits
use Rattle.replay.specs.declared.script.Call.{Call}
use Rattle.replay.specs.declared.script.Call.TheVariants.{Change, First, After, Save}

-- of a line's numbers, a length and one number more than any matching has are kept
abbrev pub line_room : ℕ
line_room = Limits.pattern_nodes + 2

-- the longest buffer that is lent to save
abbrev pub buffer_room : ℕ
buffer_room = 65536

-- list and buffer are not longer than the room that there is for them, and a list stands behind a length
abbrev pub fits : Call → Bool
fits (Change kind) = true
fits First = true
fits (After line) = leb 1 line.count && leb line.count line_room
fits (Save length) = leb length buffer_room

-- a script begins with a line of a byte at least, then an entry's text, and then what is left for the next entry
pub record EntryAt (script text rest : List ℕ) : Type 0 where
  pub line : ℕ
  pub taken : 0 < line
  pub inside : line ≤ length script
  pub parts : text ++ rest ≡ drop line script
