-- The room of notes, which is filled from the front.
use Rattle.std.specs.Prelude.{ℕ, ◌≤◌, ◌≡◌, List, length, take}
use Rattle.std.proofs.Common.{length-take-le}
use Rattle.notes.specs.Notes.{most}

pub front_length : (room : List ℕ) → most ≤ length room → length (take most room) ≡ most
front_length room l = length-take-le most room l
