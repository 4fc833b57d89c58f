-- How notes are stored: the keys as they came, and the same keys as they rise.
use Rattle.std.specs.Prelude.{ℕ, ◌≤◌, ◌≡◌, List, length, take}
use Rattle.notes.specs.Notes.{most, sorted}
use Rattle.notes.specs.declared.Notes.TheInside.{Inside}

-- the keys as they came
abbrev pub noted : Inside → List ℕ
noted n = take n.count n.coming

pub record Kept (n : Inside) : Type 0 where
  pub coming_room : length n.coming ≡ most
  pub rising_room : length n.rising ≡ most
  pub few : n.count ≤ most
  pub order : take n.count n.rising ≡ sorted (noted n)
