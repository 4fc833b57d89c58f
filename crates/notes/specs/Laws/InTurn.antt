-- One key noted after another, by what is left of them.
use Rattle.std.specs.Prelude.{ℕ, ◌+◌, ◌<◌, ◌≤◌, ◌≡◌, refl, List, length, drop}
use Rattle.std.proofs.Common.{add-one, ap, sym, ◌∙◌, drop_of_length-le, drop-cons}
use Rattle.lists.specs.Lists.{◌!◌}
use Rattle.notes.specs.Notes.{note, note_all}

pub record InTurn (before keys : List ℕ) (i : ℕ) (log : List ℕ) : Type 0 where
  pub left : note_all log (drop i keys) ≡ note_all before keys

module _ {before keys : List ℕ} where
  pub noting-none : InTurn before keys 0 before
  noting-none = record { left = refl }

  module _ {i : ℕ} {log : List ℕ} (n : InTurn before keys i log) where
    pub noting-next : {after : List ℕ} → i < length keys → after ≡ note log (keys ! i) → InTurn before keys (i + 1) after
    noting-next {after} l e = record { left = rw (add-one, e) (ap (note_all log) (sym (drop-cons keys i 0 l)) ∙ n.left) }

    pub noting-all : length keys ≤ i → log ≡ note_all before keys
    noting-all l = sym (ap (note_all log) (drop_of_length-le keys l)) ∙ n.left
