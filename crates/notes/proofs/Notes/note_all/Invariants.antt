-- `notes::Notes::note_all` meets its contract: the keys before the index are noted. Assumes nothing.
use Rattle.std.proofs.Common.{◌≡◌, take}
use Rattle.notes.specs.Notes.{note_all}
use Rattle.notes.proofs.Notes.note_all.Given as goal

abbrev pub invariant-loop-key : goal.invariant-loop-key
invariant-loop-key l = l.self ≡ note_all l.initial.self (take l.key-index l.keys)
