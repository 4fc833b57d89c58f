-- `visits::Placement::note_edges` meets its contract: the keys of the parts before the index are noted. Assumes nothing.
use Rattle.std.proofs.Common.{◌≡◌, take}
use Rattle.notes.specs.Notes.{note_all}
use Rattle.notes.specs.Visits.{edge_keys}
use Rattle.visits.specs.Placed.{numbers}
use Rattle.visits.proofs.Placement.note_edges.Given as goal

abbrev pub invariant-loop-part : goal.invariant-loop-part
invariant-loop-part l = l.notes ≡ note_all l.initial.notes (edge_keys (take l.part-index l.parts) (numbers l.self))
