-- `replay::script::numbers_in` meets its contract: what is kept of a line has room. Assumes nothing.
use Rattle.std.proofs.Common.{◌≤◌}
use Rattle.replay.specs.Entries.{line_room}
use Rattle.replay.proofs.script.numbers_in.Given as goal

abbrev pub invariant-loop-piece : goal.invariant-loop-piece
invariant-loop-piece l = l.line.count ≤ line_room
