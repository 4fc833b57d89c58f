-- `reading::drawing::read_drawing` meets its contract: whenever a line is looked at, the text is read up to there, and the arrays hold what the
-- lines above say. Assumes nothing.
use Rattle.reading.specs.Laws.DrawingHeld.{Reading}
use Rattle.reading.proofs.drawing.read_drawing.Given as goal

abbrev pub invariant-loop-piece : goal.invariant-loop-piece
invariant-loop-piece l = Reading l.text l.piece-iterator.rest.now l.last l.drawing
