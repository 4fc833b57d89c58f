-- `rules::read_rule` meets its contract: whenever a line is looked at, the text is read up to there, and the rule holds what the lines
-- above say. Assumes nothing.
use Rattle.graph.specs.Packed.{unpack_scheme}
use Rattle.rules.specs.Laws.RuleHeld.{Reading}
use Rattle.rules.proofs.read_rule.Given as goal

abbrev pub invariant-loop-piece : goal.invariant-loop-piece
invariant-loop-piece l = Reading (unpack_scheme l.scheme) l.text l.piece-iterator.rest.now l.last l.rule
