-- `pattern_lines::edge_known` meets its contract: a pattern node stands if its number is below their count. Assumes nothing.
use Rattle.std.specs.Prelude.{◌/◌, ◌%◌, ◌^◌, []}
use borrow.Author.Rules.{rules}
use Rattle.pattern_lines.specs.PatternLines.{knows}
use Rattle.pattern_lines.specs.Laws.PatternChecks.{place_stands}
use Rattle.pattern_lines.proofs.edge_known.Goals as goal

pub returns-then-declares : goal.returns-then-declares
unfolding knows
returns-then-declares c =
    rw (← place_stands c.args.nodes.now [] (c.args.edge / 2 ^ 22), ← place_stands c.args.nodes.now [] (c.args.edge % 2 ^ 16)) (search rules)

pub returns-else-declares : goal.returns-else-declares
unfolding knows
returns-else-declares c =
    rw (← place_stands c.args.nodes.now [] (c.args.edge / 2 ^ 22), ← place_stands c.args.nodes.now [] (c.args.edge % 2 ^ 16)) (search rules)
