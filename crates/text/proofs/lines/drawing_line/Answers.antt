-- `text::lines::drawing_line` meets its contract: the table's first kinds are the keys of a drawing file. Assumes nothing.
use borrow.Author.Rules.{rules}
use Rattle.text.specs.Laws.Parsing.{drawing-parsed}
use Rattle.text.proofs.lines.drawing_line.Goals as goal

pub returns : goal.returns
returns c = search (drawing-parsed, rules)
