-- `text::lines::crowded` meets its contract: the form of a kind has its limit. Assumes nothing.
use borrow.Author.Rules.{rules}
use Rattle.forms.specs.Forms.{packed_form}
use Rattle.text.proofs.lines.crowded.Goals as goal

pub returns : goal.returns
unfolding packed_form
returns c = search rules
