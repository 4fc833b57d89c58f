-- `writing::save::save` meets its contract: the file of a stored scheme and instance is that of their rows. Assumes nothing.
use borrow.Author.Rules.{rules}
use Rattle.writing.proofs.Laws.Saving.{listed-short, listed-saves}
use Rattle.writing.proofs.save.save.Goals as goal

pub save-requires : goal.save-requires
save-requires c = search (listed-short, rules)

pub returns : goal.returns
returns c = search (listed-saves, rules)
