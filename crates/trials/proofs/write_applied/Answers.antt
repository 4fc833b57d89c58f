-- `trials::write_applied` meets its contract: the file stands where the counts end. Assumes nothing.
use Rattle.trials.proofs.Laws.Parts.{file-start, file-fits, applied-written, applied-as-long}
use borrow.Author.Rules.{rules}
use Rattle.trials.proofs.write_applied.Goals as goal

pub slice_bounds-write_saved-count : goal.slice_bounds-write_saved-count
slice_bounds-write_saved-count c = search (file-start, rules)

pub slice_bounds-write_saved-start : goal.slice_bounds-write_saved-start
slice_bounds-write_saved-start c = search (file-start, rules)

pub write_saved-requires : goal.write_saved-requires
write_saved-requires c = search (file-fits, rules)

pub shape_of-out : goal.shape_of-out
shape_of-out c = search (applied-as-long, rules)

pub returns : goal.returns
returns c = search (applied-written, rules)
