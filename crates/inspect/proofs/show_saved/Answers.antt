-- `inspect::show_saved` meets its contract: what is saved is not longer than the buffer. Assumes nothing.
use native.Mathlib.Omega.{arith}
use Rattle.writing.proofs.Laws.Saving.{saved-room}
use Rattle.inspect.proofs.show_saved.Goals as goal

pub slice_bounds-blanks-count : goal.slice_bounds-blanks-count
slice_bounds-blanks-count g c = let room = saved-room c.save.ensures c.in-Ok.is in omega arith

pub slice_bounds-blanks-start : goal.slice_bounds-blanks-start
slice_bounds-blanks-start g c = let room = saved-room c.save.ensures c.in-Ok.is in omega arith

pub save_closely-requires : goal.save_closely-requires
save_closely-requires g c = let room = saved-room c.save.ensures c.in-Ok.is in omega arith
