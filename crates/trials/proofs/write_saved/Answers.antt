-- `trials::write_saved` meets its contract: what is saved is the file, and a shut session has none. Assumes nothing.
use Rattle.trials.proofs.Laws.Parts.{file-written, file-few}
use Rattle.trials.proofs.write_saved.Goals as goal

pub returns : goal.returns
returns c =
    let stored = c.requires.stored_session in
    let room = c.requires.most_of_drawing_in_bounds in
    rw c.unwrap_or.ensures
    (file-written stored room c.save.result c.save.ensures, file-few stored room c.save.result c.save.ensures)
