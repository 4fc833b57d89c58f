-- `runs::make` meets its contract, kind by kind: refused, or what is reported. Assumes nothing.
use Rattle.std.proofs.lemmas.Result.{err_from_is_err_and}
use Rattle.runs.specs.Laws.Entries.{made-refused, made-open, made-apply, made-step}
use Rattle.runs.proofs.make.Goals as goal

pub returns-in_err-opened-in-Open : goal.returns-in_err-opened-in-Open
returns-in_err-opened-in-Open c =
    let p = err_from_is_err_and c.from_residual.result c.from_residual.ensures.1 in
    rw (c.in-Open.is, p.1, p.2) (made-refused c.in_err-opened-in-Open.ensures)

pub returns-in_ok-opened-in-Open : goal.returns-in_ok-opened-in-Open
returns-in_ok-opened-in-Open c = rw c.in-Open.is (made-open c.in_ok-opened-in-Open.ensures)

pub returns-in_err-counts-in-Apply : goal.returns-in_err-counts-in-Apply
returns-in_err-counts-in-Apply c =
    let p = err_from_is_err_and c.from_residual-in_err-counts-in-Apply.result c.from_residual-in_err-counts-in-Apply.ensures.1 in
    rw (c.in-Apply.is, p.1, p.2) (made-refused c.in_err-counts-in-Apply.ensures)

pub returns-in_ok-counts-in-Apply : goal.returns-in_ok-counts-in-Apply
returns-in_ok-counts-in-Apply c = rw c.in-Apply.is (made-apply c.in_ok-counts-in-Apply.ensures)

pub returns-in_err-undo-in-Undo : goal.returns-in_err-undo-in-Undo
returns-in_err-undo-in-Undo c =
    let p = err_from_is_err_and c.from_residual-in_err-undo-in-Undo.result c.from_residual-in_err-undo-in-Undo.ensures.1 in
    rw (c.in-Undo.is, p.1, p.2) (made-refused c.in_err-undo-in-Undo.ensures)

pub returns-in_ok-undo-in-Undo : goal.returns-in_ok-undo-in-Undo
returns-in_ok-undo-in-Undo c = rw c.in-Undo.is (made-step c.in_ok-undo-in-Undo.ensures)

pub returns-in_err-close-in-Close : goal.returns-in_err-close-in-Close
returns-in_err-close-in-Close c =
    let p = err_from_is_err_and c.from_residual-in_err-close-in-Close.result c.from_residual-in_err-close-in-Close.ensures.1 in
    rw (c.in-Close.is, p.1, p.2) (made-refused c.in_err-close-in-Close.ensures)

pub returns-in_ok-close-in-Close : goal.returns-in_ok-close-in-Close
returns-in_ok-close-in-Close c = rw c.in-Close.is (made-step c.in_ok-close-in-Close.ensures)
