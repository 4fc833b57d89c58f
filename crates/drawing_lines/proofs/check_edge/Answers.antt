-- `drawing_lines::check_edge` meets its contract: its tests are those of an edge line, in their order. Assumes nothing.
use Rattle.std.proofs.Common.{rules}
use Rattle.std.proofs.lemmas.Result.{err_from_is_err_and}
use Rattle.verdicts.proofs.Laws.Tests.{Judging}
use Rattle.drawing_lines.specs.DrawingLines.{edge_checks}
use Rattle.drawing_lines.specs.Laws.DrawingChecks.{nothing-stands, node-stands, ends_found}
use Rattle.drawing_lines.proofs.check_edge.Goals as goal

pub returns-in_err-source : goal.returns-in_err-source
unfolding edge_checks
returns-in_err-source c =
    let p = err_from_is_err_and c.from_residual.result c.from_residual.ensures.1 in
    let none = c.in_err-source.ensures.ok_part in
    rw (p.1, p.2) (search (Judging, nothing-stands, rules))

pub returns-then-not-declares : goal.returns-then-not-declares
unfolding edge_checks
returns-then-not-declares c =
    let source = c.in_ok-source.ensures.ok_part in
    search (Judging, node-stands, rules)

pub returns-in_err-target : goal.returns-in_err-target
unfolding edge_checks
returns-in_err-target c =
    let p = err_from_is_err_and c.from_residual-in_err-target.result c.from_residual-in_err-target.ensures.1 in
    let source = c.in_ok-source.ensures.ok_part in
    let none = c.in_err-target.ensures.ok_part in
    rw (p.1, p.2) (search (Judging, nothing-stands, node-stands, rules))

pub returns-then-not-edge_conforms : goal.returns-then-not-edge_conforms
unfolding edge_checks
returns-then-not-edge_conforms c =
    let source = c.in_ok-source.ensures.ok_part in
    let target = c.in_ok-target.ensures.ok_part in
    search (Judging, node-stands, ends_found, rules)

pub returns : goal.returns
unfolding edge_checks
returns c =
    let source = c.in_ok-source.ensures.ok_part in
    let target = c.in_ok-target.ensures.ok_part in
    search (Judging, node-stands, ends_found, rules)
