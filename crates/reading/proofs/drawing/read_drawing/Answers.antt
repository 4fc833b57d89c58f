-- the goals that are left of `read_drawing`
use Rattle.std.specs.Prelude.{◌+◌, ◌≡◌}
use Rattle.std.proofs.Common.{arith, rules}
use Rattle.std.proofs.lemmas.Result.{err_from_is_err_and}
use Rattle.model.specs.declared.Refusal.TheVariants.{Malformed}
use Rattle.verdicts.proofs.Laws.Pieces.{piece-taken, piece-inside, next-piece}
use Rattle.reading.specs.Laws.DrawingHeld.{reading-start, reading-few, read-to-held, read-to-coming, read-to-room, read-to-next}
use Rattle.reading.specs.Laws.DrawingHeld.{unended-read, malformed-read, failing-read, read-to-end, scheme-stored, instance-stored}
use Rattle.reading.proofs.drawing.read_drawing.Goals as goal

pub loop-piece-init : goal.loop-piece-init
loop-piece-init c =
    rw (c.into_iter-piece-iterator.ensures.into_iter_gives, c.split_inclusive-piece-items.ensures.rest)
    (reading-start c.args.text.now c.new-drawing.ensures c.new-last.ensures)

pub overflow_add-line : goal.overflow_add-line
overflow_add-line c =
    let taken = piece-taken c.in-Some.ensures.steps (λ f b r q k. search rules) in
    let r = c.loop-piece.invariant in
    let few = reading-few r (piece-inside c.args.text.now c.loop-piece.piece-iterator.rest.now r.here taken) in
    search rules

pub returns-in_err-bytes : goal.returns-in_err-bytes
returns-in_err-bytes c =
    let e = err_from_is_err_and c.from_residual.result c.from_residual.ensures.1 in
    let refused : c.in_err-bytes.field-0.0 ≡ Malformed (c.loop-piece.last.lines + 1) = grind arith in
    let taken = piece-taken c.in-Some.ensures.steps (λ f b r q k. search rules) in
    let p = next-piece c.args.text.now c.in-Some.piece.now c.strip_suffix.result c.loop-piece.invariant.here taken c.strip_suffix.ensures.cases in
    rw (e.1, e.2, refused) (unended-read c.loop-piece.invariant.read p.left (p.unended c.in_err-bytes.ensures.ok_part))

pub returns-in_err-l : goal.returns-in_err-l
returns-in_err-l c =
    let e = err_from_is_err_and c.from_residual-in_err-l.result c.from_residual-in_err-l.ensures.1 in
    let refused : c.in_err-l.field-0.0 ≡ Malformed (c.loop-piece.last.lines + 1) = grind arith in
    let taken = piece-taken c.in-Some.ensures.steps (λ f b r q k. search rules) in
    let p = next-piece c.args.text.now c.in-Some.piece.now c.strip_suffix.result c.loop-piece.invariant.here taken c.strip_suffix.ensures.cases in
    let found = p.line c.in_ok-bytes.ensures.ok_part in
    rw (e.1, e.2, refused)
    (malformed-read c.loop-piece.invariant.read p.left found c.drawing_line.ensures c.in_err-l.ensures.ok_part)

pub check_line-requires-clause-held : goal.check_line-requires-clause-held
check_line-requires-clause-held c = read-to-held c.loop-piece.invariant.read

pub check_line-requires-clause-coming : goal.check_line-requires-clause-coming
check_line-requires-clause-coming c =
    let taken = piece-taken c.in-Some.ensures.steps (λ f b r q k. search rules) in
    let p = next-piece c.args.text.now c.in-Some.piece.now c.strip_suffix.result c.loop-piece.invariant.here taken c.strip_suffix.ensures.cases in
    let found = p.line c.in_ok-bytes.ensures.ok_part in
    read-to-coming c.loop-piece.invariant.read p.left found c.drawing_line.ensures c.in_ok-l.ensures.ok_part (search rules)

pub returns-in_err-check_line : goal.returns-in_err-check_line
returns-in_err-check_line c =
    let taken = piece-taken c.in-Some.ensures.steps (λ f b r q k. search rules) in
    let p = next-piece c.args.text.now c.in-Some.piece.now c.strip_suffix.result c.loop-piece.invariant.here taken c.strip_suffix.ensures.cases in
    let found = p.line c.in_ok-bytes.ensures.ok_part in
    let e = err_from_is_err_and c.from_residual-in_err-check_line.result c.from_residual-in_err-check_line.ensures.1 in
    rw (e.1, e.2)
    (failing-read c.loop-piece.invariant.read p.left found c.drawing_line.ensures c.in_ok-l.ensures.ok_part c.check_line.ensures c.in_err-check_line.was)

pub keep-requires-clause-fits : goal.keep-requires-clause-fits
keep-requires-clause-fits c = c.loop-piece.invariant.read.fits

pub keep-requires-clause-room : goal.keep-requires-clause-room
keep-requires-clause-room c =
    let taken = piece-taken c.in-Some.ensures.steps (λ f b r q k. search rules) in
    let p = next-piece c.args.text.now c.in-Some.piece.now c.strip_suffix.result c.loop-piece.invariant.here taken c.strip_suffix.ensures.cases in
    let found = p.line c.in_ok-bytes.ensures.ok_part in
    read-to-room c.loop-piece.invariant.read p.left found c.drawing_line.ensures c.in_ok-l.ensures.ok_part c.check_line.ensures c.in_ok-check_line.was

pub loop-piece-preserved : goal.loop-piece-preserved
loop-piece-preserved c =
    let taken = piece-taken c.in-Some.ensures.steps (λ f b r q k. search rules) in
    let p = next-piece c.args.text.now c.in-Some.piece.now c.strip_suffix.result c.loop-piece.invariant.here taken c.strip_suffix.ensures.cases in
    let found = p.line c.in_ok-bytes.ensures.ok_part in
    let read = read-to-next c.loop-piece.invariant.read p.left found c.drawing_line.ensures c.in_ok-l.ensures.ok_part c.check_line.ensures
    c.in_ok-check_line.was c.keep.ensures in
    record { here = p.here; read = rw (p.next c.in_ok-bytes.ensures.ok_part) read }

pub invariant_of-result : goal.invariant_of-result
invariant_of-result c =
    let read = c.loop-piece.invariant.read in
    record { scheme_stored = scheme-stored read; instance_stored = instance-stored read }

pub returns : goal.returns
returns c = let none = c.in-None.ensures.steps.0 in read-to-end c.loop-piece.invariant.read (omega arith)
