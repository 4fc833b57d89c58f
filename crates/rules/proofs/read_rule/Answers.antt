-- the goals that are left of `read_rule`
use Rattle.std.specs.Prelude.{◌+◌, ◌≡◌}
use Rattle.std.proofs.Common.{arith, rules, sym, ◌∙◌}
use Rattle.std.proofs.lemmas.Result.{err_from_is_err_and}
use Rattle.model.specs.declared.Refusal.TheVariants.{Malformed}
use Rattle.graph.specs.Packed.{unpack_scheme}
use Rattle.graph.proofs.Laws.Keys.{rising-triples}
use Rattle.verdicts.proofs.Laws.Pieces.{piece-taken, piece-inside, next-piece}
use Rattle.rules.specs.Laws.RuleHeld.{reading-start, reading-few, triples-rise, read-to-held, unended-read, malformed-read, missing-read}
use Rattle.rules.specs.Laws.RuleHeld.{read-to-coming, complete-read, failing-read, read-to-room, read-to-next}
use Rattle.rules.proofs.read_rule.Goals as goal

pub loop-piece-init : goal.loop-piece-init
loop-piece-init c =
    rw (c.into_iter-piece-iterator.ensures.into_iter_gives, c.split_inclusive-piece-items.ensures.rest)
    (reading-start _ c.args.text.now c.new-rule.ensures c.new-last.ensures)

pub overflow_add-line : goal.overflow_add-line
overflow_add-line c =
    let taken = piece-taken c.in-Some.ensures.steps (λ f b r q k. search rules) in
    let r = c.loop-piece.invariant in
    let few = reading-few r (piece-inside c.args.text.now c.loop-piece.piece-iterator.rest.now r.here taken) in
    search rules

pub returns-in_err-bytes : goal.returns-in_err-bytes
returns-in_err-bytes c =
    let e = err_from_is_err_and c.from_residual.result c.from_residual.ensures.1 in
    let refused : c.in_err-bytes.field-0.0 ≡ Malformed (c.loop-piece.last.lines + 1) = grind arith in
    let taken = piece-taken c.in-Some.ensures.steps (λ f b r q k. search rules) in
    let p = next-piece c.args.text.now c.in-Some.piece.now c.strip_suffix.result c.loop-piece.invariant.here taken c.strip_suffix.ensures.cases in
    rw (e.1, e.2, refused) (unended-read c.loop-piece.invariant.read p.left (p.unended c.in_err-bytes.ensures.ok_part))

pub returns-in_err-l : goal.returns-in_err-l
returns-in_err-l c =
    let e = err_from_is_err_and c.from_residual-in_err-l.result c.from_residual-in_err-l.ensures.1 in
    let refused : c.in_err-l.field-0.0 ≡ Malformed (c.loop-piece.last.lines + 1) = grind arith in
    let taken = piece-taken c.in-Some.ensures.steps (λ f b r q k. search rules) in
    let p = next-piece c.args.text.now c.in-Some.piece.now c.strip_suffix.result c.loop-piece.invariant.here taken c.strip_suffix.ensures.cases in
    let found = p.line c.in_ok-bytes.ensures.ok_part in
    rw (e.1, e.2, refused)
    (malformed-read c.loop-piece.invariant.read p.left found c.rule_line.ensures c.in_err-l.ensures.ok_part)

pub invariant_of-permitted : goal.invariant_of-permitted
unfolding unpack_scheme
invariant_of-permitted c = record { rise = sym (rising-triples _) ∙ triples-rise _ c.requires.listed }

pub check_rule_line-requires-clause-held_rule : goal.check_rule_line-requires-clause-held_rule
check_rule_line-requires-clause-held_rule c = read-to-held c.loop-piece.invariant.read

pub check_rule_line-requires-clause-coming : goal.check_rule_line-requires-clause-coming
check_rule_line-requires-clause-coming c =
    let taken = piece-taken c.in-Some.ensures.steps (λ f b r q k. search rules) in
    let p = next-piece c.args.text.now c.in-Some.piece.now c.strip_suffix.result c.loop-piece.invariant.here taken c.strip_suffix.ensures.cases in
    let found = p.line c.in_ok-bytes.ensures.ok_part in
    read-to-coming c.loop-piece.invariant.read p.left found c.rule_line.ensures c.in_ok-l.ensures.ok_part (search rules)

pub returns-in_err-check_rule_line : goal.returns-in_err-check_rule_line
unfolding unpack_scheme
returns-in_err-check_rule_line c =
    let taken = piece-taken c.in-Some.ensures.steps (λ f b r q k. search rules) in
    let p = next-piece c.args.text.now c.in-Some.piece.now c.strip_suffix.result c.loop-piece.invariant.here taken c.strip_suffix.ensures.cases in
    let found = p.line c.in_ok-bytes.ensures.ok_part in
    let e = err_from_is_err_and c.from_residual-in_err-check_rule_line.result c.from_residual-in_err-check_rule_line.ensures.1 in
    rw (e.1, e.2)
    (failing-read c.loop-piece.invariant.read p.left found c.rule_line.ensures c.in_ok-l.ensures.ok_part c.requires.listed c.check_rule_line.ensures
    c.in_err-check_rule_line.was)

pub keep_rule_line-requires-clause-fits_rule : goal.keep_rule_line-requires-clause-fits_rule
keep_rule_line-requires-clause-fits_rule c = c.loop-piece.invariant.read.fits

pub keep_rule_line-requires-clause-room : goal.keep_rule_line-requires-clause-room
unfolding unpack_scheme
keep_rule_line-requires-clause-room c =
    let taken = piece-taken c.in-Some.ensures.steps (λ f b r q k. search rules) in
    let p = next-piece c.args.text.now c.in-Some.piece.now c.strip_suffix.result c.loop-piece.invariant.here taken c.strip_suffix.ensures.cases in
    let found = p.line c.in_ok-bytes.ensures.ok_part in
    read-to-room c.loop-piece.invariant.read p.left found c.rule_line.ensures c.in_ok-l.ensures.ok_part c.requires.listed c.check_rule_line.ensures
    c.in_ok-check_rule_line.was

pub loop-piece-preserved : goal.loop-piece-preserved
unfolding unpack_scheme
loop-piece-preserved c =
    let taken = piece-taken c.in-Some.ensures.steps (λ f b r q k. search rules) in
    let p = next-piece c.args.text.now c.in-Some.piece.now c.strip_suffix.result c.loop-piece.invariant.here taken c.strip_suffix.ensures.cases in
    let found = p.line c.in_ok-bytes.ensures.ok_part in
    let read = read-to-next c.loop-piece.invariant.read p.left found c.rule_line.ensures c.in_ok-l.ensures.ok_part c.requires.listed c.check_rule_line.ensures
    c.in_ok-check_rule_line.was c.keep_rule_line.ensures in
    record { here = p.here; read = rw (p.next c.in_ok-bytes.ensures.ok_part) read }

pub returns-then-is_complete : goal.returns-then-is_complete
returns-then-is_complete c =
    let none = c.in-None.ensures.steps.0 in
    complete-read c.loop-piece.invariant.read (omega arith) c.is_complete.ensures c.requires.listed c.if-is_complete.true

pub returns-else-is_complete : goal.returns-else-is_complete
returns-else-is_complete c =
    let none = c.in-None.ensures.steps.0 in
    missing-read c.loop-piece.invariant.read (omega arith) c.is_complete.ensures c.if-is_complete.false
