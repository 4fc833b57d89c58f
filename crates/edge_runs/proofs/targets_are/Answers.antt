-- the goals that are left of `targets_are`
use native.Mathlib.Omega.{arith}
use Rattle.std.proofs.Common.{◌≤◌, ◌≡◌, ◌-◌, length, take, drop, take_all, length-drop}
use Rattle.edge_runs.specs.Laws.Running.{start-within, compares-start, too_short, target-differs, target-same, edges-over, run_ends}
use borrow.Author.Rules.{rules}
use Rattle.edge_runs.proofs.targets_are.Goals as goal

pub offset_bounds-edges-start : goal.offset_bounds-edges-start
offset_bounds-edges-start c = let within : c.args.start ≤ length c.args.edges.keys.now = search (start-within, rules) in omega arith

pub slice_bounds-iter-count : goal.slice_bounds-iter-count
slice_bounds-iter-count c = search (start-within, rules)

pub slice_bounds-iter-start : goal.slice_bounds-iter-start
slice_bounds-iter-start c = search (start-within, rules)

pub loop-key-init : goal.loop-key-init
loop-key-init c =
    let rest = drop c.args.start c.args.edges.keys.now in
    let all : take (length c.args.edges.keys.now - c.args.start) rest ≡ rest = take_all _ rest (simp length-drop (omega arith)) in
    rw (c.iter-rest.ensures.rest, all) (compares-start _ _ _ _ c.args.edges.rise c.requires.start_value)

pub returns-in_default : goal.returns-in_default
returns-in_default c = too_short _ _ _ _ _ c.loop-key.invariant c.loop-key-test.true c.in_default.ensures.steps.0

pub returns-then-edge-run : goal.returns-then-edge-run
returns-then-edge-run c = target-differs _ _ _ _ _ c.loop-key.invariant _ _ c.in-Some.ensures.steps c.loop-key-test.true c.if-edge-run.true

pub loop-key-preserved : goal.loop-key-preserved
loop-key-preserved c = target-same _ _ _ _ _ c.loop-key.invariant _ _ c.in-Some.ensures.steps c.loop-key-test.true c.if-edge-run.false

pub returns-in-Some-next : goal.returns-in-Some-next
returns-in-Some-next c = run_ends _ _ _ _ _ c.loop-key.invariant _ _ c.in-Some-next.ensures.steps c.loop-key-test.false

pub returns-in-None : goal.returns-in-None
returns-in-None c = edges-over _ _ _ _ _ c.loop-key.invariant c.loop-key-test.false c.in-None.ensures.steps.0
