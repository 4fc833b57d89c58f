-- `serving::first_target` meets its contract: the first edge of a run stands where its least key would. Assumes nothing.
use Rattle.std.proofs.Common.{◌<◌, length, sym, ◌∙◌, ltb-true}
use Rattle.std.proofs.lemmas.Grind.{get_or_default_zero}
use borrow.Author.Rules.{rules}
use Rattle.serving.specs.Laws.Serving.{target_found, target-other, target_past}
use Rattle.serving.proofs.first_target.Goals as goal

pub returns-in_err-edge : goal.returns-in_err-edge
returns-in_err-edge c = search (target_past, rules)

pub returns-then-edge-run : goal.returns-then-edge-run
returns-then-edge-run c =
    let found = c.in_ok-edge.ensures.lookup in
    let inside : c.place.result < length c.args.edges.keys.now = ltb-true _ _ (sym found.0) in
    target_found _ _ _ _ c.args.edges.rise c.place.ensures _ (found.1 ∙ get_or_default_zero _ _ _ inside) inside c.if-edge-run.true

pub returns-else-edge-run : goal.returns-else-edge-run
returns-else-edge-run c =
    let found = c.in_ok-edge.ensures.lookup in
    let inside : c.place.result < length c.args.edges.keys.now = ltb-true _ _ (sym found.0) in
    target-other _ _ _ _ c.args.edges.rise c.place.ensures _ (found.1 ∙ get_or_default_zero _ _ _ inside) inside c.if-edge-run.false
