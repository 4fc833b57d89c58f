-- the goals that are left of `apply_over`
use borrow.Author.Rules.{rules}
use Rattle.benchmark.specs.ApplicationLaws.{applied-none, applied-next}
use Rattle.benchmark.proofs.applying.apply_over.Goals as goal

pub loop-init : goal.loop-init
loop-init c = applied-none c.args.whole.now.scheme c.args.whole.now.instance c.args.rule.now

pub loop-preserved : goal.loop-preserved
loop-preserved c = search (applied-next, rules)
