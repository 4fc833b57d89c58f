-- `benchmark::applying::apply_over` meets its contract: each application answers what the definition gives. Assumes nothing.
use Rattle.graph.specs.Packed.{unpack_scheme, unpack_instance, unpack_rule}
use Rattle.benchmark.specs.Applications.{told, AppliesOver}
use Rattle.benchmark.proofs.applying.apply_over.Given as goal

abbrev pub invariant-loop : goal.invariant-loop
invariant-loop l = AppliesOver l.counter (unpack_scheme l.whole.scheme) (unpack_rule l.rule) (unpack_instance l.whole.instance) (told l.whole.instance l.applied)
