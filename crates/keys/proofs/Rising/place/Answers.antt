-- `keys::Rising::place` meets its contract: the keys below the key stand first. Assumes nothing.
use Rattle.std.specs.Prelude.{ltb}
use Rattle.std.proofs.Common.{rules}
use Rattle.std.proofs.lemmas.List.Sorted.{IsPartitionPoint-from_clause}
use Rattle.keys.specs.Laws.Keys.{below-first, place-partition}
use Rattle.keys.proofs.Rising.place.Goals as goal

pub returns : goal.returns
returns c =
    let key = c.args.key in
    let found = c.partition_point.ensures in
    let parted = below-first _ key c.args.self.rise in
    place-partition _ key c.args.self.rise _ found.bound
    (IsPartitionPoint-from_clause (λ k. ltb k key) _ _ found.partitioned parted (λ a r f' k. search rules))
