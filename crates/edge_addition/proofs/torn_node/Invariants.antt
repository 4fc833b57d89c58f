-- `edge_addition::torn_node` meets its contract: no two neighbours clash before those that are left. Assumes nothing.
use Rattle.std.specs.Prelude.{◌≡◌}
use Rattle.std.specs.Slice.ArrayWindows.{array_windows_parts}
use Rattle.std.specs.Slice.Iter.{windows_rest, windows_size}
use Rattle.edge_addition.specs.Joined.{first_torn}
use Rattle.edge_addition.proofs.torn_node.Given as goal

abbrev pub invariant-loop-last : goal.invariant-loop-last
invariant-loop-last l =
    let windows = array_windows_parts l.last-iterator in
    record { pairs : windows_size windows ≡ 2; left : first_torn l.names l.edges ≡ first_torn l.names (windows_rest windows) }
