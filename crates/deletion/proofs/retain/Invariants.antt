-- `deletion::retain` meets its contract: the keys that stay of those looked at are at the front. Assumes nothing.
use Rattle.std.proofs.Common.{◌≡◌, ◌≤◌, ℕ, Bool}
use Rattle.deletion.specs.Laws.Retained.{Retaining}
use Rattle.deletion.proofs.retain.Given as goal

abbrev pub invariant-loop-next : goal.invariant-loop-next
invariant-loop-next g l =
    (l.kept ≤ l.next)
    × ((stays : ℕ → Bool) → ((k : ℕ) (r : Bool) → goal.F-post g l.stays k r → r ≡ stays k)
    → Retaining stays l.initial.keys l.count l.keys l.kept l.next)
