-- A number that is not the last of those up to a bound is among those before.
use Rattle.std.specs.Prelude.{ℕ, suc, ◌≤◌, ◌≡◌}
use Rattle.std.proofs.Common.{arith}

pub up_to_lem : (k n : ℕ) → k ≤ suc n → (k ≡ suc n → ⊥) → k ≤ n
up_to_lem k n h other = omega arith
