-- Behind the edges there is no run.
use Rattle.std.specs.Prelude.{ℕ, ◌≤◌, ◌≡◌, refl, List, [], length, drop}
use Rattle.std.proofs.Common.{drop_of_length-le}
use Rattle.edge_runs.specs.Runs.{targets_at}

pub nothing_left : (edges : List ℕ) (run at : ℕ) → length edges ≤ at → targets_at (drop at edges) run ≡ []
unfolding targets_at
nothing_left edges run at past = rw (drop_of_length-le edges past) refl
