-- Groups of images, as arms to their members.
use Rattle.std.specs.Prelude.{ℕ, ◌+◌, ◌*◌, ◌/◌, ◌%◌, ◌^◌, cond, List, [], map, eqb}
use Rattle.lists.specs.Lists.{keep, ◌!◌}
use Rattle.lists.specs.Order.{same}
use Rattle.edge_runs.specs.Runs.{run_of, targets_at}

-- the numbers of the nodes of a class
unfoldable pub numbers_of : (class : ℕ) → (nodes : List ℕ) → List ℕ
numbers_of class nodes = map (λ n. n / 2 ^ 38) (keep (λ n. eqb (n / 2 ^ 32 % 2 ^ 6) class) nodes)

-- the images that have the same targets by a as the image i; arms to them if i is the smallest, else none
abbrev pub alike : (edges : List ℕ) → (a : ℕ) → (images : List ℕ) → (i : ℕ) → List ℕ
alike edges a images i = keep (λ j. same (targets_at edges (run_of a j)) (targets_at edges (run_of a i))) images

unfoldable pub arms_led_by : (edges : List ℕ) → (a b : ℕ) → (images : List ℕ) → (i : ℕ) → List ℕ
arms_led_by edges a b images i =
    let group = alike edges a images i in
    cond (eqb (group ! 0) i) (map (λ j. b * 2 ^ 16 + j) group) []
