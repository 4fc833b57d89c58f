-- The arms for a key are as many as the arms.
use Rattle.std.specs.Prelude.{ℕ, suc, ◌≡◌, refl, List, [], ◌∷◌, length}
use Rattle.std.proofs.Common.{ap, ◌∙◌}
use Rattle.node_addition.specs.Added.{arms_to}

arms-length : (arms : List ℕ) (key : ℕ) → length (arms_to arms key) ≡ length arms
unfolding arms_to
arms-length [] key = refl
arms-length (a ∷ arms) key = ap suc (arms-length arms key)

pub as_many : (arms to : List ℕ) (key : ℕ) → to ≡ arms_to arms key → length to ≡ length arms
as_many arms to key here = ap length here ∙ arms-length arms key
