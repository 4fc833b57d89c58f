-- Rising keys: where a key stands, and keys with one more.
use Rattle.std.specs.Prelude.{ℕ, ◌≤◌, ◌≡◌, Bool, cond, List, [], ◌∷◌, map, length, take, eqb, ltb}
use Rattle.lists.specs.Lists.{keep}
use Rattle.lists.specs.Order.{rising}

unfoldable pub keys_rise : List ℕ → Bool
keys_rise ks = rising (map (λ k. k ∷ []) ks)

-- how many keys are below the key
unfoldable pub place_of : ℕ → List ℕ → ℕ
place_of key ks = length (keep (λ k. ltb k key) ks)

-- a key joined to rising keys, at its place, once
unfoldable pub join_key : ℕ → List ℕ → List ℕ
join_key e [] = e ∷ []
join_key e (f ∷ fs) = let rest = join_key e fs in cond (ltb e f) (e ∷ f ∷ fs) (cond (eqb e f) (f ∷ fs) (f ∷ rest))

-- the first `count` of the keys, in an array that may have room for more
pub record Front (keys : List ℕ) (count : ℕ) (standing : List ℕ) : Type 0 where
  pub few : count ≤ length keys
  pub front : take count keys ≡ standing
