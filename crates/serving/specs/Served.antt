-- What nodes serve in node addition, as keys.
use Rattle.std.specs.Prelude.{ℕ, ◌+◌, ◌*◌, ◌/◌, ◌%◌, ◌^◌, cond, List, [], ◌∷◌, eqb, Option, Some, option_map, option_and_then, option_to_list}
use Rattle.lists.specs.Lists.{each, find}

-- the target of the node's first edge of the name
unfoldable pub first_target : (edges : List ℕ) → (number name : ℕ) → Option ℕ
first_target edges number name = option_map (λ k. k % 2 ^ 16) (find (λ k. eqb (k / 2 ^ 16) (number * 2 ^ 6 + name)) edges)

-- the key of the node's targets by the arms' names, after those that are in `key`, if it has all
unfoldable pub served_key : (edges : List ℕ) → (number key : ℕ) → (arms : List ℕ) → Option ℕ
served_key edges number key [] = Some key
served_key edges number key (a ∷ arms) = option_and_then (λ t. served_key edges number (key * 2 ^ 16 + t) arms) (first_target edges number (a / 2 ^ 16))

-- of all nodes of the class, in their order
unfoldable pub served_keys : (class : ℕ) → (arms edges nodes : List ℕ) → List ℕ
served_keys class arms edges nodes =
    each nodes (λ n. cond (eqb (n / 2 ^ 32 % 2 ^ 6) class) (option_to_list (served_key edges (n / 2 ^ 38) 0 arms)) [])
