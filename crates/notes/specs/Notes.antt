-- Notes: keys in the order in which they come, each once, at most so many.
use Rattle.std.specs.Prelude.{ℕ, suc, cond, not, ◌&&◌, length, ltb}
use mathlib.Core.List.{List, [], ◌∷◌, ◌++◌, foldl}
use Rattle.lists.specs.Lists.{member}
use Rattle.model.specs.Limits
use Rattle.keys.specs.Keys.{join_key}

-- one more than an instance has edges
abbrev pub most : ℕ
most = suc Limits.edges

-- one key more, unless it is noted already or there is no room
unfoldable pub note : List ℕ → ℕ → List ℕ
note log k = cond (ltb (length log) most && not (member log k)) (log ++ (k ∷ [])) log

abbrev pub note_all : List ℕ → List ℕ → List ℕ
note_all log ks = foldl note log ks

-- keys in rising order, each once
abbrev pub sorted : List ℕ → List ℕ
sorted ks = foldl (λ rising k. join_key k rising) [] ks
