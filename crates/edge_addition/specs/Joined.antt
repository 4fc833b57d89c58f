-- What edge addition makes of the edges when they are joined with the images.
use Rattle.std.specs.Prelude.{ℕ, ◌/◌, ◌%◌, ◌^◌, ◌≡◌, Bool, true, cond, ◌&&◌, List, [], ◌∷◌, map, length, eqb, ltb, Option, None, Some}
use Rattle.lists.specs.Lists.{◌∈◌, find}
use Rattle.model.specs.Limits
use Rattle.model.specs.Graph.{Scheme, Instance, of_kind, stands, torn}
use Rattle.model.specs.Operations.{unless_torn}
use Rattle.model.specs.Refusals.{Outcome, refused}
use Rattle.model.specs.declared.Refusal.TheVariants.{EdgesFull}
use Rattle.graph.specs.Packed.{unpack_triple, unpack_declared}
use Rattle.graph.specs.declared.declarations.Declarations.{Declarations}

-- the key has the functional name of the one before it, from the same node
abbrev pub tears : Declarations → (last key : ℕ) → Bool
tears names last key = eqb (last / 2 ^ 16) (key / 2 ^ 16) && of_kind 0 (unpack_declared names) (key / 2 ^ 16 % 2 ^ 6)

-- the source of the first key that does
unfoldable pub first_torn : Declarations → List ℕ → Option ℕ
first_torn names [] = None
first_torn names (k ∷ []) = None
first_torn names (k ∷ l ∷ ks) = let rest = first_torn names (l ∷ ks) in cond (tears names k l) (Some (l / 2 ^ 22)) rest

-- each of the keys starts at a node
abbrev pub SourcesIn : Instance → List ℕ → Type 0
SourcesIn d ks = (k : ℕ) → k ∈ ks → stands d (k / 2 ^ 22) ≡ true

-- "for edge addition 11 before 12", and 12 returns the "smallest such node"
unfoldable pub joined_to : Scheme → (edges : List ℕ) → Instance → Outcome Instance
joined_to s ks d =
    let es = map unpack_triple ks in
    cond (ltb Limits.edges (length ks)) (refused EdgesFull)
    (unless_torn (find (λ n. torn s es n.number) d.nodes) (record { nodes = d.nodes; edges = es }))
