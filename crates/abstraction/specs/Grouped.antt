-- New nodes for groups.
use Rattle.std.specs.Prelude.{ℕ, ◌≡◌, cond, ◌||◌, List, map, length, eqb, Result}
use Rattle.std.specs.Bool.{⊤}
use Rattle.lists.specs.Lists.{any}
use Rattle.model.specs.Graph.{Instance}
use Rattle.model.specs.Operations.{with_node, new_nodes, grouped, groups, group_arms}
use Rattle.model.specs.Refusals.{Outcome, accepted}
use Rattle.model.specs.declared.Refusal.{Refusal}
use Rattle.graph.specs.Packed.{unpack_arm, unpack_instance}
use Rattle.graph.specs.declared.instance.PackedInstance.{PackedInstance}
use Rattle.growth.specs.Growth.{judged, Addable}
use Rattle.edge_runs.specs.Runs.{has_targets}
use Rattle.groups.specs.Groups.{arms_led_by}

-- what is grown to, also after a refusal: the instance may grow on
pub record GrowsTo (o : Outcome Instance) (v : Result ⊤ Refusal) (grown : PackedInstance) : Type 0 where
  pub outcome : judged v (unpack_instance grown) ≡ o
  pub addable : Addable grown

-- a new node with the arms, unless there are none or an old node has just their targets
unfoldable pub added_with : (class : ℕ) → (arms old numbers : List ℕ) → (b : ℕ) → Instance → Outcome Instance
added_with class arms old numbers b now =
    cond (eqb (length arms) 0 || any (has_targets old b arms) numbers) (accepted now) (with_node class (map unpack_arm arms) now)

-- for the group that an image leads
abbrev pub added_at : (class : ℕ) → (images : List ℕ) → (a : ℕ) → (old numbers : List ℕ) → (b i : ℕ) → Instance → Outcome Instance
added_at class images a old numbers b i now = added_with class (arms_led_by old a b images i) old numbers b now

-- "A group for which no K node of the old drawing has exactly that group as its b-targets gets a new K node with those b-edges"
unfoldable pub grouped_to : (class a b : ℕ) → (images : List ℕ) → Instance → Outcome Instance
grouped_to class a b images old = new_nodes class (λ group now. grouped class b old group) (group_arms b) (groups old.edges a images) old
