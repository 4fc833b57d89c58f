-- The keys that the operations are given: rising, they are those that were noted; as they came, those that came after the first. Assumes nothing.
use Rattle.std.specs.Prelude.{ℕ, ◌^◌, ◌≤◌, ◌≡◌, refl, true, List, length, drop, Result}
use Rattle.std.specs.Bool.{⊤}
use Rattle.std.proofs.Common.{ap, ◌∙◌}
use Rattle.lists.specs.Lists.{Below}
use Rattle.model.specs.Limits
use Rattle.model.specs.Graph.{Scheme, Instance}
use Rattle.model.specs.Refusals.{accepted}
use Rattle.model.specs.declared.Refusal.{Refusal}
use Rattle.keys.specs.Keys.{keys_rise}
use Rattle.graph.specs.Packed.{unpack_instance}
use Rattle.graph.specs.declared.instance.PackedInstance.{PackedInstance}
use Rattle.notes.specs.Notes.{sorted}
use Rattle.notes.specs.Laws.Noting.{sorted_rises}
use Rattle.deletion.specs.Deleted.{without_nodes, without_edges, WithoutNodes, WithoutEdges}
use Rattle.growth.specs.Growth.{Makes}
use Rattle.edge_addition.specs.Joined.{SourcesIn, joined_to}
use Rattle.node_addition.specs.Added.{added_for}
use Rattle.abstraction.specs.Grouped.{grouped_to}

module _ (log ks : List ℕ) (rise : ks ≡ sorted log) where
  pub part-rises : keys_rise ks ≡ true
  part-rises = rw rise (sorted_rises log)

  module _ (d e : PackedInstance) (c : Result ⊤ Refusal) (new : PackedInstance) (makes : Makes (accepted (unpack_instance e)) c new) where
    pub nodes-deleted : WithoutNodes ks d e → Makes (accepted (without_nodes (sorted log) (unpack_instance d))) c new
    nodes-deleted w = record { fits = makes.fits; makes = makes.makes ∙ ap accepted w.left ∙ rw rise refl }

    pub edges-deleted : WithoutEdges ks d e → Makes (accepted (without_edges (sorted log) (unpack_instance d))) c new
    edges-deleted w = record { fits = makes.fits; makes = makes.makes ∙ ap accepted w.left ∙ rw rise refl }

  module _ (d : Instance) where
    pub part-sources : SourcesIn d (sorted log) → SourcesIn d ks
    part-sources h = rw rise h

    pub edges-added : (s : Scheme) (c : Result ⊤ Refusal) (new : PackedInstance) → Makes (joined_to s ks d) c new → Makes (joined_to s (sorted log) d) c new
    edges-added s c new m = rw (← rise) m

    pub groups-added : (K a b : ℕ) (c : Result ⊤ Refusal) (new : PackedInstance) → Makes (grouped_to K a b ks d) c new → Makes (grouped_to K a b (sorted log) d) c new
    groups-added K a b c new m = rw (← rise) m

  pub part-below : Below (2 ^ 16) (sorted log) → Below (2 ^ 16) ks
  part-below h = rw rise h

  pub part-few : length (sorted log) ≤ Limits.nodes → length ks ≤ Limits.nodes
  part-few h = rw rise h

-- the keys as they came, without the first
pub nodes-added : (log ks : List ℕ) (begun : ℕ) → ks ≡ drop begun log → (K : ℕ) (arms : List ℕ) (d : Instance) (c : Result ⊤ Refusal) (new : PackedInstance)
    → Makes (added_for K arms ks d) c new → Makes (added_for K arms (drop begun log) d) c new
nodes-added log ks begun came K arms d c new m = rw (← came) m
