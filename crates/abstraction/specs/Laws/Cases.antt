-- A group that gets a new node, by what becomes of it: a refusal, or the node.
use Rattle.std.specs.Prelude.{ℕ, ◌≡◌, Bool, false, List, length, Result, Ok, Err}
use Rattle.std.specs.Bool.{⊤}
use Rattle.lists.specs.Lists.{any}
use Rattle.model.specs.declared.Refusal.{Refusal}
use Rattle.graph.specs.Packed.{unpack_instance}
use Rattle.graph.specs.declared.instance.PackedInstance.{PackedInstance}
use Rattle.growth.specs.Growth.{Addable, Grows}
use Rattle.edge_runs.specs.Runs.{has_targets}
use Rattle.abstraction.specs.Grouped.{GrowsTo, added_with}
use Rattle.abstraction.specs.Laws.Adding.{group-new}

module _ (class : ℕ) (arms old numbers : List ℕ) (b : ℕ) (d : PackedInstance) (addable : Addable d) (some : length arms ≡ 0 → ⊥) (o : Bool)
    (has : o ≡ any (has_targets old b arms) numbers) (lacks : o ≡ false) (v : Result ⊤ Refusal) (grown : PackedInstance)
    (g : Grows d class arms v grown) where
  pub group-refused : (r : Refusal) → v ≡ Err r → GrowsTo (added_with class arms old numbers b (unpack_instance d)) (Err r) grown
  group-refused r e = rw e at (group-new class arms old numbers b d addable some o has lacks v grown g)

  pub group-added : v ≡ Ok tt → GrowsTo (added_with class arms old numbers b (unpack_instance d)) (Ok tt) grown
  group-added e = rw e at (group-new class arms old numbers b d addable some o has lacks v grown g)
