-- Before the first arm is written and before the first node is added; and that what has been added fits the numbers of code.
use Rattle.std.specs.Prelude.{ℕ, ◌^◌, ◌<◌, ◌≡◌, refl, List, [], length, drop, Result, Ok}
use Rattle.std.specs.Bool.{⊤}
use native.Mathlib.Omega.{arith}
use Rattle.std.proofs.Common.{le_refl, append-nil}
use Rattle.std.proofs.Math.ListN.{drop_of_length-le}
use Rattle.std.proofs.Math.Seq.{take-length}
use Rattle.model.specs.declared.Refusal.{Refusal}
use Rattle.graph.specs.declared.instance.PackedInstance.{PackedInstance}
use Rattle.growth.specs.Growth.{Addable, Grows}
use Rattle.node_addition.specs.Added.{arms_to}
use Rattle.node_addition.specs.Laws.Adding.{ArmsLeft, Adding}

pub arms-left-all : (arms : List ℕ) (key : ℕ) (to : List ℕ) → length to ≡ length arms → ArmsLeft arms key (length arms) key to
arms-left-all arms key to e =
    let none : drop (length arms) to ≡ [] = drop_of_length-le to (omega arith) in
    record { reached = le_refl (length arms); as_long = e; leaves = rw (none, take-length) (append-nil (arms_to arms key)) }

pub adding-none : (class : ℕ) (arms keys : List ℕ) (d : PackedInstance) → Addable d → Adding class arms keys d 0 d
adding-none class arms keys d addable = record { addable = addable; left = refl }

module _ {class : ℕ} {to : List ℕ} {v : Result ⊤ Refusal} {d next : PackedInstance} (g : Grows d class to v next) where
  pub order-fits : v ≡ Ok tt → next.order < 2 ^ 64
  order-fits e = omega (arith, g.addable.few_nodes)

  pub size_fits_lem : v ≡ Ok tt → next.size < 2 ^ 64
  size_fits_lem e = omega (arith, g.addable.few_edges)
