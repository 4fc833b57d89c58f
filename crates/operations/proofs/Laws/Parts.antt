-- The keys that are stored as they rise are those that were noted, in order.
use Rattle.std.specs.Prelude.{ℕ, ◌≡◌, take}
use Rattle.std.proofs.Common.{ap, ◌∙◌}
use Rattle.notes.specs.Notes.{sorted}
use Rattle.notes.specs.Kept.{noted, Kept}
use Rattle.notes.specs.declared.Notes.TheInside.{Inside}

pub rising_part_lem : (notes : Inside) → Kept notes → (end : ℕ) → end ≡ notes.count → take end notes.rising ≡ sorted (noted notes)
rising_part_lem notes kept end all = ap (λ n. take n notes.rising) all ∙ kept.order
