-- Reports, as the code makes them, of a refusal and of a new instance. Assumes nothing.
use Rattle.std.specs.Prelude.{ℕ, ◌-◌, ◌≡◌, refl, Result, Ok, Err}
use Rattle.std.specs.Bool.{⊤}
use Rattle.model.specs.declared.Counts.{Counts}
use Rattle.model.specs.declared.Refusal.{Refusal}
use Rattle.graph.specs.declared.instance.PackedInstance.{PackedInstance}
use Rattle.reports.specs.Reported.{counts_of, Roomy, Reports}

pub counts-made : (old new : PackedInstance) (m a b c d : ℕ) → a ≡ new.order - old.order → b ≡ new.size - old.size → c ≡ old.order - new.order
    → d ≡ old.size - new.size
    → record { matchings = m; added = record { nodes = a; edges = b }; removed = record { nodes = c; edges = d } } ≡ counts_of old m new
counts-made old new m a b c d e f g h = rw (e, f, g, h) refl

module _ (old : PackedInstance) (m : ℕ) (changed : Result ⊤ Refusal) (new : PackedInstance) (old_room : Roomy old) (new_room : Roomy new) where
  pub report-refused : (x : Refusal) → changed ≡ Err x → Reports old m changed new (Err x)
  report-refused x e = record { report = rw e refl; old-room = old_room; new-room = new_room }

  pub report-done : (c : Counts) → changed ≡ Ok tt → c ≡ counts_of old m new → Reports old m changed new (Ok (record { counts = c; instance = new }))
  report-done c e f = record { report = rw (e, f) refl; old-room = old_room; new-room = new_room }
