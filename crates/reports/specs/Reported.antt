-- What is reported of an applied rule, as code counts it.
use Rattle.std.specs.Prelude.{ℕ, ◌-◌, ◌≡◌, length, Result, Ok, Err}
use Rattle.std.specs.Bool.{⊤}
use Rattle.model.specs.Limits
use Rattle.model.specs.declared.Counts.{Counts}
use Rattle.model.specs.declared.Refusal.{Refusal}
use Rattle.graph.specs.declared.instance.PackedInstance.{PackedInstance}
use Rattle.reports.specs.declared.Applied.{Applied}

-- of two instances of which one has all that the other has, how many more either has
abbrev pub counts_of : (old : PackedInstance) → (matchings : ℕ) → (new : PackedInstance) → Counts
counts_of old matchings new = record {
  matchings = matchings;
  added = record { nodes = new.order - old.order; edges = new.size - old.size };
  removed = record { nodes = old.order - new.order; edges = old.size - new.size };
}

-- what is reported of an instance that was to be changed in place: a refusal is passed on, and leaves no new instance
abbrev pub report_of : (old : PackedInstance) → (matchings : ℕ) → (changed : Result ⊤ Refusal) → (new : PackedInstance) → Result Applied Refusal
report_of old matchings (Ok _) new = Ok (record { counts = counts_of old matchings new; instance = new })
report_of old matchings (Err r) new = Err r

-- an instance's arrays have their full length, whatever stands in them
pub record Roomy (d : PackedInstance) : Type 0 where
  pub nodes : length d.nodes ≡ Limits.nodes
  pub edges : length d.edges ≡ Limits.edges

pub record Reports (old : PackedInstance) (matchings : ℕ) (changed : Result ⊤ Refusal) (new : PackedInstance) (answer : Result Applied Refusal)
    : Type 0 where
  pub report : answer ≡ report_of old matchings changed new
  pub old-room : Roomy old
  pub new-room : Roomy new
