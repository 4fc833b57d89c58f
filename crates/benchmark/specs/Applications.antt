-- What the last of some applications of a rule to the drawing of a file reports, or the refusal of the file, of the rule text or of the application;
-- and the drawing after it.
use Rattle.std.specs.Prelude.{ℕ, zero, suc, ◌≡◌, List, [], Result, Ok, Err}
use Rattle.model.specs.Graph.{Scheme, Instance}
use Rattle.model.specs.Operations.{Rule, applied, counts}
use Rattle.model.specs.Refusals.{Outcome, accepted, refused, ◌>>=◌, table_row}
use Rattle.model.specs.Files.DrawingFile.{Contents, read_drawing}
use Rattle.model.specs.Files.RuleText.{read_rule}
use Rattle.model.specs.declared.Counts.{Counts}
use Rattle.model.specs.declared.Difference.{Difference}
use Rattle.model.specs.declared.Refusal.{Refusal}
use Rattle.graph.specs.Packed.{unpack_instance}
use Rattle.graph.specs.declared.instance.PackedInstance.{PackedInstance}
use Rattle.operations.specs.Applies.{afterwards}
use Rattle.reports.specs.declared.Applied.{Applied}
use Rattle.benchmark.specs.declared.applying.AppliedOver.{AppliedOver}
use Rattle.benchmark.specs.declared.applying.Reply.{Reply}

abbrev nothing : Difference
nothing = record { nodes = 0; edges = 0 }

abbrev pub no_counts : Counts
no_counts = record { matchings = 0; added = nothing; removed = nothing }

-- of no application at all, no counts
abbrev pub counts_over : (times : ℕ) → Scheme → Rule → Instance → Outcome Counts
counts_over zero s r d = accepted no_counts
counts_over (suc _) s r d = do
  new ← applied s r d
  accepted (counts r.pattern d new)

abbrev pub counts_of_files : (times : ℕ) → (file rule : List ℕ) → Outcome Counts
counts_of_files times file rule = do
  f ← read_drawing file
  r ← read_rule f.scheme rule
  counts_over times f.scheme r f.instance

abbrev pub replied : Outcome Counts → Reply
replied (accepted c) = record { refusal = 0; returned = 0; counts = c }
replied (refused r) = record { refusal = (table_row r).number; returned = (table_row r).returned; counts = no_counts }

-- the reply to an application, and the instance after it
abbrev pub told : PackedInstance → Result Applied Refusal → AppliedOver
told before (Ok a) = record { reply = replied (accepted a.counts); instance = a.instance }
told before (Err r) = record { reply = replied (refused r); instance = before }

-- the drawing after the last application, which is the drawing of the file if there is none; of a refused file, an empty one
abbrev pub instance_over : (times : ℕ) → Scheme → Rule → Instance → Instance
instance_over zero s r d = d
instance_over (suc _) s r d = afterwards d (applied s r d)

abbrev after_rule : (times : ℕ) → Contents → Outcome Rule → Instance
after_rule times f (accepted r) = instance_over times f.scheme r f.instance
after_rule times f (refused _) = f.instance

abbrev after_file : (times : ℕ) → (rule : List ℕ) → Outcome Contents → Instance
after_file times rule (accepted f) = after_rule times f (read_rule f.scheme rule)
after_file times rule (refused _) = record { nodes = []; edges = [] }

abbrev pub instance_of_files : (times : ℕ) → (file rule : List ℕ) → Instance
instance_of_files times file rule = after_file times rule (read_drawing file)

pub record AppliesOver (times : ℕ) (s : Scheme) (r : Rule) (d : Instance) (a : AppliedOver) : Type 0 where
  pub reply : a.reply ≡ replied (counts_over times s r d)
  pub instance : unpack_instance a.instance ≡ instance_over times s r d

pub record AppliesFiles (times : ℕ) (file rule : List ℕ) (a : AppliedOver) : Type 0 where
  pub reply : a.reply ≡ replied (counts_of_files times file rule)
  pub instance : unpack_instance a.instance ≡ instance_of_files times file rule
