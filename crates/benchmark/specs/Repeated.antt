-- What stands after some of the walks or applications are over, up to the last; what the readers answered; and what is replied.
use Rattle.std.specs.Prelude.{ℕ, ◌+◌, ◌<◌, ◌≤◌, ◌≡◌, refl, List, length, Result, Ok, Err}
use Rattle.std.proofs.Common.{arith, add-one, ap₂, ◌∙◌, sym, subst}
use Rattle.std.proofs.Math.Path.{ap}
use Rattle.model.specs.Answers.{outcome}
use Rattle.model.specs.Graph.{Scheme, Instance, Pattern}
use Rattle.model.specs.Matching.{matchings}
use Rattle.model.specs.Files.DrawingFile.{read_drawing}
use Rattle.model.specs.Files.RuleText.{read_rule}
use Rattle.model.specs.Refusals.{refused, table_row}
use Rattle.model.specs.declared.Counts.{Counts}
use Rattle.model.specs.declared.Refusal.{Refusal}
use Rattle.graph.specs.Packed.{unpack_scheme, unpack_instance, unpack_rule}
use Rattle.graph.specs.declared.instance.PackedInstance.{PackedInstance}
use Rattle.graph.specs.declared.rule.PackedRule.{PackedRule}
use Rattle.graph.specs.declared.scheme.PackedScheme.{PackedScheme}
use Rattle.reading.specs.Readers.{ReadDrawing, contents}
use Rattle.reading.specs.declared.whole.Whole.{Whole}
use Rattle.rules.specs.Readers.{ReadRule}
use Rattle.operations.specs.Applies.{Applies}
use Rattle.reports.specs.declared.Applied.{Applied}
use Rattle.benchmark.specs.Counted.{times_over, counted}
use Rattle.benchmark.specs.declared.Counted.{Counted}
use Rattle.benchmark.specs.Applications.{no_counts, replied, told, AppliesOver}
use Rattle.benchmark.specs.ApplicationLaws.{applied-none, applied-next}
use Rattle.benchmark.specs.declared.applying.AppliedOver.{AppliedOver}
use Rattle.benchmark.specs.declared.applying.Reply.{Reply}

-- # Walks
pub record Walked (times : ℕ) (p : Pattern) (d : Instance) (count i : ℕ) : Type 0 where
  pub within : i ≤ times
  pub counts : count ≡ times_over i p d

module _ {times : ℕ} {p : Pattern} {d : Instance} where
  pub walked_none : Walked times p d 0 0
  walked_none = record { within = omega arith; counts = refl }

  pub walked-on : {count i : ℕ} → i < times → count ≡ length (matchings p d) → Walked times p d count (i + 1)
  walked-on {i = i} h e = record { within = omega arith; counts = rw add-one e }

  pub walked_all : {count i : ℕ} → Walked times p d count i → times ≤ i → count ≡ times_over times p d
  walked_all {i = i} walked over =
      let all : i ≡ times = omega (arith, walked.within) in
      walked.counts ∙ ap (λ n. times_over n p d) all

-- # Applications
pub record Repeated (times : ℕ) (s : PackedScheme) (d : PackedInstance) (r : PackedRule) (a : AppliedOver) (i : ℕ) : Type 0 where
  pub within : i ≤ times
  pub applies : AppliesOver i (unpack_scheme s) (unpack_rule r) (unpack_instance d) a

module _ {times : ℕ} {s : PackedScheme} {d : PackedInstance} {r : PackedRule} where
  pub repeated-none : Repeated times s d r (told d (Ok (record { counts = no_counts; instance = d }))) 0
  repeated-none = record { within = omega arith; applies = applied-none s d r }

  pub repeated-next : {a : Result Applied Refusal} → Applies s d r a → {i : ℕ} → i < times → Repeated times s d r (told d a) (i + 1)
  repeated-next {a} applies {i} h = record { within = omega arith; applies = applied-next s d r i a applies }

  pub repeated-all : {a : AppliedOver} {i : ℕ} → Repeated times s d r a i → times ≤ i
      → AppliesOver times (unpack_scheme s) (unpack_rule r) (unpack_instance d) a
  repeated-all {a} {i} repeated over =
      let all : i ≡ times = omega (arith, repeated.within) in
      subst (λ n. AppliesOver n (unpack_scheme s) (unpack_rule r) (unpack_instance d) a) all repeated.applies

-- # Files
pub opens : (file : List ℕ) {d : Result Whole Refusal} → ReadDrawing file d → {answer : Result Whole Refusal} → d ≡ answer
    → read_drawing file ≡ outcome contents answer
opens file read e = sym read ∙ ap (outcome contents) e

pub reads : {s : Scheme} {rule : List ℕ} {t : Result PackedRule Refusal} → ReadRule s rule t → {answer : Result PackedRule Refusal} → t ≡ answer
    → read_rule s rule ≡ outcome unpack_rule answer
reads read e = sym read.answer ∙ ap (outcome unpack_rule) e

-- # Replies
abbrev answered : (refusal returned matchings : ℕ) → Counted
answered refusal returned matchings = record { refusal = refusal; returned = returned; matchings = matchings }

pub refusal-counted : (r : Refusal) {n m : ℕ} → n ≡ (table_row r).number → m ≡ (table_row r).returned → answered n m 0 ≡ counted (refused r)
refusal-counted r e h = ap₂ (λ n m. answered n m 0) e h

abbrev reply : (refusal returned : ℕ) → Counts → Reply
reply refusal returned counts = record { refusal = refusal; returned = returned; counts = counts }

pub refusal-replied : (r : Refusal) {n m : ℕ} {c : Counts} → n ≡ (table_row r).number → m ≡ (table_row r).returned → c ≡ no_counts
    → reply n m c ≡ replied (refused r)
refusal-replied r {c = c} e h none = ap₂ (λ n m. reply n m c) e h ∙ ap (reply (table_row r).number (table_row r).returned) none

module _ {answer : Result Applied Refusal} where
  pub refused-replied : {r : Refusal} → answer ≡ Err r → {a : Reply} → a ≡ replied (refused r) → a ≡ replied (outcome (λ n. n.counts) answer)
  refused-replied e h = h ∙ ap (λ x. replied (outcome (λ n. n.counts) x)) (sym e)

  pub applied-replied : {n : Applied} → answer ≡ Ok n → reply 0 0 n.counts ≡ replied (outcome (λ n. n.counts) answer)
  applied-replied e = ap (λ x. replied (outcome (λ n. n.counts) x)) (sym e)
