-- The room for what a line of a rule text adds, by its kind.
use Rattle.std.specs.Prelude.{ℕ, ◌<◌, ◌≡◌, refl, ◌⊎◌, false}
use Rattle.std.proofs.Common.{sym, ⊎_elim}
use Rattle.std.proofs.lemmas.Bool.{false≢true}
use Rattle.model.specs.Limits
use Rattle.model.specs.Files.RuleText.{make=, arm=}
use Rattle.forms.specs.Forms.{of_drawing, rule_key}
use Rattle.forms.specs.declared.LineKind.{LineKind}
use Rattle.forms.specs.declared.LineKind.TheVariants.{Op, Pnode, Pedge, Make, Arm, Put, Drop, Cut, Group}
use Rattle.text.specs.declared.lines.Line.{Line}
use Rattle.graph.specs.declared.rule.PackedRule.{PackedRule}
use Rattle.rules.specs.Rules.{Room, Parts, with}

-- an action line of which there may be several
abbrev pub IsPart : LineKind → Type 0
IsPart kind = (kind ≡ Arm) ⊎ ((kind ≡ Put) ⊎ (kind ≡ Cut))

module _ (r : PackedRule) (l : Line) (q : Room r l) where
  pub room-for-code : l.kind ≡ Op → l.row < 6
  room-for-code e = rw e at q.room

  pub room-for-node : l.kind ≡ Pnode → r.pattern.order < Limits.pattern_nodes
  room-for-node e = rw e at q.room

  pub room-for-edge : l.kind ≡ Pedge → r.pattern.size < Limits.pattern_edges
  room-for-edge e = rw e at q.room

  pub room-for-part : IsPart l.kind → r.action.count < Limits.puts
  room-for-part = ⊎_elim (λ e. rw e at q.room) (⊎_elim (λ e. rw e at q.room) (λ e. rw e at q.room))

pub part-added : (t : Parts) (row : ℕ) (kind : LineKind) → IsPart kind → with t (rule_key kind) row ≡ with t arm= row
unfolding with
part-added t row kind = ⊎_elim (λ e. rw e) (⊎_elim (λ e. rw e) (λ e. rw e))

-- a line of another kind stands once, and adds a head
pub head-added : (t : Parts) (row : ℕ) (kind : LineKind) → of_drawing kind ≡ false → (kind ≡ Op → ⊥) → (kind ≡ Pnode → ⊥) → (kind ≡ Pedge → ⊥)
    → (kind ≡ Arm → ⊥) → (kind ≡ Put → ⊥) → (kind ≡ Cut → ⊥) → with t (rule_key kind) row ≡ with t make= row
unfolding with
head-added t row Op h op pnode pedge arm put cut = absurd (op refl)
head-added t row Pnode h op pnode pedge arm put cut = absurd (pnode refl)
head-added t row Pedge h op pnode pedge arm put cut = absurd (pedge refl)
head-added t row Make h op pnode pedge arm put cut = refl
head-added t row Arm h op pnode pedge arm put cut = absurd (arm refl)
head-added t row Put h op pnode pedge arm put cut = absurd (put refl)
head-added t row Drop h op pnode pedge arm put cut = refl
head-added t row Cut h op pnode pedge arm put cut = absurd (cut refl)
head-added t row Group h op pnode pedge arm put cut = refl
head-added t row _ h op pnode pedge arm put cut = absurd (false≢true (sym h))
