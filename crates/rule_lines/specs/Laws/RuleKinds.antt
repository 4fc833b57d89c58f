-- What the definitions by a key of a rule text say where the code's tests name no kind.
use Rattle.std.specs.Prelude.{ℕ, ◌≡◌, refl, false, ◌&&◌, eqb, Option}
use Rattle.std.specs.Option.{is_some}
use Rattle.std.proofs.Math.Path.{sym}
use Rattle.std.proofs.lemmas.Bool.{false≢true}
use Rattle.model.specs.Graph.{Pattern}
use Rattle.model.specs.InForm.{code_of as key_code}
use Rattle.forms.specs.Forms.{of_drawing, rule_key}
use Rattle.forms.specs.declared.LineKind.{LineKind}
use Rattle.forms.specs.declared.LineKind.TheVariants.{Op, Pnode, Pedge, Make, Arm, Put, Drop, Cut, Group}
use Rattle.text.specs.declared.lines.Line.{Line}
use Rattle.rule_lines.specs.RuleLines.{lines_above, placed}

-- an action line but arm stands under its own code
pub placed-action : (last : Option Line) (code row : ℕ) (kind : LineKind) → of_drawing kind ≡ false
    → (kind ≡ Op → ⊥) → (kind ≡ Pnode → ⊥) → (kind ≡ Pedge → ⊥) → (kind ≡ Arm → ⊥)
    → placed last code (rule_key kind) row ≡ (is_some last && eqb code (key_code (rule_key kind)))
unfolding placed
placed-action last code row Op h op pnode pedge arm = absurd (op refl)
placed-action last code row Pnode h op pnode pedge arm = absurd (pnode refl)
placed-action last code row Pedge h op pnode pedge arm = absurd (pedge refl)
placed-action last code row Make h op pnode pedge arm = refl
placed-action last code row Arm h op pnode pedge arm = absurd (arm refl)
placed-action last code row Put h op pnode pedge arm = refl
placed-action last code row Drop h op pnode pedge arm = refl
placed-action last code row Cut h op pnode pedge arm = refl
placed-action last code row Group h op pnode pedge arm = refl
placed-action last code row _ h op pnode pedge arm = absurd (false≢true (sym h))

-- of an action that has several lines, so many parts stand
pub parts-above-kind : (p : Pattern) (parts : ℕ) (kind : LineKind) → (kind ≡ Pnode → ⊥) → (kind ≡ Pedge → ⊥) → lines_above p parts (rule_key kind) ≡ parts
unfolding lines_above
parts-above-kind p parts Pnode pnode pedge = absurd (pnode refl)
parts-above-kind p parts Pedge pnode pedge = absurd (pedge refl)
parts-above-kind p parts Make pnode pedge = refl
parts-above-kind p parts Arm pnode pedge = refl
parts-above-kind p parts Put pnode pedge = refl
parts-above-kind p parts Drop pnode pedge = refl
parts-above-kind p parts Cut pnode pedge = refl
parts-above-kind p parts Group pnode pedge = refl
parts-above-kind p parts _ pnode pedge = refl

-- a rule text's line that is none of the other kinds is an op line
pub only-op : (kind : LineKind) → of_drawing kind ≡ false → (kind ≡ Pnode → ⊥) → (kind ≡ Pedge → ⊥) → (kind ≡ Make → ⊥) → (kind ≡ Arm → ⊥)
    → (kind ≡ Put → ⊥) → (kind ≡ Drop → ⊥) → (kind ≡ Cut → ⊥) → (kind ≡ Group → ⊥) → kind ≡ Op
only-op Op h pnode pedge make arm put drop cut group = refl
only-op Pnode h pnode pedge make arm put drop cut group = absurd (pnode refl)
only-op Pedge h pnode pedge make arm put drop cut group = absurd (pedge refl)
only-op Make h pnode pedge make arm put drop cut group = absurd (make refl)
only-op Arm h pnode pedge make arm put drop cut group = absurd (arm refl)
only-op Put h pnode pedge make arm put drop cut group = absurd (put refl)
only-op Drop h pnode pedge make arm put drop cut group = absurd (drop refl)
only-op Cut h pnode pedge make arm put drop cut group = absurd (cut refl)
only-op Group h pnode pedge make arm put drop cut group = absurd (group refl)
only-op _ h pnode pedge make arm put drop cut group = absurd (false≢true (sym h))
