-- The table row by row: which form a kind has, the kind that is left when thirteen are not it, and how many lines of a kind may stand.
use Rattle.std.specs.Prelude.{ℕ, ◌<◌, ◌≤◌, ◌≡◌, refl, false, Some, None}
use Rattle.std.proofs.Common.{arith, ◌∙◌}
use Rattle.std.proofs.Math.Path.{ap, sym}
use Rattle.std.proofs.Math.Dec.{leb}
use Rattle.model.specs.Files.{full}
use Rattle.forms.specs.Forms.{turn_of, kind_of, packed_form}
use Rattle.forms.specs.declared.Form.{Form as PackedForm}
use Rattle.forms.specs.declared.LineKind.{LineKind}
use Rattle.forms.specs.declared.LineKind.TheVariants.{Class, Name, May, Node, Edge, Op, Pnode, Pedge, Make, Arm, Put, Drop, Cut, Group}

pub form-known : (k kind : LineKind) → kind ≡ k → packed_form (kind_of k) ≡ packed_form (kind_of kind)
form-known k kind e = ap (λ n. packed_form (kind_of n)) (sym e)

-- a kind that is none of the first n
abbrev pub NoneBelow : ℕ → LineKind → Type 0
NoneBelow n kind = (k : LineKind) → turn_of k < n → kind ≡ k → ⊥

none_below : (n : ℕ) (kind : LineKind) → NoneBelow n kind → n ≤ turn_of kind
none_below n kind h = let none : turn_of kind < n → ⊥ = λ l. h kind l refl in omega (arith, none)

pub last-kind : (kind : LineKind) → NoneBelow 13 kind → kind ≡ Group
last-kind Class h = absurd (h Class (omega arith) refl)
last-kind Name h = absurd (h Name (omega arith) refl)
last-kind May h = absurd (h May (omega arith) refl)
last-kind Node h = absurd (h Node (omega arith) refl)
last-kind Edge h = absurd (h Edge (omega arith) refl)
last-kind Op h = absurd (h Op (omega arith) refl)
last-kind Pnode h = absurd (h Pnode (omega arith) refl)
last-kind Pedge h = absurd (h Pedge (omega arith) refl)
last-kind Make h = absurd (h Make (omega arith) refl)
last-kind Arm h = absurd (h Arm (omega arith) refl)
last-kind Put h = absurd (h Put (omega arith) refl)
last-kind Drop h = absurd (h Drop (omega arith) refl)
last-kind Cut h = absurd (h Cut (omega arith) refl)
last-kind Group h = refl

module _ (kind : LineKind) (above : ℕ) (f : PackedForm) (made : f ≡ packed_form (kind_of kind)) where
  most-made : f.most ≡ (kind_of kind).form.most
  unfolding packed_form
  most-made = ap (λ g. g.most) made

  pub crowded-unlimited : f.most ≡ None → false ≡ full (kind_of kind).form.most above
  crowded-unlimited e = ap (λ o. full o above) (sym e ∙ most-made)

  pub crowded-limited : {most : ℕ} → f.most ≡ Some most → leb most above ≡ full (kind_of kind).form.most above
  crowded-limited e = ap (λ o. full o above) (sym e ∙ most-made)
