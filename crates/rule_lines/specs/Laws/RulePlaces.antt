-- Where a line of a rule text may stand, and how many lines stand above it, by its kind.
use Rattle.std.specs.Prelude.{ℕ, ◌/◌, ◌%◌, ◌^◌, ◌≡◌, refl, Bool, true, false, cond, ◌&&◌, ◌||◌, length, eqb, leb, Option, None, Some}
use Rattle.std.specs.Option.{is_some}
use Rattle.std.proofs.Math.Path.{sym}
use Rattle.std.proofs.Math.Bool.{and-true}
use Rattle.std.proofs.lemmas.Bool.{false≢true}
use borrow.Author.Tests.{ne_eqb}
use Rattle.model.specs.Graph.{Pattern}
use Rattle.model.specs.InForm.{code_of as key_code}
use Rattle.forms.specs.Forms.{of_drawing, turn_of, rule_key}
use Rattle.forms.specs.declared.LineKind.{LineKind}
use Rattle.forms.specs.declared.LineKind.TheVariants.{Class, Name, May, Node, Edge, Op, Pnode, Pedge, Make, Arm, Put, Drop, Cut, Group}
use Rattle.text.specs.declared.lines.Line.{Line}
use Rattle.rule_lines.specs.RuleLines.{lines_above, in_action, placed}

-- what holds of each kind of line of a rule text holds of any
module _ (P : LineKind → Type 0) where
  pub at-rule-kind : P Op → P Pnode → P Pedge → P Make → P Arm → P Put → P Drop → P Cut → P Group → (kind : LineKind) → of_drawing kind ≡ false → P kind
  at-rule-kind op pnode pedge make arm put drop cut group Class h = absurd (false≢true (sym h))
  at-rule-kind op pnode pedge make arm put drop cut group Name h = absurd (false≢true (sym h))
  at-rule-kind op pnode pedge make arm put drop cut group May h = absurd (false≢true (sym h))
  at-rule-kind op pnode pedge make arm put drop cut group Node h = absurd (false≢true (sym h))
  at-rule-kind op pnode pedge make arm put drop cut group Edge h = absurd (false≢true (sym h))
  at-rule-kind op pnode pedge make arm put drop cut group Op h = op
  at-rule-kind op pnode pedge make arm put drop cut group Pnode h = pnode
  at-rule-kind op pnode pedge make arm put drop cut group Pedge h = pedge
  at-rule-kind op pnode pedge make arm put drop cut group Make h = make
  at-rule-kind op pnode pedge make arm put drop cut group Arm h = arm
  at-rule-kind op pnode pedge make arm put drop cut group Put h = put
  at-rule-kind op pnode pedge make arm put drop cut group Drop h = drop
  at-rule-kind op pnode pedge make arm put drop cut group Cut h = cut
  at-rule-kind op pnode pedge make arm put drop cut group Group h = group

-- what is asked of the place of a line that is not the first
abbrev placed_as : Option Line → (code : ℕ) → (row : ℕ) → LineKind → Bool
placed_as last code row kind =
    cond (eqb (turn_of kind) (turn_of Pnode)) (eqb (row / 2 ^ 32 % 2) 1 || eqb (row % 2 ^ 32) 0)
    (cond (eqb (turn_of kind) (turn_of Pedge)) true
    (cond (eqb (turn_of kind) (turn_of Arm)) (in_action last) (eqb code (key_code (rule_key kind)))))

acting-stands : (last : Option Line) → in_action last ≡ (is_some last && in_action last)
acting-stands None = refl
acting-stands (Some a) = refl

module _ (kind : LineKind) (h : of_drawing kind ≡ false) where
  pub lines-above-by-kind : (p : Pattern) (parts : ℕ) → lines_above p parts (rule_key kind)
      ≡ cond (eqb (turn_of kind) (turn_of Pnode)) (length p.nodes) (cond (eqb (turn_of kind) (turn_of Pedge)) (length p.edges) parts)
  unfolding lines_above
  lines-above-by-kind p parts =
      at-rule-kind
      (λ n. lines_above p parts (rule_key n)
      ≡ cond (eqb (turn_of n) (turn_of Pnode)) (length p.nodes) (cond (eqb (turn_of n) (turn_of Pedge)) (length p.edges) parts))
      refl refl refl refl refl refl refl refl refl kind h

  pub placed-by-kind : (last : Option Line) (code row : ℕ)
      → placed last code (rule_key kind) row ≡ cond (eqb (turn_of kind) (turn_of Op)) true (is_some last && placed_as last code row kind)
  unfolding placed
  placed-by-kind last code row =
      at-rule-kind
      (λ n. placed last code (rule_key n) row ≡ cond (eqb (turn_of n) (turn_of Op)) true (is_some last && placed_as last code row n))
      refl refl (sym (and-true (is_some last))) refl (acting-stands last) refl refl refl refl kind h

module _ (last : Option Line) (code : ℕ) (l : Line) (h : of_drawing l.kind ≡ false) where
  pub placed-op : l.kind ≡ Op → true ≡ placed last code (rule_key l.kind) l.row
  unfolding placed
  placed-op e = rw e

  -- any other line stands under one
  pub placed_first : (l.kind ≡ Op → ⊥) → last ≡ None → false ≡ placed last code (rule_key l.kind) l.row
  unfolding placed
  placed_first op e =
      at-rule-kind (λ n. (n ≡ Op → ⊥) → last ≡ None → false ≡ placed last code (rule_key n) l.row)
      (λ d e. absurd (d refl)) (λ d e. rw e) (λ d e. rw e) (λ d e. rw e) (λ d e. rw e) (λ d e. rw e) (λ d e. rw e) (λ d e. rw e) (λ d e. rw e)
      l.kind h op e

  module _ (a : Line) (more : last ≡ Some a) where
    module _ (pnode : l.kind ≡ Pnode) where
      pub placed-given : l.row / 2 ^ 32 % 2 ≡ 1 → true ≡ placed last code (rule_key l.kind) l.row
      unfolding placed
      placed-given e = rw (pnode, more, e)

      pub placed-without-value : (l.row / 2 ^ 32 % 2 ≡ 1 → ⊥) → eqb (l.row % 2 ^ 32) 0 ≡ placed last code (rule_key l.kind) l.row
      unfolding placed
      placed-without-value d = rw (pnode, more, ne_eqb (l.row / 2 ^ 32 % 2) 1 d)

    pub placed-pedge : l.kind ≡ Pedge → true ≡ placed last code (rule_key l.kind) l.row
    unfolding placed
    placed-pedge e = rw (e, more)

    pub placed-arm : l.kind ≡ Arm → leb (turn_of Make) (turn_of a.kind) ≡ placed last code (rule_key l.kind) l.row
    unfolding placed
    placed-arm e = rw (e, more)
