-- A line of a rule text by its kind: its numbers are within the limits of its form, and its checks are those of its kind.
use Rattle.std.specs.Prelude.{ℕ, ◌/◌, ◌^◌, ◌<◌, ◌≡◌, List, [], Option, None, Some, Result, Ok}
use Rattle.std.specs.Bool.{⊤}
use native.Mathlib.Omega.{arith}
use Rattle.std.proofs.Math.Path.{refl}
use Rattle.std.proofs.Common.{ap, ◌∙◌}
use Rattle.std.proofs.Math.Bool.{true}
use Rattle.model.specs.Limits
use Rattle.model.specs.Graph.{Scheme, Pattern}
use Rattle.model.specs.Files.{checks}
use Rattle.forms.specs.Forms.{kind_of, rule_key}
use Rattle.forms.specs.declared.LineKind.TheVariants.{Pnode, Pedge, Make, Arm, Put, Drop, Cut, Group}
use Rattle.text.specs.declared.lines.Line.{Line}
use Rattle.graph.specs.Packed.{unpack_pattern_node, scheme_of, pattern_of}
use Rattle.graph.specs.declared.declarations.Declarations.{Declarations}
use Rattle.verdicts.specs.Verdicts.{judged}
use Rattle.verdicts.proofs.Laws.Tests.{judged-passes}
use Rattle.model.specs.declared.Refusal.{Refusal}
use Rattle.pattern_lines.specs.PatternLines.{pnode_checks}
use Rattle.rule_lines.specs.RuleLines.{line_checks, RowFits}
use Rattle.rule_lines.specs.Laws.RuleKinds.{only-op}

-- a pattern node's line asks nothing of names, permitted triples and edges
pnode-apart : (classes names : Declarations) (permitted nodes edges : List ℕ) (i class : ℕ) (value : Option ℕ)
    → pnode_checks (scheme_of classes classes []) (pattern_of nodes []) record { number = i; class = class; value = value }
    ≡ pnode_checks (scheme_of classes names permitted) (pattern_of nodes edges) record { number = i; class = class; value = value }
unfolding pnode_checks
pnode-apart classes names permitted nodes edges i class None = refl
pnode-apart classes names permitted nodes edges i class (Some v) = refl

pub pnode-row : (line head : ℕ) (l : Line) (classes names : Declarations) (permitted nodes edges : List ℕ) (v : Result ⊤ Refusal) → l.kind ≡ Pnode
    → v ≡ judged line (pnode_checks (scheme_of classes classes []) (pattern_of nodes []) (unpack_pattern_node 0 l.row))
    → v ≡ judged line (line_checks (scheme_of classes names permitted) (pattern_of nodes edges) head (rule_key l.kind) l.row)
unfolding line_checks
pnode-row line head l classes names permitted nodes edges v e made =
    let n = unpack_pattern_node 0 l.row in rw e (made ∙ ap (judged line) (pnode-apart classes names permitted nodes edges 0 n.class n.value))

module _ (head : ℕ) (l : Line) (fits : RowFits head l) where
  pub make-row : l.kind ≡ Make → l.row < Limits.classes
  unfolding kind_of
  make-row e = rw e at fits.tabled.row

  pub arm-head : l.kind ≡ Arm → head < Limits.classes
  arm-head e = fits.under (rw e refl)

  pub arm-name : l.kind ≡ Arm → l.row / 2 ^ 16 < Limits.names
  unfolding kind_of
  arm-name e = let room : l.row < 2 ^ 22 = rw e at fits.tabled.row in omega arith

  -- an op line has nothing to be looked at
  pub op_row : (line : ℕ) (s : Scheme) (p : Pattern)
      → (l.kind ≡ Pnode → ⊥) → (l.kind ≡ Pedge → ⊥) → (l.kind ≡ Make → ⊥) → (l.kind ≡ Arm → ⊥) → (l.kind ≡ Put → ⊥) → (l.kind ≡ Drop → ⊥)
      → (l.kind ≡ Cut → ⊥) → (l.kind ≡ Group → ⊥) → Ok tt ≡ judged line (line_checks s p head (rule_key l.kind) l.row)
  unfolding line_checks
  op_row line s p pnode pedge make arm put drop cut group =
      let op = only-op l.kind fits.kind pnode pedge make arm put drop cut group in
      rw op (judged-passes line (checks true true true true) refl refl refl)
