-- What is found of a line of a drawing file, as code finds it: out of order, one too many, or as its own checks say. What stands in the
-- arrays has the lengths that are counted, and a line in form has numbers within its limits.
use Rattle.std.specs.Prelude.{ℕ, ◌+◌, ◌/◌, ◌%◌, ◌^◌, ◌<◌, ◌≡◌, Bool, true, false, not, length, take, Result, Ok, Err}
use Rattle.std.specs.Bool.{⊤}
use Rattle.std.proofs.Common.{arith, ap, ◌∙◌, length-take-le}
use Rattle.std.proofs.Math.Numerals.{add-one}
use Rattle.std.proofs.Math.Path.{refl, sym}
use Rattle.std.proofs.lemmas.List.{length-map}
use Rattle.lists.specs.Radix.{within, unrank}
use Rattle.lists.proofs.Laws.Lists.{both, less}
use Rattle.model.specs.Graph.{Scheme, Instance}
use Rattle.model.specs.Files.{checks, full}
use Rattle.model.specs.Files.DrawingFile.{DrawingKey, class=, name=, drawing_form, drawing_format}
use Rattle.model.specs.InForm.{LineInForm}
use Rattle.model.specs.declared.Refusal.{Refusal}
use Rattle.model.specs.declared.Refusal.TheVariants.{Malformed, TooMany}
use Rattle.forms.specs.Forms.{of_drawing, kind_of, drawing_key}
use Rattle.forms.specs.declared.LineKind.{LineKind}
use Rattle.forms.specs.declared.LineKind.TheVariants.{Name, May, Node, Edge}
use Rattle.text.specs.Lines.{drawing_line, follows_last}
use Rattle.forms.specs.Laws.Kinds.{drawing-kind, drawing-form}
use Rattle.text.specs.declared.lines.Line.{Line}
use Rattle.text.specs.declared.lines.Last.{Last}
use Rattle.graph.specs.Packed.{unpack_triple, unpack_node, unpack_scheme, unpack_instance}
use Rattle.verdicts.specs.Verdicts.{judged}
use Rattle.verdicts.proofs.Laws.Tests.{judged-passes, failed, passed, verdict-malformed, verdict-crowded, verdict-judged}
use Rattle.standing.specs.Held.{Fits}
use Rattle.drawing_lines.specs.DrawingLines.{line_checks, lines_above, drawing_verdict}
use Rattle.standing.specs.declared.Drawing.{Drawing}

-- # A line's numbers
module _ (l : Line) (kind : of_drawing l.kind ≡ true) (in-form : LineInForm drawing_format (drawing_line l)) where
  limited : within (drawing_form (drawing_key l.kind)).below (unrank (kind_of l.kind).rooms l.row) ≡ true
  unfolding drawing_format
  limited = in-form.limited

  pub may-classes : l.kind ≡ May → (l.row / 2 ^ 22 < 2 ^ 6) × (l.row % 2 ^ 16 < 2 ^ 6)
  may-classes e =
      let r = simp (both, less) at (rw (drawing-kind l.kind kind, e) at limited) in
      (omega arith, omega arith)

  pub edge-source : l.kind ≡ Edge → l.row / 2 ^ 22 < 2 ^ 16
  edge-source e =
      let r = simp (both, less) at (rw (drawing-kind l.kind kind, e) at limited) in
      omega arith

-- # Class and name lines
-- what holds of both holds of each line that is no may, node or edge line
declaring : (P : DrawingKey → Type 0) → P class= → P name= → (kind : LineKind) → (kind ≡ May → ⊥) → (kind ≡ Node → ⊥) → (kind ≡ Edge → ⊥)
    → P (drawing_key kind)
declaring P class name Name may node edge = name
declaring P class name May may node edge = absurd (may refl)
declaring P class name Node may node edge = absurd (node refl)
declaring P class name Edge may node edge = absurd (edge refl)
declaring P class name _ may node edge = class

-- they have nothing to be looked at
pub declaring-row : (line : ℕ) (s : Scheme) (d : Instance) (l : Line) → (l.kind ≡ May → ⊥) → (l.kind ≡ Node → ⊥) → (l.kind ≡ Edge → ⊥)
    → Ok tt ≡ judged line (line_checks s d (drawing_key l.kind) l.row)
unfolding line_checks
declaring-row line s d l =
    let passes = judged-passes line (checks true true true true) refl refl refl in
    declaring (λ k. Ok tt ≡ judged line (line_checks s d k l.row)) passes passes l.kind

-- # How many lines stand above
module _ (d : Drawing) (fits : Fits d) where
  pub triples-stand : d.scheme.permissions ≡ length (take d.scheme.permissions d.scheme.permitted)
  triples-stand = sym (length-take-le d.scheme.permissions d.scheme.permitted (omega (arith, fits.permitted_room, fits.permissions)))

  pub nodes-stand : d.instance.order ≡ length (take d.instance.order d.instance.nodes)
  nodes-stand = sym (length-take-le d.instance.order d.instance.nodes (omega (arith, fits.nodes_room, fits.order)))

  pub edges-stand : d.instance.size ≡ length (take d.instance.size d.instance.edges)
  edges-stand = sym (length-take-le d.instance.size d.instance.edges (omega (arith, fits.edges_room, fits.size)))

  module _ (kind : LineKind) where
    abbrev above : ℕ
    above = lines_above (unpack_scheme d.scheme) (unpack_instance d.instance) (drawing_key kind)

    pub triples-above : kind ≡ May → d.scheme.permissions ≡ above
    unfolding lines_above unpack_scheme
    triples-above e = rw e (triples-stand ∙ sym (length-map (take d.scheme.permissions d.scheme.permitted) unpack_triple))

    pub nodes-above : kind ≡ Node → d.instance.order ≡ above
    unfolding lines_above unpack_instance
    nodes-above e = rw e (nodes-stand ∙ sym (length-map (take d.instance.order d.instance.nodes) unpack_node))

    pub edges-above : kind ≡ Edge → d.instance.size ≡ above
    unfolding lines_above unpack_instance
    edges-above e = rw e (edges-stand ∙ sym (length-map (take d.instance.size d.instance.edges) unpack_triple))

    pub none_above : (kind ≡ May → ⊥) → (kind ≡ Node → ⊥) → (kind ≡ Edge → ⊥) → 0 ≡ above
    unfolding lines_above
    none_above = declaring (λ k. 0 ≡ lines_above (unpack_scheme d.scheme) (unpack_instance d.instance) k) refl refl kind

-- # What is found of a line
module _ (s : Scheme) (d : Instance) (last : Last) (l : Line) {o : Bool} (ordered : o ≡ follows_last last.line l) where
  pub out_of_order : not o ≡ true → Err (Malformed (last.lines + 1)) ≡ drawing_verdict s d last l
  unfolding drawing_verdict
  out_of_order h = rw add-one (sym (verdict-malformed _ _ _ _ (failed ordered h)))

  module _ (in_order_lem : not o ≡ false) (kind : of_drawing l.kind ≡ true) {n : ℕ} (counted : n ≡ lines_above s d (drawing_key l.kind))
      {x : Bool} (crowded : x ≡ full (kind_of l.kind).form.most n) where
    crowded-so : full (drawing_form (drawing_key l.kind)).most (lines_above s d (drawing_key l.kind)) ≡ x
    crowded-so = sym (crowded ∙ ap (λ f. full f.most n) (drawing-form l.kind kind) ∙ ap (full (drawing_form (drawing_key l.kind)).most) counted)

    pub too_many : x ≡ true → Err (TooMany (last.lines + 1)) ≡ drawing_verdict s d last l
    unfolding drawing_verdict
    too_many h = rw add-one (sym (verdict-crowded _ _ _ _ (passed ordered in_order_lem) (crowded-so ∙ h)))

    pub judged-so : x ≡ false → {v : Result ⊤ Refusal} → v ≡ judged (last.lines + 1) (line_checks s d (drawing_key l.kind) l.row) → v ≡ drawing_verdict s d last l
    unfolding drawing_verdict
    judged-so h judging = judging ∙ rw add-one (sym (verdict-judged _ _ _ _ (passed ordered in_order_lem) (crowded-so ∙ h)))
