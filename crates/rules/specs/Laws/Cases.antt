-- Which action lines there may be several of, and whether a text may end, by the kind of line.
use Rattle.std.specs.Prelude.{ℕ, ◌≡◌, refl, Bool, false, true, cond, ◌||◌, eqb, Option, Some, None}
use Rattle.std.proofs.Math.Path.{sym}
use Rattle.std.proofs.lemmas.Bool.{false≢true}
use borrow.Author.Tests.{ne_eqb}
use Rattle.model.specs.Files.RuleText.{RuleKey, op=, pnode=, pedge=, make=, arm=, put=, drop=, cut=, group=}
use Rattle.forms.specs.Forms.{of_drawing, rule_key, turn_of}
use Rattle.forms.specs.declared.LineKind.{LineKind}
use Rattle.forms.specs.declared.LineKind.TheVariants.{Class, Name, May, Node, Edge, Op, Pnode, Pedge, Make, Arm, Put, Drop, Cut, Group}
use Rattle.text.specs.declared.lines.Line.{Line}
use Rattle.rule_lines.specs.RuleLines.{in_action}
use Rattle.rules.specs.Rules.{Parts, with, is_complete}

-- an action line of which there may be several
unfoldable pub has_parts : RuleKey → Bool
has_parts op= = false
has_parts pnode= = false
has_parts pedge= = false
has_parts make= = false
has_parts arm= = true
has_parts put= = true
has_parts drop= = false
has_parts cut= = true
has_parts group= = false

pub has-parts-by-kind : (kind : LineKind) → of_drawing kind ≡ false
    → has_parts (rule_key kind) ≡ (eqb (turn_of kind) 9 || eqb (turn_of kind) 10 || eqb (turn_of kind) 12)
unfolding has_parts
has-parts-by-kind Class h = absurd (false≢true (sym h))
has-parts-by-kind Name h = absurd (false≢true (sym h))
has-parts-by-kind May h = absurd (false≢true (sym h))
has-parts-by-kind Node h = absurd (false≢true (sym h))
has-parts-by-kind Edge h = absurd (false≢true (sym h))
has-parts-by-kind Op h = refl
has-parts-by-kind Pnode h = refl
has-parts-by-kind Pedge h = refl
has-parts-by-kind Make h = refl
has-parts-by-kind Arm h = refl
has-parts-by-kind Put h = refl
has-parts-by-kind Drop h = refl
has-parts-by-kind Cut h = refl
has-parts-by-kind Group h = refl

pub without-parts : (kind : LineKind) → (kind ≡ Arm → ⊥) → (kind ≡ Put → ⊥) → (kind ≡ Cut → ⊥) → false ≡ has_parts (rule_key kind)
unfolding has_parts
without-parts Class a p c = refl
without-parts Name a p c = refl
without-parts May a p c = refl
without-parts Node a p c = refl
without-parts Edge a p c = refl
without-parts Op a p c = refl
without-parts Pnode a p c = refl
without-parts Pedge a p c = refl
without-parts Make a p c = refl
without-parts Arm a p c = absurd (a refl)
without-parts Put a p c = absurd (p refl)
without-parts Drop a p c = refl
without-parts Cut a p c = absurd (c refl)
without-parts Group a p c = refl

-- an action line adds a part, or is the head
pub action-line-added : (kind : LineKind) (line : Line) → line.kind ≡ kind → in_action (Some line) ≡ true → (t : Parts) (row : ℕ)
    → with t (rule_key kind) row ≡ cond (has_parts (rule_key kind)) (with t arm= row) (with t make= row)
unfolding has_parts with
action-line-added Class line e h t row = absurd (false≢true (rw e at h))
action-line-added Name line e h t row = absurd (false≢true (rw e at h))
action-line-added May line e h t row = absurd (false≢true (rw e at h))
action-line-added Node line e h t row = absurd (false≢true (rw e at h))
action-line-added Edge line e h t row = absurd (false≢true (rw e at h))
action-line-added Op line e h t row = absurd (false≢true (rw e at h))
action-line-added Pnode line e h t row = absurd (false≢true (rw e at h))
action-line-added Pedge line e h t row = absurd (false≢true (rw e at h))
action-line-added Make line e h t row = refl
action-line-added Arm line e h t row = refl
action-line-added Put line e h t row = refl
action-line-added Drop line e h t row = refl
action-line-added Cut line e h t row = refl
action-line-added Group line e h t row = refl

-- # The end of a text
module _ (last : Option Line) (code : ℕ) where
  pub complete-none : last ≡ None → false ≡ is_complete last code
  unfolding is_complete
  complete-none e = rw e

  module _ (line : Line) (more : last ≡ Some line) where
    pub complete-pattern-only : code ≡ 0 → true ≡ is_complete last code
    unfolding is_complete
    complete-pattern-only e = rw (more, e)

    pub complete-action : (code ≡ 0 → ⊥) → in_action last ≡ is_complete last code
    unfolding is_complete
    complete-action d = rw (more, ne_eqb code 0 d)
