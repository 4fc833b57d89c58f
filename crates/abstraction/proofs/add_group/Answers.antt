-- `abstraction::add_group` meets its contract, case by case. Assumes nothing.
use Rattle.std.proofs.Common.{eqb-true, sym, ◌∙◌}
use Rattle.std.proofs.lemmas.Bool.{eqb-false}
use Rattle.abstraction.specs.Laws.Adding.{none-to-add, had-before, group-new}
use Rattle.abstraction.proofs.add_group.Goals as goal
use Rattle.abstraction.proofs.add_group.Goals.{then-is_empty-via-then-is_empty, then-is_empty-via-else-is_empty+then-any_has}

pub returns-then-is_empty : goal.returns-then-is_empty
returns-then-is_empty c =
    elim c.then-is_empty.branch [
      | then-is_empty-via-then-is_empty w ↦ none-to-add _ _ _ _ _ _ c.requires.addable (eqb-true _ 0 (sym c.is_empty.ensures ∙ w.if-is_empty.true))
      | then-is_empty-via-else-is_empty+then-any_has w ↦
          had-before _ _ _ _ _ _ c.requires.addable (eqb-false _ 0 (sym c.is_empty.ensures ∙ w.if-is_empty.false)) _ w.any_has.ensures w.if-any_has.true
    ]

pub returns : goal.returns
returns c =
    group-new _ _ _ _ _ _ c.requires.addable (eqb-false _ 0 (sym c.if-is_empty.ensures)) _ c.any_has.ensures c.if-any_has.false _ _ c.add_node.ensures
