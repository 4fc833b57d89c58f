-- `operations::apply` meets its contract: the walk and what is made of its notes are the rule's. Assumes nothing.
use borrow.Author.Rules.{rules}
use Rattle.operations.specs.Laws.Asked.{able}
use Rattle.operations.specs.Laws.Calls.{all-walked, report-is}
use Rattle.operations.proofs.apply.Goals as goal

pub begin-notes-requires : goal.begin-notes-requires
begin-notes-requires c = search (able, rules)

pub finish-changed-requires : goal.finish-changed-requires
finish-changed-requires c =
    all-walked _ _ _ c.requires.stored_instance c.requires.stored_rule _ _ _ _ _ c.begin-notes.ensures c.count-begun.ensures.counts c.noting.ensures
    c.visit_all-matchings.ensures

pub returns : goal.returns
returns c = search (report-is, rules)
