-- `notes::Notes::note` meets its contract: joining the key to the keys as they rise tells whether it is new. Assumes nothing.
use borrow.Author.Rules.{rules}
use Rattle.notes.specs.Laws.Kept.{rising-rises, noted-full, again, kept-again, new, kept-new}
use Rattle.notes.proofs.Notes.note.Goals as goal

pub insert-more-requires-clause-keys_value : goal.insert-more-requires-clause-keys_value
insert-more-requires-clause-keys_value c = rising-rises c.self.invariant

pub invariant_of-self : goal.invariant_of-self
invariant_of-self c = search (kept-new, rules)

pub invariant_of-self-else-more-self : goal.invariant_of-self-else-more-self
invariant_of-self-else-more-self c = search (kept-again, rules)

pub returns-then-more-self : goal.returns-then-more-self
returns-then-more-self c = rw (← c.self.view_is) (search (new, rules))

pub returns-else-more-self : goal.returns-else-more-self
returns-else-more-self c = rw (← c.self.view_is) (search (again, rules))

pub returns-else-self-lt-ROOM : goal.returns-else-self-lt-ROOM
returns-else-self-lt-ROOM c = rw (← c.self.view_is) (search (noted-full, rules))
