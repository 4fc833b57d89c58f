-- `session::Session::new` meets its contract: fresh values are stored as they should be. Assumes nothing.
use borrow.Author.Rules.{rules}
use Rattle.session.proofs.Laws.Fresh.{new_is}
use Rattle.session.proofs.Session.new.Goals as goal

pub returns : goal.returns
returns c = search (new_is, rules)
