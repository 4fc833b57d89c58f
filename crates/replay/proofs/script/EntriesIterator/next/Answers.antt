-- `replay::script::Entries::next` meets its contract: it goes on where what follows the entry begins. Assumes nothing.
use Rattle.std.proofs.Common.{refl}
use Rattle.replay.proofs.Entries.{rest_at}
use Rattle.replay.proofs.script.EntriesIterator.next.Goals as goal

pub returns-clause-steps : goal.returns-clause-steps
returns-clause-steps c = (refl, rest_at c.args.self.now.script.now c.args.self.now.at c.in-Some.ensures.parts)
