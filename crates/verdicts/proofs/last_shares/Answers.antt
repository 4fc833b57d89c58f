-- `verdicts::last_shares` meets its contract: the last key tells whether the last edge has the same node and name. Assumes nothing.
use Rattle.std.proofs.Common.{rules}
use Rattle.verdicts.proofs.Laws.LastEdge.{shares-none, shares-last}
use Rattle.verdicts.proofs.last_shares.Goals as goal

pub returns-in-Some : goal.returns-in-Some
returns-in-Some c = search (shares-last, rules)

pub returns-in-None : goal.returns-in-None
returns-in-None c = search (shares-none, rules)
