use Rattle.joins_parallel.proofs.InPlace.{same_call}
use Rattle.joins_parallel.proofs.in_place.change_each.Goals as goal

pub returns-clause-changed : goal.returns-clause-changed
returns-clause-changed g c i d lt is = let e = (c.change_shared.ensures i d lt).1 in same_call _ _ i _ _ _ _ e.argument_is e.left (e.call.0 is)
