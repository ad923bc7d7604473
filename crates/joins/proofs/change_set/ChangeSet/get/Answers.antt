use Rattle.std.proofs.Common.{ap, sym, is_some}
use Rattle.joins.proofs.Holding.{value_here, absent_there}
use Rattle.joins.proofs.change_set.ChangeSet.get.Goals as goal

pub returns-in-Some : goal.returns-in-Some
returns-in-Some g c = sym (value_here _ _ _ c.self.view_is c.in-Some.change.now (sym c.in-Some.ensures))

pub returns-in-None : goal.returns-in-None
returns-in-None g c = sym (absent_there _ _ _ c.self.view_is (ap is_some (sym c.in-None.ensures)))
