use Rattle.std.proofs.Common.{ap, ◌∙◌}
use Rattle.storages.specs.Vec.{free_of_empty}
use Rattle.joins.specs.Held.{held}
use Rattle.joins.proofs.Holding.{held-empty}
use Rattle.joins.proofs.change_set.ChangeSet.new.Goals as goal

pub new-requires : goal.new-requires
new-requires g c = λ q. free_of_empty _ c.in-Ok.ensures.ok q

pub returns : goal.returns
returns g c = ap held c.new.ensures.map ∙ held-empty
