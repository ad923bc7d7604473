use Rattle.specs.proofs.Going.{on_dead}
use Rattle.specs.proofs.Kept.{living_dead, gone_dead}
use Rattle.specs.proofs.world.core_parts.Core.delete_entities.Goals as goal

pub returns-clause-living : goal.returns-clause-living
returns-clause-living g c = living_dead _ _ c.args.list.now c.in_ok-delete_all_of.ensures.ok

pub returns-clause-stays_gone : goal.returns-clause-stays_gone
returns-clause-stays_gone g c = gone_dead _ _ c.args.list.now c.in_ok-delete_all_of.ensures.ok

pub returns-clause-goes_on : goal.returns-clause-goes_on
returns-clause-goes_on g c = on_dead _ _ c.args.list.now c.in_ok-delete_all_of.ensures.ok
