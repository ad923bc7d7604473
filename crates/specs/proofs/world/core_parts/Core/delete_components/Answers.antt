use Rattle.specs.proofs.Going.{on_dropped}
use Rattle.specs.proofs.Kept.{living_dropped}
use Rattle.specs.proofs.world.core_parts.Core.delete_components.Goals as goal

pub returns-clause-goes_on : goal.returns-clause-goes_on
returns-clause-goes_on g c = on_dropped _ _ c.args.list.now c.in_ok-drop_components.ensures.ok

pub returns-clause-living : goal.returns-clause-living
returns-clause-living g c = living_dropped _ _ c.args.list.now c.in_ok-drop_components.ensures.ok
