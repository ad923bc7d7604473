use Rattle.specs.proofs.Going.{on_pending}
use Rattle.specs.proofs.Kept.{gone_pending, living_pending}
use Rattle.specs.proofs.world.core_parts.Core.create_pending.Goals as goal

pub returns-clause-living : goal.returns-clause-living
returns-clause-living g c = living_pending _ _ c.in_ok-entity.entity c.in_ok-entity.ensures.ok

pub returns-clause-goes_on : goal.returns-clause-goes_on
returns-clause-goes_on g c = on_pending _ _ c.in_ok-entity.entity c.in_ok-entity.ensures.ok

pub returns-clause-gone : goal.returns-clause-gone
returns-clause-gone g c = gone_pending _ _ c.in_ok-entity.entity c.in_ok-entity.ensures.ok
