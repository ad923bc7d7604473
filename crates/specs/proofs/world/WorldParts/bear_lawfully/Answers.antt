use Rattle.specs.proofs.Kept.{living_pending, gone_pending}
use Rattle.specs.proofs.world.WorldParts.bear_lawfully.Goals as goal

pub returns-clause-living : goal.returns-clause-living
returns-clause-living g c = living_pending _ _ c.in_ok-entity.entity c.in_ok-entity.ensures.ok

pub returns-clause-gone : goal.returns-clause-gone
returns-clause-gone g c = gone_pending _ _ c.in_ok-entity.entity c.in_ok-entity.ensures.ok
