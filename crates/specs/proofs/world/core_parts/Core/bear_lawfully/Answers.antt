use Rattle.specs.proofs.Going.{on_born}
use Rattle.specs.proofs.Kept.{living_born, gone_born}
use Rattle.specs.proofs.world.core_parts.Core.bear_lawfully.Goals as goal

pub returns-clause-living : goal.returns-clause-living
returns-clause-living g c = living_born _ _ c.in_ok-entity.entity c.in_ok-entity.ensures.ok

pub returns-clause-gone : goal.returns-clause-gone
returns-clause-gone g c = gone_born _ _ c.in_ok-entity.entity c.in_ok-entity.ensures.ok

pub returns-clause-goes_on : goal.returns-clause-goes_on
returns-clause-goes_on g c = on_born _ _ c.in_ok-entity.entity c.in_ok-entity.ensures.ok
