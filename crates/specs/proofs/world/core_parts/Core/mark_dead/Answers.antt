use Rattle.specs.proofs.Going.{on_marked}
use Rattle.specs.proofs.Kept.{gone_marked, living_marked}
use Rattle.specs.proofs.world.core_parts.Core.mark_dead.Goals as goal

pub returns-clause-living : goal.returns-clause-living
returns-clause-living g c = living_marked _ _ c.args.e c.in_ok-doom.ensures.ok

pub returns-clause-goes_on : goal.returns-clause-goes_on
returns-clause-goes_on g c = on_marked _ _ c.args.e c.in_ok-doom.ensures.ok

pub returns-clause-gone : goal.returns-clause-gone
returns-clause-gone g c = gone_marked _ _ c.args.e c.in_ok-doom.ensures.ok
