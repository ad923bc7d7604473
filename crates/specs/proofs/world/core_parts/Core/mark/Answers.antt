use Rattle.specs.proofs.Going.{on_given}
use Rattle.specs.proofs.Kept.{living_given}
use Rattle.specs.proofs.world.core_parts.Core.mark.Goals as goal

pub returns-clause-living : goal.returns-clause-living
returns-clause-living g c = living_given _ _ g.S.Held.marks c.args.slot c.args.e c.in_ok-given.given c.in_ok-given.ensures.ok

pub returns-clause-goes_on : goal.returns-clause-goes_on
returns-clause-goes_on g c = on_given _ _ g.S.Held.marks c.args.slot c.args.e c.in_ok-given.given c.in_ok-given.ensures.ok
