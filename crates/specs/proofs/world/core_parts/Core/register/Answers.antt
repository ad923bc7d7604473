use Rattle.std.proofs.Common.{refl}
use Rattle.specs.proofs.Going.{registered_or_not}
use Rattle.specs.proofs.world.core_parts.Core.register.Goals as goal

pub returns-clause-goes_on : goal.returns-clause-goes_on
returns-clause-goes_on g c = registered_or_not _ _ c.register.result g.S.Has.the_slot refl c.register.ensures.ids c.register.ensures.ok c.register.ensures.err
