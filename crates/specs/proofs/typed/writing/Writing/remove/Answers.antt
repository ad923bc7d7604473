use Rattle.specs.proofs.Going.{on_removed}
use Rattle.std.proofs.Common.{refl}
use Rattle.specs.proofs.Kept.{living_removed}
use Rattle.specs.proofs.typed.writing.Writing.remove.Goals as goal

pub returns-in-Ok-clause-living : goal.returns-in-Ok-clause-living
returns-in-Ok-clause-living g c = living_removed _ _ _ _ _ c.in-Ok.ensures.ok refl

pub returns-in-Ok-clause-goes_on : goal.returns-in-Ok-clause-goes_on
returns-in-Ok-clause-goes_on g c = on_removed _ _ _ c.args.e _ (record { people = refl; table = c.in-Ok.ensures.ok; ids = c.in-Ok.ensures.ids })
