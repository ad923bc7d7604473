use Rattle.specs.proofs.Going.{on_inserted}
use Rattle.std.proofs.Common.{refl}
use Rattle.specs.proofs.Kept.{living_inserted}
use Rattle.specs.proofs.typed.writing.Writing.insert.Goals as goal

pub returns-in-Ok-clause-living : goal.returns-in-Ok-clause-living
returns-in-Ok-clause-living g c = living_inserted _ _ _ _ _ _ c.in-Ok.ensures.ok refl

pub returns-in-Ok-clause-goes_on : goal.returns-in-Ok-clause-goes_on
returns-in-Ok-clause-goes_on g c = on_inserted _ _ g.S.Held.place c.args.e _ _ (record { people = refl; table = c.in-Ok.ensures.ok; ids = c.insert.ensures.ids })
