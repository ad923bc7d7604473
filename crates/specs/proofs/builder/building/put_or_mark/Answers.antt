use Rattle.specs.proofs.Going.{on_inserted}
use Rattle.std.proofs.Common.{refl}
use Rattle.specs.proofs.Kept.{living_inserted, marks_one}
use Rattle.specs.proofs.builder.building.put_or_mark.Goals as goal

pub returns-in-Ok-clause-living : goal.returns-in-Ok-clause-living
returns-in-Ok-clause-living g c = living_inserted _ _ _ _ _ _ c.in-Ok.ensures.ok refl

pub returns-in-Err-clause-err : goal.returns-in-Err-clause-err
returns-in-Err-clause-err g c = marks_one _ _ c.args.entity c.mark_if_alive.ensures c.in-Err.ensures.err c.insert.ensures.ids

pub returns-in-Ok-clause-goes_on : goal.returns-in-Ok-clause-goes_on
returns-in-Ok-clause-goes_on g c = on_inserted _ _ g.S.Held.place c.args.entity _ _ (record { people = refl; table = c.in-Ok.ensures.ok; ids = c.in-Ok.ensures.ids })
