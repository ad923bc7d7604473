use Rattle.std.proofs.Common.{refl}
use Rattle.specs.proofs.Going.{on_labelled}
use Rattle.specs.proofs.Kept.{marks_one}
use Rattle.specs.proofs.builder.building.give_marker.Goals as goal

pub returns-in-Err-clause-err : goal.returns-in-Err-clause-err
returns-in-Err-clause-err g c = marks_one _ _ c.args.entity c.mark_if_alive.ensures c.in-Err.ensures.err c.in-Err.ensures.err_ids

pub returns-in-Ok-clause-goes_on : goal.returns-in-Ok-clause-goes_on
returns-in-Ok-clause-goes_on g c = on_labelled _ _ g.S.Held.marks c.args.slot c.args.entity (record { holds = c.in-Ok.ensures.marker; given = _; gives = record { people = refl; table = c.in-Ok.ensures.ok; ids = c.in-Ok.ensures.ids } })
