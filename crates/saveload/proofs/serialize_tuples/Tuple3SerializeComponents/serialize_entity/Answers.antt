use Rattle.std.proofs.Common.{rules, ◌≡◌}
use Rattle.std.specs.Prelude.{Err}
use Rattle.saveload.specs.Places.{place, both}
use Rattle.saveload.specs.Tuples.{three, two_places}
use Rattle.saveload.proofs.Lists.{saved_along}
use Rattle.saveload.proofs.serialize_tuples.Tuple3SerializeComponents.serialize_entity.Goals as goal

pub returns-in_err-first-clause-refused : goal.returns-in_err-first-clause-refused
returns-in_err-first-clause-refused g c =
    let same : c.from_residual.result ≡ Err c.in_err-first.field-0.0 = search rules in
    rw same c.in_err-first.ensures.refused

pub returns-clause-saved : goal.returns-clause-saved
returns-clause-saved g c n answers =
    let rest = two_places g.B.Component.ConvertSaveload.conversion g.C.Component.ConvertSaveload.conversion in
    saved_along three three (both (place g.A.Component.ConvertSaveload.conversion) rest) n _ (c.in_ok-first.first, (c.in_ok-first.second, c.in_ok-first.third))
    (c.in_ok-first.ensures.saved n answers)

pub returns-in_err-first-clause-turn : goal.returns-in_err-first-clause-turn
returns-in_err-first-clause-turn g c =
    let same : c.from_residual.result ≡ Err c.in_err-first.field-0.0 = search rules in
    rw same c.in_err-first.ensures.turn
