use Rattle.std.proofs.Common.{rules, ◌≡◌}
use Rattle.std.specs.Prelude.{Err}
use Rattle.saveload.specs.Conversion.{AllNamed}
use Rattle.saveload.specs.Places.{place, has_right, if_some}
use Rattle.saveload.proofs.Lists.{turn_first, turn_rest, answers_left, saved_both, refuses_left, refuses_right}
use Rattle.saveload.proofs.places.serialize_with_rest.Goals as goal

pub returns-in_err-data-clause-refused : goal.returns-in_err-data-clause-refused
returns-in_err-data-clause-refused g c =
    let same : c.from_residual.result ≡ Err c.in_err-data.field-0.0 = search rules in
    rw same (λ n answers. refuses_left ((place g.A.Component.ConvertSaveload.conversion).unsaved (g.A.GenericReadStorage.found c.args.first.now c.args.entity)) (g.R.SerializeComponents.conversion.unsaved (g.R.SerializeComponents.values c.args.rest.now c.args.entity)) n _ _ _ (c.in_err-data.ensures.refused n (answers_left _ _ _ n answers)))

pub returns-in_err-others-clause-refused : goal.returns-in_err-others-clause-refused
returns-in_err-others-clause-refused g c =
    let same : c.from_residual-in_err-others.result ≡ Err c.in_err-others.field-0.0 = search rules in
    rw same (λ n answers. refuses_right ((place g.A.Component.ConvertSaveload.conversion).unsaved (g.A.GenericReadStorage.found c.args.first.now c.args.entity)) (g.R.SerializeComponents.conversion.unsaved (g.R.SerializeComponents.values c.args.rest.now c.args.entity)) n _ _ _ (c.in_ok-data.ensures.saved n (answers_left _ _ _ n answers)).named
    (c.in_err-others.ensures.refused n (λ x r m p. answers x r (has_right (if_some g.A.Component.ConvertSaveload.conversion.references (g.A.GenericReadStorage.found c.args.first.now c.args.entity)) _ x m) p.1)))

pub returns-clause-saved : goal.returns-clause-saved
returns-clause-saved g c n answers =
    saved_both (place g.A.Component.ConvertSaveload.conversion) g.R.SerializeComponents.conversion n _ _ _ _
    (c.in_ok-data.ensures.saved n (answers_left _ _ _ n answers))
    (c.in_ok-others.ensures.saved n (λ x r m p. answers x r (has_right (if_some g.A.Component.ConvertSaveload.conversion.references (g.A.GenericReadStorage.found c.args.first.now c.args.entity)) _ x m) p.1))

pub returns-in_err-data-clause-turn : goal.returns-in_err-data-clause-turn
returns-in_err-data-clause-turn g c =
    let same : c.from_residual.result ≡ Err c.in_err-data.field-0.0 = search rules in
    let a = place g.A.Component.ConvertSaveload.conversion in
    let v = g.A.GenericReadStorage.found c.args.first.now c.args.entity in
    rw same (λ n answers. turn_first (AllNamed n (a.references v)) (a.unsaved v) (g.R.SerializeComponents.Unsaved n (g.R.SerializeComponents.values c.args.rest.now c.args.entity)) c.in_err-data.field-0.0
    (c.in_err-data.ensures.turn n (answers_left _ _ _ n answers)))

pub returns-in_err-others-clause-turn : goal.returns-in_err-others-clause-turn
returns-in_err-others-clause-turn g c =
    let same : c.from_residual-in_err-others.result ≡ Err c.in_err-others.field-0.0 = search rules in
    let a = place g.A.Component.ConvertSaveload.conversion in
    let v = g.A.GenericReadStorage.found c.args.first.now c.args.entity in
    rw same (λ n answers. turn_rest (AllNamed n (a.references v)) (a.unsaved v) (g.R.SerializeComponents.Unsaved n (g.R.SerializeComponents.values c.args.rest.now c.args.entity)) c.in_err-others.field-0.0
    (c.in_ok-data.ensures.saved n (answers_left _ _ _ n answers)).named
    (c.in_err-others.ensures.turn n (λ x r m p. answers x r (has_right (if_some g.A.Component.ConvertSaveload.conversion.references (g.A.GenericReadStorage.found c.args.first.now c.args.entity)) _ x m) p.1)))
