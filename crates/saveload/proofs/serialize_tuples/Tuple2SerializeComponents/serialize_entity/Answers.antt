use Rattle.std.proofs.Common.{rules, ◌≡◌}
use Rattle.std.specs.Prelude.{Err}
use Rattle.saveload.specs.Conversion.{AllNamed}
use Rattle.saveload.specs.Unsaved.{UnsavedOne}
use Rattle.saveload.specs.Places.{place}
use Rattle.saveload.proofs.Lists.{turn_first, turn_rest, answers_left, answers_right, saved_both, refuses_left, refuses_right}
use Rattle.saveload.proofs.serialize_tuples.Tuple2SerializeComponents.serialize_entity.Goals as goal

pub returns-in_err-first-clause-refused : goal.returns-in_err-first-clause-refused
returns-in_err-first-clause-refused g c =
    let same : c.from_residual.result ≡ Err c.in_err-first.field-0.0 = search rules in
    rw same (λ n answers. refuses_left ((place g.A.Component.ConvertSaveload.conversion).unsaved (g.A.GenericReadStorage.found c.args.self.now.0 c.args.entity)) ((place g.B.Component.ConvertSaveload.conversion).unsaved (g.B.GenericReadStorage.found c.args.self.now.1 c.args.entity)) n _ _ _ (c.in_err-first.ensures.refused n (answers_left _ _ _ n answers)))

pub returns-in_err-second-clause-refused : goal.returns-in_err-second-clause-refused
returns-in_err-second-clause-refused g c =
    let same : c.from_residual-in_err-second.result ≡ Err c.in_err-second.field-0.0 = search rules in
    rw same (λ n answers. refuses_right ((place g.A.Component.ConvertSaveload.conversion).unsaved (g.A.GenericReadStorage.found c.args.self.now.0 c.args.entity)) ((place g.B.Component.ConvertSaveload.conversion).unsaved (g.B.GenericReadStorage.found c.args.self.now.1 c.args.entity)) n _ _ _ (c.in_ok-first.ensures.saved n (answers_left _ _ _ n answers)).named
    (c.in_err-second.ensures.refused n (answers_right _ _ _ n answers)))

pub returns-clause-saved : goal.returns-clause-saved
returns-clause-saved g c n answers =
    saved_both (place g.A.Component.ConvertSaveload.conversion) (place g.B.Component.ConvertSaveload.conversion) n _ _ _ _ (c.in_ok-first.ensures.saved n (answers_left _ _ _ n answers)) (c.in_ok-second.ensures.saved n (answers_right _ _ _ n answers))

pub returns-in_err-first-clause-turn : goal.returns-in_err-first-clause-turn
returns-in_err-first-clause-turn g c =
    let same : c.from_residual.result ≡ Err c.in_err-first.field-0.0 = search rules in
    let a = place g.A.Component.ConvertSaveload.conversion in
    let b = place g.B.Component.ConvertSaveload.conversion in
    let v = g.A.GenericReadStorage.found c.args.self.now.0 c.args.entity in
    rw same (λ n answers. turn_first (AllNamed n (a.references v)) (a.unsaved v) (UnsavedOne b n (g.B.GenericReadStorage.found c.args.self.now.1 c.args.entity)) c.in_err-first.field-0.0
    (c.in_err-first.ensures.turn n (answers_left _ _ _ n answers)))

pub returns-in_err-second-clause-turn : goal.returns-in_err-second-clause-turn
returns-in_err-second-clause-turn g c =
    let same : c.from_residual-in_err-second.result ≡ Err c.in_err-second.field-0.0 = search rules in
    let a = place g.A.Component.ConvertSaveload.conversion in
    let b = place g.B.Component.ConvertSaveload.conversion in
    let v = g.A.GenericReadStorage.found c.args.self.now.0 c.args.entity in
    rw same (λ n answers. turn_rest (AllNamed n (a.references v)) (a.unsaved v) (UnsavedOne b n (g.B.GenericReadStorage.found c.args.self.now.1 c.args.entity)) c.in_err-second.field-0.0
    (c.in_ok-first.ensures.saved n (answers_left _ _ _ n answers)).named
    (c.in_err-second.ensures.turn n (answers_right _ _ _ n answers)))
