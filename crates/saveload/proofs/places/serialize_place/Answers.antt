use Rattle.std.proofs.Common.{rules, ◌≡◌, ℕ, List, ◌∙◌, subst, ap, Some}
use Rattle.std.specs.Prelude.{Err}
use Rattle.saveload.specs.Conversion.{AllNamed}
use Rattle.saveload.proofs.Lists.{own_refuses, own_custom, none_custom, custom_weaker}
use Rattle.saveload.proofs.places.serialize_place.Goals as goal

pub returns-in_err-convert_into-in-Some-clause-refused : goal.returns-in_err-convert_into-in-Some-clause-refused
returns-in_err-convert_into-in-Some-clause-refused g c =
    let same : c.from_residual-in_err-convert_into-in-Some.result ≡ Err c.in_err-convert_into-in-Some.field-0.0 = search rules in
    rw (← c.in-Some.ensures, same) (λ n answers.
    let list : c.deref.result.now ≡ g.S.Component.ConvertSaveload.conversion.references c.in-Some.value.now = search rules in
    let named : AllNamed n (g.S.Component.ConvertSaveload.conversion.references c.in-Some.value.now) = subst (AllNamed n) list (c.in_ok-all_named-in-Some.ensures.named n (rw list answers)) in
    let own = c.in_err-convert_into-in-Some.ensures.refused n (λ x r m p. answers x r m p.1) named in
    own_refuses (g.S.Component.ConvertSaveload.conversion.unsaved c.in-Some.value.now) n (g.S.Component.ConvertSaveload.conversion.references c.in-Some.value.now) c.in_err-convert_into-in-Some.field-0.0 own)

pub returns-in_ok-convert_into-in-Some-clause-saved : goal.returns-in_ok-convert_into-in-Some-clause-saved
returns-in_ok-convert_into-in-Some-clause-saved g c = rw (← c.in-Some.ensures) (λ n answers.
    let list : c.deref.result.now ≡ g.S.Component.ConvertSaveload.conversion.references c.in-Some.value.now = search rules in
    let named : AllNamed n (g.S.Component.ConvertSaveload.conversion.references c.in-Some.value.now) = subst (AllNamed n) list (c.in_ok-all_named-in-Some.ensures.named n (rw list answers)) in
    record { named = named; exact = λ f by. ap Some (c.in_ok-convert_into-in-Some.ensures.exact f (λ x r m p. answers x r m p.1 ∙ by x m)) })

pub returns-in_err-convert_into-in-Some-clause-turn : goal.returns-in_err-convert_into-in-Some-clause-turn
returns-in_err-convert_into-in-Some-clause-turn g c =
    let same : c.from_residual-in_err-convert_into-in-Some.result ≡ Err c.in_err-convert_into-in-Some.field-0.0 = search rules in
    rw (← c.in-Some.ensures, same) (λ n answers.
    let list : c.deref.result.now ≡ g.S.Component.ConvertSaveload.conversion.references c.in-Some.value.now = search rules in
    let named : AllNamed n (g.S.Component.ConvertSaveload.conversion.references c.in-Some.value.now) = subst (AllNamed n) list (c.in_ok-all_named-in-Some.ensures.named n (rw list answers)) in
    let own = c.in_err-convert_into-in-Some.ensures.refused n (λ x r m p. answers x r m p.1) named in
    let all : (t : List ℕ) → g.S.Component.ConvertSaveload.conversion.unsaved c.in-Some.value.now t → AllNamed n (g.S.Component.ConvertSaveload.conversion.references c.in-Some.value.now) × g.S.Component.ConvertSaveload.conversion.unsaved c.in-Some.value.now t = λ t h. (named, h) in
    custom_weaker c.in_err-convert_into-in-Some.field-0.0 all (own_custom (g.S.Component.ConvertSaveload.conversion.unsaved c.in-Some.value.now) c.in_err-convert_into-in-Some.field-0.0 own))

pub returns-in_err-all_named-in-Some-clause-turn : goal.returns-in_err-all_named-in-Some-clause-turn
returns-in_err-all_named-in-Some-clause-turn g c =
    let same : c.from_residual-in_err-all_named-in-Some.result ≡ Err c.in_err-all_named-in-Some.field-0.0 = search rules in
    rw (← c.in-Some.ensures, same) (λ n answers.
    let list : c.deref.result.now ≡ g.S.Component.ConvertSaveload.conversion.references c.in-Some.value.now = search rules in
    none_custom (λ text. AllNamed n (g.S.Component.ConvertSaveload.conversion.references c.in-Some.value.now) × g.S.Component.ConvertSaveload.conversion.unsaved c.in-Some.value.now text) n c.deref.result.now c.in_err-all_named-in-Some.field-0.0 (c.in_err-all_named-in-Some.ensures.refused n (rw list answers)))
