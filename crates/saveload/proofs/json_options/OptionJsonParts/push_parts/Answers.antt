use Rattle.std.proofs.Common.{◌≡◌, [], ◌∷◌, ◌++◌, Err, true, ap, map, rules, subst, sym, ◌∙◌}
use Rattle.std.proofs.lemmas.List.{append_assoc}
use Rattle.serde_json.specs.Data.{boolean}
use Rattle.serde_json.specs.View.{view}
use Rattle.saveload.specs.JsonParts.{option_parts}
use Rattle.saveload.proofs.Begun.{begins_more}
use Rattle.saveload.proofs.json_options.OptionJsonParts.push_parts.Goals as goal

pub returns-in_err-push_parts-in-Some-clause-err : goal.returns-in_err-push_parts-in-Some-clause-err
returns-in_err-push_parts-in-Some-clause-err g c =
    let same : c.from_residual-in_err-push_parts-in-Some.result ≡ Err c.in_err-push_parts-in-Some.field-0.0 = search rules in
    rw same (begins_more _ _ c.in_ok-push_one-in-Some.ensures.parts c.in_err-push_parts-in-Some.ensures.err)

pub returns-in_ok-push_parts-in-Some-clause-parts : goal.returns-in_ok-push_parts-in-Some-clause-parts
returns-in_ok-push_parts-in-Some-clause-parts g c =
    subst (λ o. map view c.push_parts.new.row.items ≡ map view c.args.row.now.items ++ option_parts g.T.JsonParts.parts o) (sym c.in-Some.is)
    (c.in_ok-push_parts-in-Some.ensures.parts ∙ ap (λ l. l ++ g.T.JsonParts.parts c.in-Some.datum) c.in_ok-push_one-in-Some.ensures.parts
    ∙ append_assoc (map view c.args.row.now.items) (boolean true ∷ []) (g.T.JsonParts.parts c.in-Some.datum))

pub returns-in_ok-push_one-in-None-clause-parts : goal.returns-in_ok-push_one-in-None-clause-parts
returns-in_ok-push_one-in-None-clause-parts g c =
    subst (λ o. map view c.push_one-in-None.new.row.items ≡ map view c.args.row.now.items ++ option_parts g.T.JsonParts.parts o) (sym c.in-None.is)
    c.in_ok-push_one-in-None.ensures.parts
