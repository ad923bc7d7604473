use Rattle.std.proofs.Common.{option_and_then, sym, ap, ◌∙◌, append-nil}
use Rattle.saveload.specs.Json.{list_from}
use Rattle.saveload.proofs.Kept.{took, text_read}
use Rattle.saveload.proofs.json_data.from_json.Goals as goal

pub returns-in-Some-clause-ok : goal.returns-in-Some-clause-ok
returns-in-Some-clause-ok g c =
    let taken = took _ c.in_ok-list.field-0 c.in-Some.list c.in_ok-list.ensures c.in-Some.is in
    ap (option_and_then (list_from g.M.JsonData.from g.D.JsonPlaces.from))
    (text_read g.M.JsonData.json g.M.JsonData.from g.D.JsonPlaces.places g.D.JsonPlaces.from g.met.M.JsonData.shallow g.met.D.JsonPlaces.shallow c.in-Some.list.items _ (sym c.as_bytes.ensures.value ∙ taken.0 ∙ append-nil _) taken.1)
    ∙ taken.1.1
