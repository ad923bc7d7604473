use Rattle.std.proofs.Common.{◌≡◌, string_bytes, option_and_then, ap, ◌∙◌, rules}
use Rattle.serde_json.specs.Written.{compact_text}
use Rattle.saveload.specs.Json.{list_json, list_from}
use Rattle.saveload.proofs.Kept.{text_read}
use Rattle.saveload.proofs.json_data.to_json.Goals as goal

pub returns-clause-value : goal.returns-clause-value
returns-clause-value g c =
    let text : string_bytes c.write_list.new.text ≡ compact_text (list_json g.M.JsonData.json g.D.JsonPlaces.places c.args.list.now) = search rules in
    text_read g.M.JsonData.json g.M.JsonData.from g.D.JsonPlaces.places g.D.JsonPlaces.from g.met.M.JsonData.shallow g.met.D.JsonPlaces.shallow c.args.list.now _ text c.in_ok-write_list.ensures.1

pub returns-clause-reads_back : goal.returns-clause-reads_back
returns-clause-reads_back g c = ap (option_and_then (list_from g.M.JsonData.from g.D.JsonPlaces.from)) (returns-clause-value g c) ∙ c.in_ok-write_list.ensures.1.1
