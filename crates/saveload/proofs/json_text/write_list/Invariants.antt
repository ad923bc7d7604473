use Rattle.std.proofs.Common.{◌≡◌, ◌∷◌, ◌++◌, take, string_bytes}
use Rattle.serde_json.specs.Written.{comma_if}
use Rattle.saveload.specs.Json.{record_json, record_from, AllRead}
use Rattle.saveload.proofs.Kept.{something, records_text}
use Rattle.saveload.proofs.json_text.write_list.Given as goal

abbrev pub invariant-loop-record : goal.invariant-loop-record
invariant-loop-record g l =
    (string_bytes l.text ≡ string_bytes l.fn.text ++ (91 ∷ records_text g.M.JsonData.json g.D.JsonPlaces.places (take l.record-index l.list)))
    × (l.separator ≡ comma_if (something (take l.record-index l.list)))
    × AllRead (record_json g.M.JsonData.json g.D.JsonPlaces.places) (record_from g.M.JsonData.from g.D.JsonPlaces.from) (take l.record-index l.list)
