use Rattle.std.proofs.Common.{◌≡◌, ◌∷◌, ◌++◌, length}
use Rattle.serde_json.specs.Written.{comma_if}
use Rattle.saveload.specs.Json.{record_json, record_from, AllRead}
use Rattle.saveload.proofs.Kept.{something, records_text}
use Rattle.saveload.proofs.json_text.take_list.Given as goal

abbrev pub invariant-loop-rest : goal.invariant-loop-rest
invariant-loop-rest g l =
    (l.fn.text ≡ 91 ∷ (records_text g.M.JsonData.json g.D.JsonPlaces.places l.list.items ++ l.rest))
    × (l.separator ≡ comma_if (something l.list.items))
    × AllRead (record_json g.M.JsonData.json g.D.JsonPlaces.places) (record_from g.M.JsonData.from g.D.JsonPlaces.from) l.list.items

abbrev pub decreases-loop-rest : goal.decreases-loop-rest
decreases-loop-rest g l = length l.rest
