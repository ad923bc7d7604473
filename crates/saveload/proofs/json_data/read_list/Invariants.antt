use Rattle.std.proofs.Common.{◌≡◌, drop}
use Rattle.serde_json.specs.View.{view, items_view}
use Rattle.saveload.specs.Json.{list_from}
use Rattle.saveload.proofs.JsonLists.{after}
use Rattle.saveload.proofs.json_data.read_list.Given as goal

abbrev pub invariant-loop-value : goal.invariant-loop-value
invariant-loop-value g l = list_from g.M.JsonData.from g.D.JsonPlaces.from (view l.fn.value) ≡ after g.M.JsonData.from g.D.JsonPlaces.from l.list.items (items_view (drop l.value-index l.value-items))
