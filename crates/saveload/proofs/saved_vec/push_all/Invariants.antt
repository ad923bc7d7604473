use Rattle.std.proofs.Common.{◌≡◌, ◌++◌, map, take}
use Rattle.serde_json.specs.View.{view}
use Rattle.saveload.specs.JsonParts.{all_parts, AllSplit}
use Rattle.saveload.proofs.saved_vec.push_all.Given as goal

abbrev pub invariant-loop-datum : goal.invariant-loop-datum
invariant-loop-datum g l =
    (map view l.row.items ≡ map view l.fn.row.items ++ all_parts g.T.JsonParts.parts (take l.datum-index l.list))
    × AllSplit g.T.JsonParts.parts g.T.JsonParts.split (take l.datum-index l.list)
