use Rattle.std.proofs.Common.{◌≡◌}
use Rattle.serde_json.specs.View.{items_view}
use Rattle.saveload.specs.JsonParts.{all_split}
use Rattle.saveload.proofs.Parts.{before}
use Rattle.saveload.proofs.saved_vec.split_all.Given as goal

abbrev pub invariant-loop-left : goal.invariant-loop-left
invariant-loop-left g l =
    all_split g.T.JsonParts.split l.fn.count (items_view l.fn.row) ≡ before l.list.items (all_split g.T.JsonParts.split l.left (items_view l.rest))

abbrev pub decreases-loop-left : goal.decreases-loop-left
decreases-loop-left g l = l.left
