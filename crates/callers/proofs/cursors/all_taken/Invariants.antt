use Rattle.std.proofs.Common.{◌≡◌}
use Rattle.std.specs.Prelude.{length}
use Rattle.joins.specs.Draining.{slot, storage_name, rest}
use Rattle.joins.specs.Each.{each_gone}
use Rattle.callers.proofs.cursors.all_taken.Given as goal

abbrev pub invariant-loop-id : goal.invariant-loop-id
invariant-loop-id l =
    (storage_name l.cursor ≡ storage_name l.initial.cursor)
    × (each_gone (rest l.cursor) (slot l.cursor).map ≡ each_gone (rest l.initial.cursor) (slot l.initial.cursor).map)

abbrev pub decreases-loop-id : goal.decreases-loop-id
decreases-loop-id l = length (rest l.cursor)
