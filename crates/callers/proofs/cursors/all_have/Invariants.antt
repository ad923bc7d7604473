use Rattle.std.proofs.Common.{◌≡◌, false}
use Rattle.std.specs.Prelude.{is_some, length}
use Rattle.joins.specs.Cursor.{slot, storage_name, rest}
use Rattle.joins.specs.Each.{each_becomes}
use Rattle.callers.proofs.cursors.all_have.Given as goal

abbrev pub invariant-loop-id : goal.invariant-loop-id
invariant-loop-id l =
    (storage_name l.cursor ≡ storage_name l.initial.cursor)
    × (is_some (slot l.cursor).room ≡ false)
    × (each_becomes (λ _ _. l.health) (rest l.cursor) (slot l.cursor).map ≡ each_becomes (λ _ _. l.health) (rest l.initial.cursor) (slot l.initial.cursor).map)

abbrev pub decreases-loop-id : goal.decreases-loop-id
decreases-loop-id l = length (rest l.cursor)
