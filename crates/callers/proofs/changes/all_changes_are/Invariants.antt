use Rattle.std.proofs.Common.{◌≡◌}
use Rattle.std.specs.Prelude.{length}
use Rattle.joins.specs.ChangeCursor.{values, changes_name, rest}
use Rattle.joins.specs.Each.{each_becomes}
use Rattle.callers.proofs.changes.all_changes_are.Given as goal

abbrev pub invariant-loop-id : goal.invariant-loop-id
invariant-loop-id l =
    (changes_name l.cursor ≡ changes_name l.initial.cursor)
    × (each_becomes (λ _ _. l.value) (rest l.cursor) (values l.cursor) ≡ each_becomes (λ _ _. l.value) (rest l.initial.cursor) (values l.initial.cursor))

abbrev pub decreases-loop-id : goal.decreases-loop-id
decreases-loop-id l = length (rest l.cursor)
