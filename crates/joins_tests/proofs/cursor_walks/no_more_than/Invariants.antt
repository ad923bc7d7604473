use Rattle.std.proofs.Common.{◌≡◌}
use Rattle.std.specs.Prelude.{length}
use Rattle.joins.specs.ChangeCursor.{changes_name, rest}
use Rattle.joins_tests.proofs.cursor_walks.no_more_than.Given as goal

abbrev pub invariant-loop-id : goal.invariant-loop-id
invariant-loop-id g l = changes_name l.cursor ≡ changes_name l.initial.cursor

abbrev pub decreases-loop-id : goal.decreases-loop-id
decreases-loop-id g l = length (rest l.cursor)
