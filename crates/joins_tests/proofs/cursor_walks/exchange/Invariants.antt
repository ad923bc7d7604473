use Rattle.std.proofs.Common.{◌≡◌}
use Rattle.std.specs.Prelude.{length}
use Rattle.joins.specs.CursorOfTwo.{first_name, second_name, rest}
use Rattle.joins_tests.proofs.cursor_walks.exchange.Given as goal

abbrev pub invariant-loop-id : goal.invariant-loop-id
invariant-loop-id g l = (first_name l.cursor ≡ first_name l.initial.cursor) × (second_name l.cursor ≡ second_name l.initial.cursor)

abbrev pub decreases-loop-id : goal.decreases-loop-id
decreases-loop-id g l = length (rest l.cursor)
