use Rattle.std.proofs.Common.{◌≡◌}
use Rattle.entities.specs.Limits.{indices_ahead}
use Rattle.joins_tests.proofs.cursor_walks.counted.Given as goal

abbrev pub invariant-loop-item : goal.invariant-loop-item
invariant-loop-item g l = l.iter.keys.mask ≡ l.initial.iter.keys.mask

abbrev pub decreases-loop-item : goal.decreases-loop-item
decreases-loop-item g l = indices_ahead l.iter.keys.position
