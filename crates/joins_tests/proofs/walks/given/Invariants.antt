use Rattle.std.proofs.Common.{◌≡◌}
use Rattle.entities.specs.Limits.{indices_ahead}
use Rattle.joins_tests.proofs.walks.given.Given as goal

abbrev pub invariant-loop-index : goal.invariant-loop-index
invariant-loop-index g l = l.iter.keys.mask ≡ l.initial.iter.keys.mask

abbrev pub decreases-loop-index : goal.decreases-loop-index
decreases-loop-index g l = indices_ahead l.iter.keys.position
