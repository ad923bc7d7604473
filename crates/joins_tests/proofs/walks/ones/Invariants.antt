use Rattle.std.proofs.Common.{◌≡◌}
use Rattle.entities.specs.Limits.{indices_ahead}
use Rattle.joins_tests.proofs.walks.ones.Given as goal

abbrev pub invariant-loop-i : goal.invariant-loop-i
invariant-loop-i l = l.iter.keys.mask ≡ l.initial.iter.keys.mask

abbrev pub decreases-loop-i : goal.decreases-loop-i
decreases-loop-i l = indices_ahead l.iter.keys.position
