use Rattle.std.proofs.Common.{◌≡◌}
use Rattle.entities.specs.Limits.{indices_ahead}
use Rattle.joins_tests.proofs.walks.contradictions.Given as goal

abbrev pub invariant-loop-count : goal.invariant-loop-count
invariant-loop-count l = l.iter.keys.mask ≡ l.initial.iter.keys.mask

abbrev pub decreases-loop-count : goal.decreases-loop-count
decreases-loop-count l = indices_ahead l.iter.keys.position
