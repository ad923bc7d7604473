use Rattle.std.proofs.Common.{◌≡◌}
use Rattle.entities.specs.Limits.{indices_ahead}
use Rattle.joins_tests.proofs.joined_calls.sum_at.Given as goal

abbrev pub invariant-loop-found : goal.invariant-loop-found
invariant-loop-found g l = l.walk.keys.mask ≡ l.initial.walk.keys.mask

abbrev pub decreases-loop-found : goal.decreases-loop-found
decreases-loop-found g l = indices_ahead l.walk.keys.position
