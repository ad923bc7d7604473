use Rattle.std.proofs.Common.{◌≡◌}
use Rattle.entities.specs.Limits.{indices_ahead}
use Rattle.joins_tests.proofs.joined_calls.pairs.Given as goal

abbrev pub invariant-loop-other : goal.invariant-loop-other
invariant-loop-other g l = l.rest.keys.mask ≡ l.initial.rest.keys.mask

abbrev pub decreases-loop-other : goal.decreases-loop-other
decreases-loop-other g l = indices_ahead l.rest.keys.position

abbrev pub invariant-loop-one : goal.invariant-loop-one
invariant-loop-one g l = l.walk.keys.mask ≡ l.initial.walk.keys.mask

abbrev pub decreases-loop-one : goal.decreases-loop-one
decreases-loop-one g l = indices_ahead l.walk.keys.position
