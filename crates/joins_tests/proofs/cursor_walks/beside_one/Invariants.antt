use Rattle.std.proofs.Common.{◌≡◌}
use Rattle.entities.specs.Limits.{indices_ahead}
use Rattle.joins_tests.proofs.cursor_walks.beside_one.Given as goal

abbrev pub invariant-loop-paired : goal.invariant-loop-paired
invariant-loop-paired g l = l.iter.keys.mask ≡ l.initial.iter.keys.mask

abbrev pub decreases-loop-paired : goal.decreases-loop-paired
decreases-loop-paired g l = indices_ahead l.iter.keys.position
