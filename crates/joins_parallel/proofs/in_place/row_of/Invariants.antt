use Rattle.std.proofs.Common.{◌≡◌, ◌-◌}
use Rattle.hibits.specs.declared.limits.TheConstants.{INDEX_LIMIT}
use Rattle.joins_parallel.proofs.InPlace.{IsRow}
use Rattle.joins_parallel.proofs.in_place.row_of.Given as goal

abbrev pub invariant-loop-place : goal.invariant-loop-place
invariant-loop-place g l = (l.walk.mask ≡ l.fn.mask) × IsRow l.row.items (g.M.Layers.has l.fn.mask 0) l.walk.position

abbrev pub decreases-loop-place : goal.decreases-loop-place
decreases-loop-place g l = INDEX_LIMIT - l.walk.position
