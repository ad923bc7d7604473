use Rattle.std.proofs.Common.{◌≡◌, ◌-◌, ◌+◌, length, flat_map}
use Rattle.hibits.specs.declared.limits.TheConstants.{INDEX_LIMIT}
use Rattle.hibits.specs.Words.{words_from, indices_of}
use Rattle.joins_parallel.proofs.cut.count_of.Given as goal

abbrev pub invariant-loop-place : goal.invariant-loop-place
invariant-loop-place g l =
    (l.walk.mask ≡ l.fn.mask) × (l.count + length (flat_map indices_of (words_from (g.M.Layers.has l.walk.mask 0) l.walk.position)) ≡ length (flat_map indices_of (words_from (g.M.Layers.has l.fn.mask 0) 0)))

abbrev pub decreases-loop-place : goal.decreases-loop-place
decreases-loop-place g l = INDEX_LIMIT - l.walk.position
