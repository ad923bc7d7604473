use Rattle.std.proofs.Common.{◌≡◌, ◌-◌, ◌++◌}
use Rattle.hibits.specs.declared.limits.TheConstants.{INDEX_LIMIT}
use Rattle.hibits.specs.Words.{words_from}
use Rattle.joins_parallel.proofs.cut.words_of.Given as goal

abbrev pub invariant-loop-place : goal.invariant-loop-place
invariant-loop-place g l = (l.walk.mask ≡ l.fn.mask) × (l.words.items ++ words_from (g.M.Layers.has l.walk.mask 0) l.walk.position ≡ words_from (g.M.Layers.has l.fn.mask 0) 0)

abbrev pub decreases-loop-place : goal.decreases-loop-place
decreases-loop-place g l = INDEX_LIMIT - l.walk.position
