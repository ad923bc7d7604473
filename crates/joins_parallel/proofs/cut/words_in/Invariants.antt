use Rattle.std.proofs.Common.{◌≡◌, ◌≤◌, ◌-◌, ◌+◌, length}
use Rattle.hibits.specs.declared.limits.TheConstants.{INDEX_LIMIT}
use Rattle.hibits.specs.Words.{words_from}
use Rattle.joins_parallel.proofs.cut.words_in.Given as goal

abbrev pub invariant-loop-word : goal.invariant-loop-word
invariant-loop-word g l =
    (l.walk.mask ≡ l.fn.mask) × (l.count ≤ l.walk.position) × (l.walk.position ≤ INDEX_LIMIT) × (l.count + length (words_from (g.M.Layers.has l.walk.mask 0) l.walk.position) ≡ length (words_from (g.M.Layers.has l.fn.mask 0) 0))

abbrev pub decreases-loop-word : goal.decreases-loop-word
decreases-loop-word g l = INDEX_LIMIT - l.walk.position
