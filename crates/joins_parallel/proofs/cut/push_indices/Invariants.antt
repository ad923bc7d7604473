use Rattle.std.proofs.Common.{◌≡◌, ◌++◌, length}
use Rattle.hibits.specs.Words.{indices_of}
use Rattle.joins_parallel.proofs.cut.push_indices.Given as goal

abbrev pub invariant-loop-i : goal.invariant-loop-i
invariant-loop-i l = l.list.items ++ indices_of l.rest ≡ l.initial.list.items ++ indices_of l.fn.word

abbrev pub decreases-loop-i : goal.decreases-loop-i
decreases-loop-i l = length (indices_of l.rest)
