use Rattle.std.proofs.Common.{◌≡◌, []}
use Rattle.joins_parallel.proofs.cut.indices_count.Given as goal

abbrev pub invariant-loop-word : goal.invariant-loop-word
invariant-loop-word l = l.words ≡ [] → l.count ≡ 0
