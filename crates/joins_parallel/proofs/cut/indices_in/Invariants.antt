use Rattle.std.proofs.Common.{◌≡◌, flat_map, take}
use Rattle.hibits.specs.Words.{indices_of}
use Rattle.joins_parallel.proofs.cut.indices_in.Given as goal

abbrev pub invariant-loop-word : goal.invariant-loop-word
invariant-loop-word l = l.list.items ≡ flat_map indices_of (take l.word-index l.words)
