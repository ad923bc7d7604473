use Rattle.std.proofs.Common.{take, flat_map}
use Rattle.hibits.specs.Words.{indices_of}
use Rattle.joins_parallel.specs.Cutting.{Asked}
use Rattle.joins_parallel.proofs.pieces.piece_of_words.Given as goal

abbrev pub invariant-loop-word : goal.invariant-loop-word
invariant-loop-word g l = Asked (λ i o. goal.F-post g l.f i o) (flat_map indices_of (take l.word-index l.part)) l.made.items
