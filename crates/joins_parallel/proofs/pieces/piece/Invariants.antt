use Rattle.std.proofs.Common.{take}
use Rattle.joins_parallel.specs.Cutting.{Asked}
use Rattle.joins_parallel.proofs.pieces.piece.Given as goal

abbrev pub invariant-loop-i : goal.invariant-loop-i
invariant-loop-i g l = Asked (λ i o. goal.F-post g l.f i o) (take l.i-index l.part) l.made.items
