use Rattle.std.proofs.Common.{◌≡◌, ◌+◌, length, flat_map, drop}
use Rattle.joins_parallel.proofs.pieces.values_count.Given as goal

abbrev pub invariant-loop-part : goal.invariant-loop-part
invariant-loop-part g l = l.count + length (flat_map (λ w. w.items) (drop l.part-index l.parts)) ≡ length (flat_map (λ w. w.items) l.parts)
