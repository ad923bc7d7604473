use Rattle.std.proofs.Common.{take}
use Rattle.entities.specs.Lowered.{AreDistinctOf, IsLowered}
use Rattle.entities.proofs.lowering.lower.Given as goal

abbrev pub invariant-loop-k : goal.invariant-loop-k
invariant-loop-k l = record { distinct : AreDistinctOf l.fn.generations (take l.k l.list); lowered : IsLowered l.fn.generations (take l.k l.list) l.generations }
