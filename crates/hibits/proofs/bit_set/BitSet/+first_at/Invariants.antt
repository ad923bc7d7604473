use Rattle.std.proofs.Common.{◌-◌}
use Rattle.hibits.specs.declared.limits.TheConstants.{LAYERS}
use Rattle.hibits.proofs.bit_set.BitSet.+first_at.Given as goal

abbrev pub decreases-first_at : goal.decreases-first_at
decreases-first_at l = LAYERS - l.level
