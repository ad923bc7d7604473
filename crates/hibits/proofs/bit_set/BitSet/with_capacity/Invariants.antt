use Rattle.std.proofs.Common.{◌≡◌, ℕ, ◌/◌, ◌<◌}
use Rattle.std.specs.FinSet as set
use Rattle.hibits.specs.Sets.{HasRoom}
use Rattle.hibits.proofs.bit_set.BitSet.with_capacity.Given as goal

abbrev pub invariant-loop-block : goal.invariant-loop-block
invariant-loop-block l = record { members : l.empty.members ≡ set.empty; room : (i : ℕ) → i / 4096 < l.block → HasRoom l.empty i; no_further : (i : ℕ) → HasRoom l.empty i → i / 4096 < l.block }
