use Rattle.std.proofs.Common.{◌≡◌, ◌<◌, ◌*◌, ℕ}
use Rattle.hibits.specs.Sets.{HasRoom}
use Rattle.entities.proofs.allocator.room.make_set_room.Given as goal

abbrev pub invariant-loop-block : goal.invariant-loop-block
invariant-loop-block l = record { members : l.set.members ≡ l.fn.set.members; kept : (i : ℕ) → HasRoom l.fn.set i → HasRoom l.set i; blocks : (i : ℕ) → i < 4096 * l.block → HasRoom l.set i }
