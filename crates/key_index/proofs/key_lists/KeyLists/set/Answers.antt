use Rattle.std.proofs.Common.{arith}
use Rattle.key_index.proofs.Kept.{there_inserted}
use Rattle.key_index.proofs.key_lists.KeyLists.set.Goals as goal

pub set-requires : goal.set-requires
set-requires g c = (omega arith, rw c.in_ok-reserve.ensures.pages (there_inserted _ _))
