use Rattle.std.proofs.Common.{◌+◌, ◌≤◌}
use Rattle.std.specs.Vec.{vec_len}
use Rattle.std.specs.VecDeque.{deque_len}
use Rattle.specs.specs.World.State.{core_state}
use Rattle.specs.proofs.Inserted.{Inserting}
use Rattle.specs.proofs.job.running.insert_all.Given as goal

abbrev pub invariant-loop-e : goal.invariant-loop-e
invariant-loop-e g l =
    let state = core_state g.S.Held.table g.S.Held.ids in
    record {
      inserting : Inserting g.S.Held.place (state l.fn.core) l.fn.pairs.items l.left.items l.refused (state l.core);
      few : l.refused + deque_len l.left ≤ vec_len l.fn.pairs;
    }

abbrev pub decreases-loop-e : goal.decreases-loop-e
decreases-loop-e g l = deque_len l.left
