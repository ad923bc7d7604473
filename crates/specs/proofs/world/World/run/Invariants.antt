use Rattle.std.proofs.Common.{◌≡◌, ◌≤◌, length}
use Rattle.std.specs.Vec.{vec_capacity}
use Rattle.specs.specs.Job.Steps.{world_state, Run}
use Rattle.specs.proofs.world.World.run.Given as goal

abbrev pub invariant-loop-command : goal.invariant-loop-command
invariant-loop-command g l =
    let state = world_state g.S.Held.table g.S.Held.ids in
    record {
      done : Run g.S.Held.place g.S.CloneStorages.clones g.S.Held.marks g.J.WorldJob.does g.J.WorldJob.wants (state l.fn.self) l.yielded l.replies.items (state l.self);
      count : length l.replies.items ≡ length l.yielded;
      room : length l.fn.commands.items ≤ vec_capacity l.replies;
    }
