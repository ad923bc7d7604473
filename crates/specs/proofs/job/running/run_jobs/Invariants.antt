use Rattle.std.proofs.Common.{◌-◌, ◌*◌, ◌++◌, ◌≤◌}
use Rattle.std.specs.Option.{option_to_list}
use Rattle.specs.specs.World.State.{core_state}
use Rattle.specs.specs.Job.Queue.{queued}
use Rattle.specs.specs.Job.Jobs.{Ran}
use Rattle.specs.proofs.job.running.run_jobs.Given as goal

abbrev pub invariant-loop-ran : goal.invariant-loop-ran
invariant-loop-ran g l =
    let state = core_state g.S.Held.table g.S.Held.ids in
    record {
      within : l.ran ≤ l.limit;
      few : l.refused ≤ l.ran * 18446744073709551615;
      done : Ran g.S.Held.place g.S.Held.marks g.J.WorldJob.does l.ran l.refused (state l.fn.core) (option_to_list l.fn.first ++ queued l.fn.queue) (state l.core) (option_to_list l.first ++ queued l.queue);
    }

abbrev pub decreases-loop-ran : goal.decreases-loop-ran
decreases-loop-ran g l = l.limit - l.ran
