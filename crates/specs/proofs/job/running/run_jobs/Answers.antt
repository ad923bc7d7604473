use Rattle.std.proofs.Common.{◌+◌, ◌∷◌, ◌++◌, ap, arith}
use Rattle.std.specs.Option.{option_to_list}
use Rattle.specs.specs.World.State.{core_state}
use Rattle.specs.specs.Job.Queue.{queued}
use Rattle.specs.proofs.Further.{ran_one_more}
use Rattle.specs.proofs.job.running.run_jobs.Goals as goal

pub returns-in-Some-kept : goal.returns-in-Some-kept
returns-in-Some-kept g c =
    let state = core_state g.S.Held.table g.S.Held.ids in
    let inv = c.loop-ran.invariant in
    let done = rw c.in-Some-kept.is at c.run_one-outcome.ensures.done in
    record {
      before_limit = omega arith;
      before = state c.loop-ran.core;
      counted = c.loop-ran.refused;
      last = c.run_one-outcome.result.refused;
      job = c.in-Some.job;
      kept = c.in-Some-kept.kept;
      rest = queued c.next.new.queue;
      ran_before = rw (c.in-Some.ensures.taken) at inv.done;
      stops = done.1;
      sum = ap (λ n. c.loop-ran.refused + n) c.from-refused.ensures;
      queue = rw c.in-Some-kept.kept-is (ap (λ xs. c.in-Some-kept.kept ∷ xs) done.0);
    }

pub loop-ran-preserved : goal.loop-ran-preserved
loop-ran-preserved g c =
    let state = core_state g.S.Held.table g.S.Held.ids in
    let inv = c.loop-ran.invariant in
    let done = rw c.in-None.is at c.run_one-outcome.ensures.done in
    let more = ran_one_more g.S.Held.place g.S.Held.marks g.J.WorldJob.does c.loop-ran.ran c.loop-ran.refused c.run_one-outcome.result.refused (state c.args.core.now) (state c.loop-ran.core) (state c.run_one-outcome.new.core) (option_to_list c.args.first.now ++ queued c.args.queue.now) (option_to_list c.loop-ran.first ++ queued c.loop-ran.queue) (queued c.next.new.queue) done.0 c.in-Some.job inv.done c.in-Some.ensures.taken done.2 in
    record {
      within = omega arith;
      few = omega (arith, inv.few, c.from-refused.ensures);
      done = rw (c.from-refused.ensures, c.next.ensures.first, done.1) more;
    }
