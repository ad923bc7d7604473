use Rattle.std.proofs.Common.{◌≡◌, ◌<◌, [], ◌∷◌, ◌++◌, length, rules, arith, ap, sym, ◌∙◌, length-append, append-nil}
use Rattle.std.proofs.lemmas.Bool.{false≢true}
use Rattle.std.proofs.lemmas.List.{length_push, nil_from_length}
use Rattle.std.specs.Vec.{vec_len, vec_capacity}
use Rattle.std.specs.Vec.Iter.{into_iter_items}
use Rattle.specs.specs.Job.Steps.{world_state}
use Rattle.specs.proofs.Following.{follows_run, followed_run}
use Rattle.specs.proofs.Lasting.{gone_run, living_run}
use Rattle.specs.proofs.Runs.{run_more, taken_front}
use Rattle.specs.proofs.world.World.run.Goals as goal

pub loop-command-preserved : goal.loop-command-preserved
loop-command-preserved g c =
    let inv = c.loop-command.invariant in
    let s = c.into_iter-command-iterator.result in
    let front = taken_front s c.loop-command.yielded c.loop-command.command-iterator c.loop-command.yielded_by in
    let next : into_iter_items c.loop-command.command-iterator ≡ c.in-Some.command ∷ into_iter_items c.next.new.self = c.in-Some.ensures.steps.0 in
    let all : into_iter_items s ≡ c.args.commands.items = c.into_iter-command-iterator.ensures.into_iter_gives.0 in
    let len : vec_len c.loop-command.replies ≡ length c.loop-command.replies.items = search rules in
    let less : vec_len c.loop-command.replies < vec_capacity c.loop-command.replies = omega (arith, len, ap length (sym all ∙ front), ap length next, length-append c.loop-command.yielded (into_iter_items c.loop-command.command-iterator), inv.count, inv.room) in
    let pushed : c.push.new.self.items ≡ c.loop-command.replies.items ++ c.apply-reply.result ∷ [] = rw (c.push.ensures.succeeds less) at c.push.ensures.items in
    record {
      done = rw pushed (run_more g.S.Held.place g.S.CloneStorages.clones g.S.Held.marks g.J.WorldJob.does g.J.WorldJob.wants (world_state g.S.Held.table g.S.Held.ids c.args.self.now) (world_state g.S.Held.table g.S.Held.ids c.loop-command.self) (world_state g.S.Held.table g.S.Held.ids c.apply-reply.new.self) c.loop-command.yielded c.loop-command.replies.items c.in-Some.command c.apply-reply.result inv.done c.apply-reply.ensures.step);
      count = rw pushed (omega (arith, length_push c.loop-command.replies.items c.apply-reply.result, length_push c.loop-command.yielded c.in-Some.command, inv.count));
      room = omega (arith, inv.room, c.push.ensures.capacity);
    }

pub unreachable-requires : goal.unreachable-requires
unreachable-requires g c =
    let inv = c.loop-command.invariant in
    let s = c.into_iter-command-iterator.result in
    let front = taken_front s c.loop-command.yielded c.loop-command.command-iterator c.loop-command.yielded_by in
    let next : into_iter_items c.loop-command.command-iterator ≡ c.in-Some.command ∷ into_iter_items c.next.new.self = c.in-Some.ensures.steps.0 in
    let all : into_iter_items s ≡ c.args.commands.items = c.into_iter-command-iterator.ensures.into_iter_gives.0 in
    let len : vec_len c.loop-command.replies ≡ length c.loop-command.replies.items = search rules in
    let less : vec_len c.loop-command.replies < vec_capacity c.loop-command.replies = omega (arith, len, ap length (sym all ∙ front), ap length next, length-append c.loop-command.yielded (into_iter_items c.loop-command.command-iterator), inv.count, inv.room) in
    absurd (false≢true (rw c.in-Err.is at (c.push.ensures.succeeds less)))

pub returns-clause-run : goal.returns-clause-run
returns-clause-run g c =
    let s = c.into_iter-command-iterator.result in
    let front = taken_front s c.loop-command.yielded c.loop-command.command-iterator c.loop-command.yielded_by in
    let none : into_iter_items c.loop-command.command-iterator ≡ [] = nil_from_length _ (omega (arith, c.in-None.ensures.steps.0)) in
    let all : into_iter_items s ≡ c.args.commands.items = c.into_iter-command-iterator.ensures.into_iter_gives.0 in
    let whole : c.loop-command.yielded ≡ c.args.commands.items = sym (append-nil c.loop-command.yielded) ∙ ap (λ xs. c.loop-command.yielded ++ xs) (sym none) ∙ sym front ∙ all in
    rw (← whole) c.loop-command.invariant.done

pub returns-clause-living : goal.returns-clause-living
returns-clause-living g c = living_run g.S.Held.place g.S.CloneStorages.clones g.S.Held.marks g.J.WorldJob.does g.J.WorldJob.wants g.met.J.WorldJob.grows g.met.J.WorldJob.lives c.args.commands.items _ _ _ (returns-clause-run g c)

pub returns-clause-gone : goal.returns-clause-gone
returns-clause-gone g c = λ e. gone_run g.S.Held.place g.S.CloneStorages.clones g.S.Held.marks g.J.WorldJob.does g.J.WorldJob.wants g.met.J.WorldJob.grows c.args.commands.items _ _ _ e (returns-clause-run g c)

pub returns-clause-events : goal.returns-clause-events
returns-clause-events g c = λ slot n quiet spared living followed.
    let run = returns-clause-run g c in
    follows_run slot n (λ s. g.S.Slot.PartialEq.eq s slot) (λ s. g.met.S.Storages.exact s slot) g.S.Held.place g.S.CloneStorages.clones g.S.Held.marks g.J.WorldJob.does g.J.WorldJob.wants g.J.WorldJob.spares g.met.J.WorldJob.tells g.met.J.WorldJob.grows g.met.J.WorldJob.lives c.args.commands.items _ _ _ run
    (followed_run slot n (λ s. g.S.Slot.PartialEq.eq s slot) (λ s. g.met.S.Storages.exact s slot) g.S.Held.place g.S.CloneStorages.clones g.S.Held.marks g.J.WorldJob.does g.J.WorldJob.wants g.J.WorldJob.spares g.met.J.WorldJob.tells c.args.commands.items _ _ _ run quiet (record { followed = followed; spared = spared })) living
