use Rattle.std.proofs.Common.{subst, List}
use Rattle.storages.specs.declared.event.ComponentEvent.{ComponentEvent}
use Rattle.specs.specs.Reading.Following.{Follows, IsWatched}
use Rattle.specs.specs.World.State.{state_of}
use Rattle.specs.specs.Job.Steps.{world_state}
use Rattle.specs.proofs.Covering.{at_end, covers_field, given_none}
use Rattle.specs.proofs.indexing.indexed_runs.run_covered.Goals as goal

pub returns-clause-covered : goal.returns-clause-covered
returns-clause-covered g c = λ alone knows fresh.
    let n = c.args.index.now.reader in
    let slot = g.S.Has.the_slot in
    let old = state_of g.S.Held.table g.S.Held.ids c.args.world.now in
    let new = state_of g.S.Held.table g.S.Held.ids c.run.new.self in
    let follows = c.in_ok-replies.ensures.events slot n alone.quiet alone.watched.spared alone.living alone.watched.followed in
    let none = given_none (λ s. g.S.Slot.PartialEq.eq s slot) slot (λ s. g.met.S.Storages.exact s slot) n c.args.commands.items c.in_ok-replies.replies.items alone.unread in
    let follows' = subst (λ (es : List ComponentEvent). Follows slot n old new es) none follows in
    covers_field g.S.Has.as_value g.met.S.Has.one_to_one (g.K.KeyOf.key c.args.index.now.key) c.args.index.now.lists n slot old new (g.S.Field.part c.args.world.now.parts.core.parts.storages) (g.S.Field.part c.run.new.self.parts.core.parts.storages)
    (g.met.S.Has.sees c.args.world.now.parts.core.parts.storages) (g.met.S.Has.sees c.run.new.self.parts.core.parts.storages) alone.watched.followed follows' (knows fresh)

pub returns-clause-watched : goal.returns-clause-watched
returns-clause-watched g c = λ alone.
    let n = c.args.index.now.reader in
    let slot = g.S.Has.the_slot in
    let old = world_state g.S.Held.table g.S.Held.ids c.args.world.now in
    let new = world_state g.S.Held.table g.S.Held.ids c.run.new.self in
    at_end g.S.Held.place g.S.CloneStorages.clones g.S.Held.marks g.J.WorldJob.does g.J.WorldJob.wants (IsWatched g.J.WorldJob.spares slot n) c.args.commands.items c.in_ok-replies.replies.items old new c.in_ok-replies.ensures.run
    (c.quiet_runs.ensures slot n old new c.args.commands.items c.in_ok-replies.replies.items c.in_ok-replies.ensures.run alone.quiet alone.watched)
