use Rattle.std.proofs.Common.{refl}
use Rattle.specs.specs.Indexing.{stored}
use Rattle.specs.specs.Job.Steps.{world_state}
use Rattle.specs.proofs.Covering.{followed_known, followed_there, knows_after}
use Rattle.specs.proofs.world.World.run_indexed.Goals as goal

pub returns-clause-ok : goal.returns-clause-ok
returns-clause-ok g c = λ alone knows. c.refresh_index-refreshed.ensures.ok (c.in_ok-replies.ensures.covered alone knows)

pub returns-clause-keeps : goal.returns-clause-keeps
returns-clause-keeps g c = λ alone knows. c.refresh_index-refreshed.ensures.keeps (c.in_ok-replies.ensures.covered alone knows)

pub returns-clause-there : goal.returns-clause-there
returns-clause-there g c = λ alone e.
    let ran = stored c.run_covered.new.world in
    followed_there g.S.Has.as_value c.args.index.now.reader (g.S.Field.part ran) (g.S.Held.table ran g.S.Has.the_slot) (g.met.S.Has.sees ran) (c.in_ok-replies.ensures.watched alone).followed (c.refresh_index-refreshed.ensures.unregistered e)

pub returns-clause-known : goal.returns-clause-known
returns-clause-known g c = λ alone e.
    let ran = stored c.run_covered.new.world in
    followed_known g.S.Has.as_value c.args.index.now.reader (g.S.Field.part ran) (g.S.Held.table ran g.S.Has.the_slot) (g.met.S.Has.sees ran) (c.in_ok-replies.ensures.watched alone).followed (c.refresh_index-refreshed.ensures.unknown e)

pub returns-clause-knows : goal.returns-clause-knows
returns-clause-knows g c = λ alone knows.
    knows_after c.refresh_index-refreshed.result g.K.KeyOf.key c.refresh_index-refreshed.new.index (g.S.Field.part c.refresh_index-refreshed.new.self.parts.storages)
    (returns-clause-keeps g c alone knows) (returns-clause-there g c alone) (returns-clause-known g c alone) c.refresh_index-refreshed.ensures.memory

pub returns-clause-watched : goal.returns-clause-watched
returns-clause-watched g c = λ alone.
    let watched = c.in_ok-replies.ensures.watched alone in
    record { followed = c.refresh_index-refreshed.ensures.followed watched.followed; spared = watched.spared }

pub returns-clause-run : goal.returns-clause-run
returns-clause-run g c = record {
  between = world_state g.S.Held.table g.S.Held.ids c.run_covered.new.world;
  run = c.in_ok-replies.ensures.run;
  read = c.refresh_index-refreshed.ensures.turns;
  jobs = refl;
}

pub returns-clause-living : goal.returns-clause-living
returns-clause-living g c = λ living. c.refresh_index-refreshed.ensures.living (c.in_ok-replies.ensures.living living)

pub returns-clause-gone : goal.returns-clause-gone
returns-clause-gone g c = λ e was. c.refresh_index-refreshed.ensures.gone e (c.in_ok-replies.ensures.gone e was)
