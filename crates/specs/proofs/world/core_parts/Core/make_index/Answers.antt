use Rattle.std.proofs.Common.{refl}
use Rattle.storages.specs.Tracking.{with_reader}
use Rattle.specs.specs.World.State.{core_state, parts_state}
use Rattle.specs.proofs.Covering.{living_turned}
use Rattle.specs.proofs.world.core_parts.Core.make_index.Goals as goal

pub returns-clause-living : goal.returns-clause-living
returns-clause-living g c =
    let s = c.args.self.now in
    living_turned (core_state g.S.Held.table g.S.Held.ids s) (parts_state g.S.Held.table g.S.Held.ids (record { entities = s.parts.entities; storages = c.make_in.new.storages })) g.S.Has.the_slot with_reader
    (record { people = refl; table = c.in_ok-index.ensures.turns; ids = c.make_in.ensures.ids })
