use Rattle.std.proofs.Common.{◌≡◌, take}
use Rattle.std.specs.List.{filter}
use Rattle.storages.specs.Life.{is_alive}
use Rattle.specs.specs.World.State.{core_state}
use Rattle.specs.proofs.world.core_parts.Core.living_of.Given as goal

abbrev pub invariant-loop-e : goal.invariant-loop-e
invariant-loop-e g l = l.living.items ≡ filter (is_alive (core_state g.S.Held.table g.S.Held.ids l.fn.self).people) (take l.e-index l.list)
