-- Components that are let go without their entities.
use Rattle.std.specs.Prelude.{◌≡◌, List}
use Rattle.std.specs.Option.{option_map}
use Rattle.std.specs.List.{filter}
use Rattle.entities.specs.declared.entity.Entity.{Entity}
use Rattle.storages.specs.Life.{is_alive}
use Rattle.specs.specs.Slots.Column.{without_values}
use Rattle.specs.specs.World.State.{State}

-- of a list the entities that are alive lose their components, each slot's removals told in the list's order, and nothing else changes
pub record DropsComponents {K V : Type 0} (es : List Entity) (old new : State K V) : Type 0 where
  pub people : new.people ≡ old.people
  pub table : (s : K) → new.table s ≡ option_map (without_values (filter (is_alive old.people) es)) (old.table s)
  pub ids : new.ids ≡ old.ids
