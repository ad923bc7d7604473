-- Markers for entities of a state.
use Rattle.std.specs.Prelude.{◌≡◌, Bool, true, Option}
use Rattle.entities.specs.declared.entity.Entity.{Entity}
use Rattle.saveload.specs.declared.mark_error.MarkError.{MarkError}
use Rattle.specs.specs.Slots.Ids.{IdsAfter}
use Rattle.specs.specs.Slots.Marks.{Markers, GivesMarker, MarkerIsRefused}
use Rattle.specs.specs.World.State.{State}

-- what a mark makes of a state, by its answer: a new marker may come next, and takes one of its slot's ids
pub record GivesMarkerIn {K V : Type 0} (marks : Markers K V) (slot : K) (e : Entity) (given : Option Bool) (old new : State K V) : Type 0 where
  pub people : new.people ≡ old.people
  pub table : GivesMarker (marks.comes slot (old.ids slot)) old.people old.table slot e given new.table
  pub ids : IdsAfter given old.ids slot new.ids

-- an entity has a marker then, if it is alive, whether it had one before or not, and the slot holds markers
pub record HasMarkerThen {K V : Type 0} (marks : Markers K V) (slot : K) (e : Entity) (old new : State K V) : Type 0 where
  pub holds : marks.holds slot ≡ true
  pub given : Option Bool
  pub gives : GivesMarkerIn marks slot e given old new

-- why an entity gets no marker; `marks` tells which slots hold markers
abbrev pub GetsNoMarker : {K V : Type 0} → Markers K V → State K V → K → Entity → MarkError → Type 0
GetsNoMarker marks s slot e r = MarkerIsRefused (marks.holds slot) (s.ids slot) s.people s.table slot e r
