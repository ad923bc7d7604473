-- What a save of a world says, of the storages of some types and of the markers.
use Rattle.std.specs.Prelude.{List}
use Rattle.entities.specs.Census.{Census, population}
use Rattle.entities.specs.declared.entity.Entity.{Entity}
use Rattle.storages.specs.Found.{found_in}
use Rattle.storages.specs.Slot.{Slot}
use Rattle.saveload.specs.Conversion.{Conversion}
use Rattle.saveload.specs.Saved.{IsSavedList, HoldsReferences, RefusesSave, all_marked}
use Rattle.saveload.specs.declared.entity_data.EntityData.{EntityData}
use Rattle.saveload.specs.declared.error.SaveError.{SaveError}
use Rattle.composed.specs.declared.saved_error.SaveWorldError.{SaveWorldError}
use Rattle.composed.specs.declared.saved_error.SaveWorldError.TheVariants.{Unregistered, Refused}

module _ {M V D L : Type 0} (c : Conversion M V D) (values : Census → L → Entity → V) (entities : Census) where
  -- the list of those that live and have a marker
  abbrev pub IsSavedOf : L → Slot M → List (EntityData M D) → Type 0
  IsSavedOf stored marks = IsSavedList c (λ e. found_in entities marks e) (λ e. values entities stored e) (all_marked (population entities) marks)

  -- each that a saved one refers to is saved too
  abbrev pub HoldsAllOf : L → Slot M → Type 0
  HoldsAllOf stored marks = HoldsReferences c (λ e. values entities stored e) (all_marked (population entities) marks)

  -- why these were not saved
  abbrev pub RefusesOf : SaveError → L → Slot M → Type 0
  RefusesOf why stored marks = RefusesSave c (λ e. found_in entities marks e) (λ e. values entities stored e) (all_marked (population entities) marks) why

-- why a world was not saved: not all is registered, or the save was refused
abbrev pub NotSaved : Type 0 → (SaveError → Type 0) → SaveWorldError → Type 0
NotSaved IsMissing IsRefused Unregistered = IsMissing
NotSaved IsMissing IsRefused (Refused why) = IsRefused why
