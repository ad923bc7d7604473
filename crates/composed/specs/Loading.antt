-- What a load of a text into a world says, of the storages of some types and of the markers.
use Rattle.std.specs.Prelude.{◌≡◌, ◌⊎◌, Bool, ℕ, Option, Some, None, option_and_then, List, ⊤}
use Rattle.entities.specs.Census.{Census}
use Rattle.entities.specs.declared.entity.Entity.{Entity}
use Rattle.serde_json.specs.Data.{Data}
use Rattle.serde_json.specs.Read.{read}
use Rattle.storages.specs.Slot.{Slot}
use Rattle.saveload.specs.Conversion.{Conversion}
use Rattle.saveload.specs.Json.{list_from}
use Rattle.saveload.specs.Loads.{LoadsInto}
use Rattle.saveload.specs.Stops.{Partial, StopsInto}
use Rattle.saveload.specs.Told.{IsTold, StoresEach}
use Rattle.saveload.specs.declared.entity_data.EntityData.{EntityData}
use Rattle.saveload.specs.declared.error.LoadError.{LoadError}
use Rattle.saveload.specs.declared.error.LoadError.TheVariants.{NotTheForm, IndexLimit, Custom, OutOfMemory}
use Rattle.composed.specs.Stored.{OnBoth}
use Rattle.composed.specs.declared.saved_error.LoadWorldError.{LoadWorldError}
use Rattle.composed.specs.declared.saved_error.LoadWorldError.TheVariants.{Unregistered, Refused}

-- the saved list that a text is, if it is one
abbrev pub list_in : {M D : Type 0} → (Data → Option M) → (Data → Option D) → List ℕ → Option (List (EntityData M D))
list_in marker places text = option_and_then (list_from marker places) (read text)

-- what a load reads and changes: the entities, what gives the ids, the markers, and the storages of some types
pub record Stand (A M L : Type 0) : Type 0 where
  pub entities : Census
  pub allocator : A
  pub markers : Slot M
  pub stored : L

abbrev pub stand : {A M L : Type 0} → Census → A → L → Slot M → Stand A M L
stand entities allocator stored markers = record { entities = entities; allocator = allocator; markers = markers; stored = stored }

module _ {M I V D A L : Type 0} (id_of : M → I) (eq : I → I → Bool) (c : Conversion M V D) (mapping : A → I → Option Entity) (left : A → List I → Option ℕ) (rows : L → ℕ → V)
    (Changes : L → L → Type 0) where
  -- the records are loaded; the readers of each storage were told of each record once, and those of the markers of each change
  pub record LoadsRecords (Stores : L → ℕ → V → L → Type 0) (records : List (EntityData M D)) (old new : Stand A M L) : Type 0 where
    pub loads : LoadsInto id_of eq c mapping left rows old.entities old.allocator old.markers old.stored records new.entities new.allocator new.markers new.stored
    pub stores : StoresEach Stores c old.stored records new.stored
    pub changes : Changes old.stored new.stored
    pub told : IsTold old.markers new.markers

  -- the records before the refused one are loaded; the readers of each storage, and those of the markers, were told of each change
  pub record StopsRecords (Partly : Partial D V) (records : List (EntityData M D)) (why : LoadError) (old new : Stand A M L) : Type 0 where
    pub stops : StopsInto id_of eq c Partly mapping left rows old.entities old.allocator old.markers old.stored records why new.entities new.allocator new.markers new.stored
    pub changes : Changes old.stored new.stored
    pub told : IsTold old.markers new.markers

  -- the text is a list, which is loaded
  pub record LoadsList (Stores : L → ℕ → V → L → Type 0) (list : Option (List (EntityData M D))) (old new : Stand A M L) : Type 0 where
    pub records : List (EntityData M D)
    pub read : list ≡ Some records
    pub loads : LoadsRecords Stores records old new

  -- the text is a list, of which the records before the refused one are loaded
  pub record StopsList (Partly : Partial D V) (list : Option (List (EntityData M D))) (why : LoadError) (old new : Stand A M L) : Type 0 where
    pub records : List (EntityData M D)
    pub read : list ≡ Some records
    pub stops : StopsRecords Partly records why old new

-- why a text is not read: it is no list, or there is no memory
abbrev pub IsUnread : {M D : Type 0} → Option (List (EntityData M D)) → LoadError → Type 0
IsUnread list NotTheForm = list ≡ None
IsUnread list IndexLimit = ⊥
IsUnread list (Custom t) = ⊥
IsUnread list OutOfMemory = ⊤

-- why a world was not loaded: not all is registered, or the load was refused
abbrev pub NotLoaded : Type 0 → (LoadError → Type 0) → LoadWorldError → Type 0
NotLoaded IsMissing IsRefused Unregistered = IsMissing
NotLoaded IsMissing IsRefused (Refused why) = IsRefused why

-- why a world that has all was not loaded: its text is not read, and nothing changed, or a record was refused
abbrev pub IsUnreadOr : {M D L : Type 0} → Option L → Option (Slot M) → Option (List (EntityData M D)) → Type 0 → Type 0 → LoadError → Type 0
IsUnreadOr lent markers list IsSame Stops why = (OnBoth lent markers (λ s m. IsUnread list why) × IsSame) ⊎ Stops

-- nothing of a struct, of the entities and of the markers changed
abbrev pub IsSame : {F G : Type 0} → F → Census → G → F → Census → G → Type 0
IsSame fields entities marking fields' entities' marking' = (fields' ≡ fields) × (entities' ≡ entities) × (marking' ≡ marking)
