-- The law of saving and loading: one renaming.
use Rattle.std.specs.Prelude.{◌≡◌, ℕ, Bool, false, List, Option, Some, None}
use Rattle.entities.specs.declared.entity.Entity.{Entity}
use Rattle.entities.specs.Population.{Population, IsAlive, lives, index_of}
use Rattle.saveload.specs.declared.entity_data.EntityData.{EntityData}
use Rattle.saveload.specs.Conversion.{Conversion, Has}
use Rattle.saveload.specs.Saved.{IsSavedList, DistinctIds, HoldsReferences}
use Rattle.entities.specs.Census.{Census}
use Rattle.storages.specs.Slot.{Slot}
use Rattle.saveload.specs.Loads.{Loading, loading, Loads}

-- one-to-one from the entities of a list onto those that live, merged or pending
pub record IsOneToOne (es : List Entity) (people : Population) (r : Entity → Entity) : Type 0 where
  pub apart : (x y : Entity) → Has es x → Has es y → r x ≡ r y → x ≡ y
  pub into : (x : Entity) → Has es x → IsAlive people (r x)
  pub onto : (f : Entity) → IsAlive people f → (x : Entity) × Has es x × (r x ≡ f)

-- the loaded rows are the saved ones with each reference renamed, and the ids of the markers agree
pub record IsRenamed {M I V D : Type 0} (id_of : M → I) (c : Conversion M V D) (marker_of : Entity → Option M) (values : Entity → V)
    (es : List Entity) (r : Entity → Entity) (s : Loading I V) : Type 0 where
  pub rows : (x : Entity) → Has es x → s.rows (index_of (r x)) ≡ c.renamed r (values x)
  pub ids : (x : Entity) (m : M) → Has es x → marker_of x ≡ Some m → s.naming.markers (index_of (r x)) ≡ Some (id_of m)

-- each of a list is renamed by one renaming, one to one onto those that live
abbrev pub IsRenaming : {M I V D : Type 0} → (M → I) → Conversion M V D → (Entity → Option M) → (Entity → V) → List Entity → Loading I V → Type 0
IsRenaming id_of c marker_of values es s = (r : Entity → Entity) × IsOneToOne es s.naming.people r × IsRenamed id_of c marker_of values es r s

-- nobody lives, and no id is mapped
pub record IsEmpty {I V : Type 0} (s : Loading I V) : Type 0 where
  pub nobody : (i : ℕ) → lives s.naming.people i ≡ false
  pub unmapped : (id : I) → s.naming.mapping id ≡ None

-- wherever it was saved whole, with distinct ids, and nobody lived and no id was mapped before, it is renamed, one to one
abbrev pub RenamesSaved : {M I V D : Type 0} → (M → I) → Conversion M V D → List (EntityData M D) → Loading I V → Loading I V → Type 0
RenamesSaved {M} {I} {V} {D} id_of c rs old new = (marker_of : Entity → Option M) (values : Entity → V) (es : List Entity) →
    IsSavedList c marker_of values es rs → DistinctIds id_of rs → HoldsReferences c values es → IsEmpty old →
    IsRenaming id_of c marker_of values es new

abbrev pub OneRenaming : {M I V D : Type 0} → (M → I) → (I → I → Bool) → Conversion M V D → Type 0
OneRenaming {M} {I} {V} {D} id_of eq c = (marker_of : Entity → Option M) (values : Entity → V) (es : List Entity) (rs : List (EntityData M D)) (old new : Loading I V) →
    IsSavedList c marker_of values es rs → DistinctIds id_of rs → HoldsReferences c values es → IsEmpty old → Loads id_of eq c old rs new →
    IsRenaming id_of c marker_of values es new

-- the same, by what is lent to a load
abbrev pub RenamesInto : {M I V D A P : Type 0} → (M → I) → Conversion M V D → (A → I → Option Entity) → (A → List I → Option ℕ) → (P → ℕ → V)
    → Census → A → Slot M → P → List (EntityData M D) → Census → A → Slot M → P → Type 0
RenamesInto id_of c mapping left rows entities a markers p rs entities' a' markers' p' =
    RenamesSaved id_of c rs (loading id_of mapping left rows entities a markers p) (loading id_of mapping left rows entities' a' markers' p')
