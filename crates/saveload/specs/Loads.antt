-- Loading: records in order.
use Rattle.std.specs.Prelude.{◌≡◌, ℕ, pos, List, [], ◌∷◌, map, Option, unwrap_or, Bool, ◌==◌, if◌then◌else◌}
use Rattle.std.specs.FinMap as finmap
use Rattle.entities.specs.declared.entity.Entity.{Entity}
use Rattle.entities.specs.Census.{Census}
use Rattle.entities.specs.Population.{index_of}
use Rattle.storages.specs.Slot.{Slot}
use Rattle.saveload.specs.declared.entity_data.EntityData.{EntityData}
use Rattle.saveload.specs.Conversion.{Conversion, GivesEach}
use Rattle.saveload.specs.Places.{place, both}
use Rattle.saveload.specs.Naming.{Naming, naming, Names, NamesAll}

-- the entity that an id is mapped to
abbrev pub entity_of : {I : Type 0} → (I → Option Entity) → I → Entity
entity_of mapping id = unwrap_or (mapping id) (0, record { 0 = pos 0 })

-- the entity that a marker names
abbrev pub named : {M I : Type 0} → (M → I) → (I → Option Entity) → M → Entity
named id_of mapping m = entity_of mapping (id_of m)

-- what a load reads and changes: names, and a row for each index
pub record Loading (I V : Type 0) : Type 0 where
  pub naming : Naming I
  pub rows : ℕ → V

-- what a load reads and changes, of its parts
abbrev pub loading : {M I V A P : Type 0} → (M → I) → (A → I → Option Entity) → (A → List I → Option ℕ) → (P → ℕ → V) → Census → A → Slot M → P → Loading I V
loading id_of mapping left rows entities allocator markers masked = record { naming = naming id_of mapping left entities allocator markers; rows = rows masked }

abbrev pub row_put : {V : Type 0} → (ℕ → V) → ℕ → V → ℕ → V
row_put rows i v j = if i == j then v else rows j

-- what was saved is put at an entity's index, by what a closure answers
abbrev pub PutsSaved : {M V D : Type 0} → Conversion M V D → (M → Option Entity → Type 0) → D → Entity → (ℕ → V) → (ℕ → V) → Type 0
PutsSaved {M} c post d e old new = (f : M → Entity) → GivesEach post (c.mentions d) f → new ≡ row_put old (index_of e) (c.loaded f d)

-- the components of a storage, by index
abbrev pub column : {T : Type 0} → Slot T → ℕ → Option T
column s i = finmap.get s.map i

-- a first storage beside the rest of the rows
abbrev pub beside : {T W : Type 0} → Slot T → (ℕ → W) → ℕ → Option T × W
beside s rest i = (column s i, rest i)

module _ {M I V D : Type 0} (id_of : M → I) (eq : I → I → Bool) (c : Conversion M V D) where
  -- first its own id, then those that its components mention; then the row is stored
  pub record LoadsRecord (old : Loading I V) (r : EntityData M D) (new : Loading I V) : Type 0 where
    pub entity : Entity
    pub mid : Naming I
    pub own : Names eq old.naming (id_of r.marker) entity mid
    pub mentioned : NamesAll eq mid (map id_of (c.mentions r.components)) new.naming
    pub rows : new.rows ≡ row_put old.rows (index_of entity) (c.loaded (named id_of new.naming.mapping) r.components)

  abbrev pub Loads : Loading I V → List (EntityData M D) → Loading I V → Type 0
  Loads old [] new = new ≡ old
  Loads old (r ∷ rs) new = (mid : Loading I V) × LoadsRecord old r mid × Loads mid rs new

-- one record of a load, and a list, by what is lent to it
module _ {M I V D A P : Type 0} (id_of : M → I) (eq : I → I → Bool) (c : Conversion M V D) (mapping : A → I → Option Entity) (left : A → List I → Option ℕ) (rows : P → ℕ → V) where
  abbrev pub LoadsOneInto : Census → A → Slot M → P → EntityData M D → Census → A → Slot M → P → Type 0
  LoadsOneInto entities a markers p r entities' a' markers' p' =
      LoadsRecord id_of eq c (loading id_of mapping left rows entities a markers p) r (loading id_of mapping left rows entities' a' markers' p')

  abbrev pub LoadsInto : Census → A → Slot M → P → List (EntityData M D) → Census → A → Slot M → P → Type 0
  LoadsInto entities a markers p rs entities' a' markers' p' =
      Loads id_of eq c (loading id_of mapping left rows entities a markers p) rs (loading id_of mapping left rows entities' a' markers' p')

-- a first place is stored, and the rest of a row
abbrev pub PutsWithRest : {M T D W E : Type 0} → Conversion M T D → Conversion M W E → (M → Option Entity → Type 0) → Option D × E → Entity
    → Slot T → (ℕ → W) → Slot T → (ℕ → W) → Type 0
PutsWithRest a r post d e first rest first' rest' = PutsSaved (both (place a) r) post d e (beside first rest) (beside first' rest')
