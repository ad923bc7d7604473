-- The saved list of a list of entities.
use Rattle.std.specs.Prelude.{◌≡◌, ℕ, ◌&&◌, map, List, [], ◌∷◌, Option, Some}
use Rattle.std.specs.FinMap as finmap
use Rattle.std.specs.String.{string_bytes}
use Rattle.hibits.specs.Left.{left}
use Rattle.entities.specs.Population.{Population, lives, generation_now}
use Rattle.entities.specs.Census.{population}
use Rattle.storages.specs.Slot.{Slot}
use Rattle.storages.specs.declared.read_storage.ReadStorage.{ReadStorage}
use Rattle.storages.specs.declared.write_storage.WriteStorage.{WriteStorage}
use Rattle.storages.specs.ReadView.{slot as slot_read, entities_of as entities_read}
use Rattle.storages.specs.WriteView.{slot, entities_of}
use Rattle.entities.specs.declared.entity.Entity.{Entity}
use Rattle.saveload.specs.declared.entity_data.EntityData.{EntityData}
use Rattle.saveload.specs.declared.error.SaveError.{SaveError}
use Rattle.saveload.specs.declared.error.SaveError.TheVariants.{Unmarked, Custom, OutOfMemory, IdsExhausted, IdTaken}
use Rattle.saveload.specs.Conversion.{Conversion, Has, IsFirstUnnamed, IsSavedBy}

module _ {M V D : Type 0} (c : Conversion M V D) (marker_of : Entity → Option M) (values : Entity → V) where
  -- its marker, and its row with each reference replaced by a marker
  pub record IsRecord (e : Entity) (r : EntityData M D) : Type 0 where
    pub own : marker_of e ≡ Some r.marker
    pub row : IsSavedBy c marker_of (values e) r.components

  abbrev pub IsSavedList : List Entity → List (EntityData M D) → Type 0
  IsSavedList [] [] = Unit {0}
  IsSavedList [] (r ∷ rs) = ⊥
  IsSavedList (e ∷ es) [] = ⊥
  IsSavedList (e ∷ es) (r ∷ rs) = IsRecord e r × IsSavedList es rs

-- the ids of the records differ from one another
abbrev pub DistinctIds : {M I D : Type 0} → (M → I) → List (EntityData M D) → Type 0
DistinctIds id_of [] = Unit {0}
DistinctIds {M} {I} {D} id_of (r ∷ rs) = ((q : EntityData M D) → Has rs q → id_of q.marker ≡ id_of r.marker → ⊥) × DistinctIds id_of rs

-- no two entities have markers of one id
abbrev pub TellsApart : {M I : Type 0} → (M → I) → (Entity → Option M) → Type 0
TellsApart {M} id_of marker_of = (x y : Entity) (m n : M) → marker_of x ≡ Some m → marker_of y ≡ Some n → id_of m ≡ id_of n → x ≡ y

-- each entity that a saved one refers to is saved too
abbrev pub HoldsReferences : {M V D : Type 0} → Conversion M V D → (Entity → V) → List Entity → Type 0
HoldsReferences c values es = (e x : Entity) → Has es e → Has (c.references (values e)) x → Has es x

-- why a list was not saved: one of it refers to an entity for which there is no marker, or may be refused for this cause, or there is no memory
abbrev pub RefusesSave : {M V D : Type 0} → Conversion M V D → (Entity → Option M) → (Entity → V) → List Entity → SaveError → Type 0
RefusesSave c marker_of values es (Unmarked x) = (e : Entity) × Has es e × IsFirstUnnamed marker_of (c.references (values e)) x
RefusesSave c marker_of values es (Custom t) = (e : Entity) × Has es e × c.unsaved (values e) (string_bytes t)
RefusesSave c marker_of values es OutOfMemory = Unit {0}
RefusesSave c marker_of values es IdsExhausted = ⊥
RefusesSave c marker_of values es IdTaken = ⊥

-- the entity of an index, as it lives
abbrev pub entity_at : Population → ℕ → Entity
entity_at people i = (i, record { 0 = generation_now people i })

-- those that live, merged or pending, and have a marker, ascending
abbrev pub all_marked : {M : Type 0} → Population → Slot M → List Entity
all_marked people s = map (entity_at people) (left (λ i. lives people i && finmap.contains_key s.map i) 0)

-- the same, of a view of the markers
abbrev pub marked_read : {M S : Type 0} → ReadStorage M S → List Entity
marked_read markers = all_marked (population (entities_read markers)) (slot_read markers)

abbrev pub marked_by : {M S : Type 0} → WriteStorage M S → List Entity
marked_by markers = all_marked (population (entities_of markers)) (slot markers)
