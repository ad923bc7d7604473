-- Markers for entities.
use Rattle.std.specs.Prelude.{◌≡◌, ℕ, Bool, true, false, Option, Some, None, IsSome}
use Rattle.entities.specs.declared.entity.Entity.{Entity}
use Rattle.entities.specs.Population.{index_of, Population, IsAlive}
use Rattle.saveload.specs.declared.mark_error.MarkError.{MarkError}
use Rattle.saveload.specs.declared.mark_error.MarkError.TheVariants.{Unregistered, NoMarker, IdsExhausted, IdTaken, OutOfMemory}
use Rattle.saveload.specs.Naming.{put_id}
use Rattle.specs.specs.Slots.Column.{Column, with_value}
use Rattle.specs.specs.Slots.Table.{Table, Becomes}

-- which slots hold markers, and which values a new one of a slot may be while so many ids are left
pub record Markers (K V : Type 0) : Type 1 where
  pub holds : K → Bool
  pub comes : K → Option ℕ → V → Type 0

-- no slot holds markers
abbrev pub no_markers : {K V : Type 0} → Markers K V
no_markers = record { holds = λ _. false; comes = λ _ _ _. ⊥ }

-- an entity that is alive and has no marker in the slot
pub record LacksMarker {V : Type 0} (p : Population) (slot : Option (Column V)) (e : Entity) : Type 0 where
  pub column : Column V
  pub registered : slot ≡ Some column
  pub alive : IsAlive p e
  pub absent : column.values (index_of e) ≡ None

-- an entity that is alive and has one
pub record HasMarker {V : Type 0} (p : Population) (slot : Option (Column V)) (e : Entity) : Type 0 where
  pub column : Column V
  pub registered : slot ≡ Some column
  pub alive : IsAlive p e
  pub present : IsSome (column.values (index_of e))

-- an entity that is alive and has no marker in the slot gets one that may come next
pub record GetsMarker {K V : Type 0} (Comes : V → Type 0) (p : Population) (old : Table K V) (slot : K) (e : Entity) (new : Table K V) : Type 0 where
  pub column : Column V
  pub registered : old slot ≡ Some column
  pub alive : IsAlive p e
  pub absent : column.values (index_of e) ≡ None
  pub value : V
  pub comes : Comes value
  pub put : Becomes old slot (with_value column (index_of e) value) new

-- the answer of a mark: none for an entity that is not alive, whether the marker is new for one that is
abbrev pub GivesMarker : {K V : Type 0} → (V → Type 0) → Population → Table K V → K → Entity → Option Bool → Table K V → Type 0
GivesMarker Comes p old slot e None new = IsSome (old slot) × (IsAlive p e → ⊥) × (new ≡ old)
GivesMarker Comes p old slot e (Some false) new = HasMarker p (old slot) e × (new ≡ old)
GivesMarker Comes p old slot e (Some true) new = GetsMarker Comes p old slot e new

-- Why an entity gets no marker, in a slot that holds markers or does not, with so many ids left: an id, or memory, is wanted only in a slot of
-- markers, for an entity that is alive and has none; the ids are used up only where none is left, memory is wanted only where that can't be, and one is taken only where it can't be told.
abbrev pub MarkerIsRefused : {K V : Type 0} → Bool → Option ℕ → Population → Table K V → K → Entity → MarkError → Type 0
MarkerIsRefused holds_markers left p table slot e Unregistered = table slot ≡ None
MarkerIsRefused holds_markers left p table slot e NoMarker = IsSome (table slot) × (holds_markers ≡ false)
MarkerIsRefused holds_markers left p table slot e IdsExhausted = LacksMarker p (table slot) e × (holds_markers ≡ true) × (left ≡ Some 0)
MarkerIsRefused holds_markers left p table slot e IdTaken = LacksMarker p (table slot) e × (holds_markers ≡ true) × (left ≡ None)
MarkerIsRefused holds_markers left p table slot e OutOfMemory = LacksMarker p (table slot) e × (holds_markers ≡ true) × (left ≡ Some 0 → ⊥)

-- the marker's id may be new, and names the entity now; no other is mapped otherwise
abbrev pub IsGiven : {M I : Type 0} → (M → I) → (I → I → Bool) → (I → Type 0) → Entity → (I → Option Entity) → (I → Option Entity) → M → Type 0
IsGiven id_of eq MayBeNew e mapping mapping' m = MayBeNew (id_of m) × (mapping' ≡ put_id eq mapping (id_of m) e)

-- the same of one field
pub record FieldGetsMarker {V : Type 0} (Comes : V → Type 0) (p : Population) (old : Option (Column V)) (e : Entity) (new : Option (Column V)) : Type 0 where
  pub column : Column V
  pub registered : old ≡ Some column
  pub alive : IsAlive p e
  pub absent : column.values (index_of e) ≡ None
  pub value : V
  pub comes : Comes value
  pub now : new ≡ Some (with_value column (index_of e) value)

abbrev pub FieldGivesMarker : {V : Type 0} → (V → Type 0) → Population → Option (Column V) → Entity → Option Bool → Option (Column V) → Type 0
FieldGivesMarker Comes p old e None new = IsSome old × (IsAlive p e → ⊥) × (new ≡ old)
FieldGivesMarker Comes p old e (Some false) new = HasMarker p old e × (new ≡ old)
FieldGivesMarker Comes p old e (Some true) new = FieldGetsMarker Comes p old e new

-- the same, where its marker is given by an allocator
abbrev pub FieldGivesId : {M I : Type 0} → (M → I) → (I → I → Bool) → (I → Type 0) → (I → Option Entity) → (I → Option Entity) → Population → Option (Column M) → Entity
    → Option Bool → Option (Column M) → Type 0
FieldGivesId id_of eq MayBeNew mapping mapping' p old e = FieldGivesMarker (IsGiven id_of eq MayBeNew e mapping mapping') p old e

abbrev pub FieldMarkerIsRefused : {V : Type 0} → Option ℕ → Population → Option (Column V) → Entity → MarkError → Type 0
FieldMarkerIsRefused left p field e Unregistered = field ≡ None
FieldMarkerIsRefused left p field e NoMarker = ⊥
FieldMarkerIsRefused left p field e IdsExhausted = LacksMarker p field e × (left ≡ Some 0)
FieldMarkerIsRefused left p field e IdTaken = LacksMarker p field e × (left ≡ None)
FieldMarkerIsRefused left p field e OutOfMemory = LacksMarker p field e × (left ≡ Some 0 → ⊥)
