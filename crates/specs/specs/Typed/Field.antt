-- One field as a slot, or none where its component is not registered.
use Rattle.std.specs.Prelude.{◌≡◌, ℕ, true, Option, Some, None, IsSome, is_some}
use Rattle.std.specs.FinMap as map
use Rattle.std.specs.Option.{option_map}
use Rattle.entities.specs.declared.entity.Entity.{Entity}
use Rattle.entities.specs.Population.{index_of, Population, IsAlive}
use Rattle.specs.specs.Slots.Clones.{IsCloned}
use Rattle.specs.specs.Slots.Maps.{Map}
use Rattle.specs.specs.Slots.Column.{Column, with_value, without_value, emptied}
use Rattle.specs.specs.Slots.Readers.{with_channel}
use Rattle.specs.specs.Slots.Table.{InsertIsStale, InsertWantsMemory, CopyWantsMemory, RemovalWantsMemory, ClearingWantsMemory}
use Rattle.specs.specs.declared.command.Refusal.{Refusal}
use Rattle.specs.specs.declared.command.Refusal.TheVariants.{WrongGeneration as Wrong, Unregistered, IndexLimit, OutOfMemory, Untracked, UnknownReader}
use Rattle.storages.specs.Channel.{Channel}
use Rattle.storages.specs.Slot as masked
use Rattle.storages.specs.declared.write_storage.InsertError.{InsertError}
use Rattle.storages.specs.declared.write_storage.InsertError.TheVariants.{WrongGeneration as Stale, OutOfMemory as NoMemory}

-- what a storage has at each index
abbrev pub values_of : {T : Type 0} → masked.Slot T → Map T
values_of s i = map.get s.map i

-- a storage as a slot
abbrev pub column_of : {T : Type 0} → masked.Slot T → Column T
column_of s = record { values = values_of s; channel = s.channel; inner = is_some s.inner_room }

abbrev pub field_column : {T : Type 0} → Option (masked.Slot T) → Option (Column T)
field_column field = option_map column_of field

-- for how many events a field has room, and nothing where no event needs any
abbrev pub field_room : {T : Type 0} → Option (masked.Slot T) → Option ℕ
field_room None = None
field_room (Some s) = s.room

pub record FieldInserts {V : Type 0} (p : Population) (old : Option (Column V)) (e : Entity) (value : V) (before : Option V) (new : Option (Column V)) : Type 0 where
  pub column : Column V
  pub registered : old ≡ Some column
  pub alive : IsAlive p e
  pub told : before ≡ column.values (index_of e)
  pub now : new ≡ Some (with_value column (index_of e) value)

abbrev pub FieldInsertIsRefused : {V : Type 0} → Population → Option (Column V) → Entity → Refusal → Type 0
FieldInsertIsRefused p old e (Wrong w) = IsSome old × InsertIsStale p e w
FieldInsertIsRefused p old e Unregistered = old ≡ None
FieldInsertIsRefused p old e IndexLimit = ⊥
FieldInsertIsRefused p old e OutOfMemory = InsertWantsMemory p old e
FieldInsertIsRefused p old e Untracked = ⊥
FieldInsertIsRefused p old e UnknownReader = ⊥

pub record FieldGets {V : Type 0} (p : Population) (field : Option (Column V)) (e : Entity) (found : Option V) : Type 0 where
  pub column : Column V
  pub registered : field ≡ Some column
  pub alive : IsAlive p e → found ≡ column.values (index_of e)
  pub dead : (IsAlive p e → ⊥) → found ≡ None

-- the same, of a clone
pub record FieldGetsClone {V : Type 0} (is_clone : V → V → Type 0) (p : Population) (field : Option (Column V)) (e : Entity) (found : Option V) : Type 0 where
  pub column : Column V
  pub registered : field ≡ Some column
  pub alive : IsAlive p e → IsCloned is_clone (column.values (index_of e)) found
  pub dead : (IsAlive p e → ⊥) → found ≡ None

-- the refusal of a look-up, where clones take no memory or may take some
abbrev pub FieldGetIsRefused : {V : Type 0} → Type 0 → Population → Option (Column V) → Entity → Refusal → Type 0
FieldGetIsRefused is_free p field e (Wrong w) = ⊥
FieldGetIsRefused is_free p field e Unregistered = field ≡ None
FieldGetIsRefused is_free p field e IndexLimit = ⊥
FieldGetIsRefused is_free p field e OutOfMemory = (is_free → ⊥) × CopyWantsMemory p field e
FieldGetIsRefused is_free p field e Untracked = ⊥
FieldGetIsRefused is_free p field e UnknownReader = ⊥

pub record FieldRemoves {V : Type 0} (p : Population) (old : Option (Column V)) (e : Entity) (found : Option V) (new : Option (Column V)) : Type 0 where
  pub column : Column V
  pub registered : old ≡ Some column
  pub alive : IsAlive p e → (found ≡ column.values (index_of e)) × (new ≡ Some (without_value column (index_of e)))
  pub dead : (IsAlive p e → ⊥) → (found ≡ None) × (new ≡ old)

abbrev pub FieldRemoveIsRefused : {V : Type 0} → Population → Option (Column V) → Entity → Refusal → Type 0
FieldRemoveIsRefused p old e (Wrong w) = ⊥
FieldRemoveIsRefused p old e Unregistered = old ≡ None
FieldRemoveIsRefused p old e IndexLimit = ⊥
FieldRemoveIsRefused p old e OutOfMemory = RemovalWantsMemory p old e
FieldRemoveIsRefused p old e Untracked = ⊥
FieldRemoveIsRefused p old e UnknownReader = ⊥

pub record FieldClears {V : Type 0} (old new : Option (Column V)) : Type 0 where
  pub column : Column V
  pub registered : old ≡ Some column
  pub cleared : new ≡ Some (emptied column)

abbrev pub FieldClearIsRefused : {V : Type 0} → Option (Column V) → Refusal → Type 0
FieldClearIsRefused old (Wrong w) = ⊥
FieldClearIsRefused old Unregistered = old ≡ None
FieldClearIsRefused old IndexLimit = ⊥
FieldClearIsRefused old OutOfMemory = ClearingWantsMemory old
FieldClearIsRefused old Untracked = ⊥
FieldClearIsRefused old UnknownReader = ⊥

-- only the channel of a field changed, which is tracked, and of which this is so
pub record FieldRechannels {V : Type 0} (old : Option (Column V)) (says : Channel → Type 0) (change : Channel → Channel) (new : Option (Column V)) : Type 0 where
  pub column : Column V
  pub registered : old ≡ Some column
  pub tracked : column.channel.tracked ≡ true
  pub said : says column.channel
  pub now : new ≡ Some (with_channel column (change column.channel))

-- an entity that is alive, and has a value
pub record Holds {V : Type 0} (p : Population) (field : Option (Column V)) (e : Entity) : Type 0 where
  pub column : Column V
  pub registered : field ≡ Some column
  pub alive : IsAlive p e
  pub present : IsSome (column.values (index_of e))

-- why a component was not written, with the component that is handed back
abbrev pub WriteIsRefused : {T : Type 0} → Population → Option (Column T) → Entity → T → InsertError T → Type 0
WriteIsRefused p field e value (Stale w x) = InsertIsStale p e w × (x ≡ value)
WriteIsRefused p field e value (NoMemory x) = InsertWantsMemory p field e × (x ≡ value)

-- why a view did not insert, with the component that it hands back
abbrev pub PutIsRefused : {T : Type 0} → Population → Entity → T → InsertError T → Type 0
PutIsRefused p e value (Stale w x) = InsertIsStale p e w × (x ≡ value)
PutIsRefused p e value (NoMemory x) = IsAlive p e × (x ≡ value)
