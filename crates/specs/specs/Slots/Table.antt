-- Component tables: for each slot its values and its channel, or nothing where the slot is not registered.
use Rattle.std.specs.Prelude.{◌≡◌, ◌≢◌, ℕ, Option, Some, None, IsSome, IsTrue, MatchOption, length}
use Rattle.std.specs.FinSet as set
use Rattle.hibits.specs.Sets.{Layered}
use Rattle.hibits.specs.Left.{left}
use Rattle.entities.specs.declared.entity.Entity.{Entity}
use Rattle.entities.specs.declared.entity.WrongGeneration.{WrongGeneration}
use Rattle.storages.specs.declared.write_storage.TheConstants.{INSERT}
use Rattle.entities.specs.Population.{index_of, number_of, Population, IsAlive, generation_now}
use Rattle.specs.specs.Slots.Clones.{Clones, IsCloned}
use Rattle.specs.specs.Slots.Maps.{has_value, no_value}
use Rattle.specs.specs.Slots.Column.{Column, IsFresh, WantsNone, wants_memory, with_value, without_value, emptied}
use Rattle.specs.specs.declared.command.Refusal.{Refusal}
use Rattle.specs.specs.declared.command.Refusal.TheVariants.{WrongGeneration as Wrong, Unregistered, IndexLimit, OutOfMemory, Untracked, UnknownReader}

abbrev pub Table : Type 0 → Type 0 → Type 0
Table K V = K → Option (Column V)

-- the slot becomes this one, and each other slot stays
pub record Becomes {K V : Type 0} (old : Table K V) (slot : K) (column : Column V) (new : Table K V) : Type 0 where
  pub here : new slot ≡ Some column
  pub others : (s : K) → s ≢ slot → new s ≡ old s

-- the slot is as it begins, and each other slot stays
pub record Begins {K V : Type 0} (old : Table K V) (slot : K) (new : Table K V) : Type 0 where
  pub column : Column V
  pub fresh : IsFresh column
  pub becomes : Becomes old slot column new

-- a slot that was not registered begins, and a registered one stays
abbrev pub Registers : {K V : Type 0} → Table K V → K → Table K V → Type 0
Registers old slot new = MatchOption (old slot) (Begins old slot new) (λ _. new ≡ old)

-- an entity that is alive gets the value, and the one before is told
pub record Inserts {K V : Type 0} (place : V → K) (p : Population) (old : Table K V) (e : Entity) (value : V) (before : Option V) (new : Table K V) : Type 0 where
  pub column : Column V
  pub registered : old (place value) ≡ Some column
  pub alive : IsAlive p e
  pub told : before ≡ column.values (index_of e)
  pub put : Becomes old (place value) (with_value column (index_of e) value) new

-- the refused entity is not alive, and the refusal tells that it was an insertion, and the generation that its index has now
pub record InsertIsStale (p : Population) (e : Entity) (w : WrongGeneration) : Type 0 where
  pub dead : IsAlive p e → ⊥
  pub entity : w.entity ≡ e
  pub action : w.action.now ≡ INSERT.now
  pub actual : number_of w.actual_gen ≡ generation_now p (index_of e)

-- memory is wanted only by an entity that is alive, and has no value yet or somebody hears of it
pub record InsertWantsMemory {V : Type 0} (p : Population) (slot : Option (Column V)) (e : Entity) : Type 0 where
  pub column : Column V
  pub registered : slot ≡ Some column
  pub alive : IsAlive p e
  pub wanted : IsSome (column.values (index_of e)) → IsTrue (wants_memory column)

abbrev pub InsertIsRefused : {K V : Type 0} → (V → K) → Population → Table K V → Entity → V → Refusal → Type 0
InsertIsRefused place p old e value (Wrong w) = IsSome (old (place value)) × InsertIsStale p e w
InsertIsRefused place p old e value Unregistered = old (place value) ≡ None
InsertIsRefused place p old e value IndexLimit = ⊥
InsertIsRefused place p old e value OutOfMemory = InsertWantsMemory p (old (place value)) e
InsertIsRefused place p old e value Untracked = ⊥
InsertIsRefused place p old e value UnknownReader = ⊥

-- an entity that is not alive has no value
pub record Gets {K V : Type 0} (p : Population) (table : Table K V) (slot : K) (e : Entity) (found : Option V) : Type 0 where
  pub column : Column V
  pub registered : table slot ≡ Some column
  pub alive : IsAlive p e → found ≡ column.values (index_of e)
  pub dead : (IsAlive p e → ⊥) → found ≡ None

-- the same, of a clone
pub record GetsClone {K V : Type 0} (is_clone : V → V → Type 0) (p : Population) (table : Table K V) (slot : K) (e : Entity) (found : Option V) : Type 0 where
  pub column : Column V
  pub registered : table slot ≡ Some column
  pub alive : IsAlive p e → IsCloned is_clone (column.values (index_of e)) found
  pub dead : (IsAlive p e → ⊥) → found ≡ None

-- a copy may want memory only where there is a value
pub record CopyWantsMemory {V : Type 0} (p : Population) (slot : Option (Column V)) (e : Entity) : Type 0 where
  pub column : Column V
  pub registered : slot ≡ Some column
  pub alive : IsAlive p e
  pub present : IsSome (column.values (index_of e))

abbrev pub GetIsRefused : {K V : Type 0} → Clones K V → Population → Table K V → K → Entity → Refusal → Type 0
GetIsRefused clones p table slot e (Wrong w) = ⊥
GetIsRefused clones p table slot e Unregistered = table slot ≡ None
GetIsRefused clones p table slot e IndexLimit = ⊥
GetIsRefused clones p table slot e OutOfMemory = (clones.is_free slot → ⊥) × CopyWantsMemory p (table slot) e
GetIsRefused clones p table slot e Untracked = ⊥
GetIsRefused clones p table slot e UnknownReader = ⊥

pub record Removes {K V : Type 0} (p : Population) (old : Table K V) (slot : K) (e : Entity) (found : Option V) (new : Table K V) : Type 0 where
  pub column : Column V
  pub registered : old slot ≡ Some column
  pub alive : IsAlive p e → (found ≡ column.values (index_of e)) × Becomes old slot (without_value column (index_of e)) new
  pub dead : (IsAlive p e → ⊥) → (found ≡ None) × (new ≡ old)

-- a removal wants memory only where there is a value, and somebody hears of it
pub record RemovalWantsMemory {V : Type 0} (p : Population) (slot : Option (Column V)) (e : Entity) : Type 0 where
  pub column : Column V
  pub registered : slot ≡ Some column
  pub alive : IsAlive p e
  pub present : IsSome (column.values (index_of e))
  pub wanted : IsTrue (wants_memory column)

abbrev pub RemoveIsRefused : {K V : Type 0} → Population → Table K V → K → Entity → Refusal → Type 0
RemoveIsRefused p old slot e (Wrong w) = ⊥
RemoveIsRefused p old slot e Unregistered = old slot ≡ None
RemoveIsRefused p old slot e IndexLimit = ⊥
RemoveIsRefused p old slot e OutOfMemory = RemovalWantsMemory p (old slot) e
RemoveIsRefused p old slot e Untracked = ⊥
RemoveIsRefused p old slot e UnknownReader = ⊥

-- the slot has no value any more
pub record Clears {K V : Type 0} (old : Table K V) (slot : K) (new : Table K V) : Type 0 where
  pub column : Column V
  pub registered : old slot ≡ Some column
  pub cleared : Becomes old slot (emptied column) new

-- a clearing wants memory only where there is some value, and somebody hears of it
pub record ClearingWantsMemory {V : Type 0} (slot : Option (Column V)) : Type 0 where
  pub column : Column V
  pub registered : slot ≡ Some column
  pub present : column.values ≡ no_value → ⊥
  pub wanted : IsTrue (wants_memory column)

abbrev pub ClearIsRefused : {K V : Type 0} → Table K V → K → Refusal → Type 0
ClearIsRefused old slot (Wrong w) = ⊥
ClearIsRefused old slot Unregistered = old slot ≡ None
ClearIsRefused old slot IndexLimit = ⊥
ClearIsRefused old slot OutOfMemory = ClearingWantsMemory (old slot)
ClearIsRefused old slot Untracked = ⊥
ClearIsRefused old slot UnknownReader = ⊥

-- n indices have a value
pub record Counts {K V : Type 0} (table : Table K V) (slot : K) (n : ℕ) : Type 0 where
  pub column : Column V
  pub registered : table slot ≡ Some column
  pub count : n ≡ length (left (has_value column.values) 0)

-- the slot is not registered: the one refusal
abbrev pub IsUnregistered : {K V : Type 0} → Table K V → K → Refusal → Type 0
IsUnregistered table slot (Wrong w) = ⊥
IsUnregistered table slot Unregistered = table slot ≡ None
IsUnregistered table slot IndexLimit = ⊥
IsUnregistered table slot OutOfMemory = ⊥
IsUnregistered table slot Untracked = ⊥
IsUnregistered table slot UnknownReader = ⊥

-- the set has just the indices that have a value
pub record IsMask {V : Type 0} (slot : Option (Column V)) (mask : Layered) : Type 0 where
  pub column : Column V
  pub registered : slot ≡ Some column
  pub each : (i : ℕ) → set.contains mask.members i ≡ has_value column.values i

-- an event of some slot may want memory
abbrev pub WantsMemory : {K V : Type 0} → Table K V → Type 0
WantsMemory {K} {V} table = ((slot : K) → WantsNone (table slot)) → ⊥
