-- What the place of an index means.
use Rattle.std.specs.Prelude.{[], ◌≡◌, ℕ, Bool, true, false, Result, IsOk, OnErr}
use Rattle.std.specs.FinMap as map
use Rattle.std.specs.Borrow.{RattleType, MutBor, GName, Fml, LendsSoOk, RestsIfErr, follows_so, name_if_ok}
use Rattle.storages.specs.declared.event.ComponentEvent.TheVariants.{Modified}
use Rattle.storages.specs.declared.unprotected.Kind as kind
use Rattle.storages.specs.declared.entry.OccupiedEntry.{OccupiedEntry}
use Rattle.storages.specs.declared.entry.VacantEntry.{VacantEntry}
use Rattle.storages.specs.declared.entry.StorageEntry.{StorageEntry}
use Rattle.storages.specs.declared.entry.StorageEntry.TheVariants.{Occupied, Vacant}
use Rattle.storages.specs.contracts.masked.MaskedStorage.{the_row}
use Rattle.storages.specs.Meaning.{Meaning}
use Rattle.storages.specs.Slot.{Slot, IsSame, Becomes, Inserts}
use Rattle.storages.specs.declared.masked.Replaced.{Replaced}
use Rattle.storages.specs.Replaced.{storage_of}
use Rattle.storages.specs.Lending.{SlotWrites, SlotRefuses}
use mir.Syntax.{named}
use Rattle.storages.specs.contracts.entry.OccupiedEntry as occupied

module _ {T S : Type 0} {u : kind.Ghosts S T} where
  -- the reference to the storage
  abbrev pub entry_ref : StorageEntry T S u → MutBor (Slot T)
  entry_ref (Occupied o) = o.masked
  entry_ref (Vacant v) = v.masked

  -- the index
  abbrev pub entry_id : StorageEntry T S u → ℕ
  entry_id (Occupied o) = o.id
  entry_id (Vacant v) = v.id

  -- whether the index has a component
  abbrev pub is_occupied : StorageEntry T S u → Bool
  is_occupied (Occupied o) = true
  is_occupied (Vacant v) = false

  -- of a place with a component: the storage, the index, and which reference to the storage it holds
  abbrev pub slot_at : OccupiedEntry T S u → Slot T
  slot_at o = o.masked.now

  abbrev pub id_at : OccupiedEntry T S u → ℕ
  id_at o = o.id

  abbrev pub name_at : OccupiedEntry T S u → GName
  name_at o = o.masked.ghost_name

  -- of a place without one
  abbrev pub vacant_slot : VacantEntry T S u → Slot T
  vacant_slot v = v.masked.now

  abbrev pub vacant_id : VacantEntry T S u → ℕ
  vacant_id v = v.id

  abbrev pub vacant_name : VacantEntry T S u → GName
  vacant_name v = v.masked.ghost_name

-- what a place is after a write of x through the reference that the call answered, if it did
pub record EntryWrites {T S B E : Type 0} {u : kind.Ghosts S T} (r : Result B E) (o o' : OccupiedEntry T S u) (x : T) : Type 0 where
  pub same_reference : name_at o' ≡ name_at o
  pub id : id_at o' ≡ id_at o
  pub writes : SlotWrites r (slot_at o) (slot_at o') (id_at o) x

-- what a place is after the call answered an error, if it did
pub record EntryRefuses {T S B E : Type 0} {u : kind.Ghosts S T} (r : Result B E) (o o' : OccupiedEntry T S u) : Type 0 where
  pub same_reference : name_at o' ≡ name_at o
  pub id : id_at o' ≡ id_at o
  pub refuses : SlotRefuses r (slot_at o) (slot_at o')

module _ (T S : RattleType) (meaning : S.Denot → Meaning T.Denot) where
  abbrev pub masked_row : RattleType
  masked_row = the_row T S (record { meaning = meaning })

  abbrev pub members : kind.Ghosts S.Denot T.Denot
  members = record { meaning = meaning }

  -- once the borrow r ends, the index has the last value written through it, and after an error the slot is the same
  abbrev pub lends_occupied : {E : Type 0} → OccupiedEntry T.Denot S.Denot members → Result (MutBor T.Denot) E → Fml
  lends_occupied o r = LendsSoOk masked_row T o.masked r (λ n x. Becomes o.masked.now n (map.insert o.masked.now.map o.id x) (Modified o.id)) (λ n. IsSame o.masked.now n)

  abbrev pub lends_vacant : {E : Type 0} → VacantEntry T.Denot S.Denot members → Result (MutBor T.Denot) E → Fml
  lends_vacant v r = LendsSoOk masked_row T v.masked r (λ n x. Inserts v.masked.now n v.id x) (λ n. IsSame v.masked.now n)

module _ (T S : RattleType) {u : kind.Ghosts S.Denot T.Denot} where
  -- what the slot ends as after a write of x through the reference to an entry's value
  abbrev pub Fills : StorageEntry T.Denot S.Denot u → Slot T.Denot → T.Denot → Type 0
  Fills (Occupied o) n x = Becomes o.masked.now n (map.insert o.masked.now.map o.id x) (Modified o.id)
  Fills (Vacant v) n x = Inserts v.masked.now n v.id x

  -- once the borrow r ends, the id has the last value written through it, and after an error the slot is the same
  abbrev pub lends_entry : {E : Type 0} → StorageEntry T.Denot S.Denot u → Result (MutBor T.Denot) E → Fml
  lends_entry e r =
      follows_so (the_row T S u) T (entry_ref e).ghost_name (name_if_ok (λ x. x.ghost_name) r)
      (λ x n. IsOk r → Fills e n x)
      (λ n. OnErr r (IsSame (entry_ref e).now n))

  -- once the borrow r ends, the place has the last value written through it
  abbrev pub lends_within : {E : Type 0} → MutBor (OccupiedEntry T.Denot S.Denot u) → Result (MutBor T.Denot) E → Fml
  lends_within o r =
      follows_so (occupied.the_row (record { mir = named 1; lft = [] }) T S u) T o.ghost_name (name_if_ok (λ x. x.ghost_name) r)
      (λ x n. EntryWrites r o.now n x)
      (λ n. EntryRefuses r o.now n)

  -- where nothing was put, the slot stays
  abbrev pub rests_occupied : {E : Type 0} → OccupiedEntry T.Denot S.Denot u → Result (Replaced T.Denot S.Denot) E → Fml
  rests_occupied o r = RestsIfErr (the_row T S u) o.masked (λ p. (storage_of p).ghost_name) r (λ n. IsSame o.masked.now n)

  abbrev pub rests_vacant : {E : Type 0} → VacantEntry T.Denot S.Denot u → Result (Replaced T.Denot S.Denot) E → Fml
  rests_vacant v r = RestsIfErr (the_row T S u) v.masked (λ p. (storage_of p).ghost_name) r (λ n. IsSame v.masked.now n)

  abbrev pub rests_entry : {E : Type 0} → StorageEntry T.Denot S.Denot u → Result (Replaced T.Denot S.Denot) E → Fml
  rests_entry e r = RestsIfErr (the_row T S u) (entry_ref e) (λ p. (storage_of p).ghost_name) r (λ n. IsSame (entry_ref e).now n)
