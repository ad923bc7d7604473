-- What a storage beside the entities means.
use Rattle.std.specs.Prelude.{OnErr, IsOk, ◌≡◌, ℕ, ℤ, List, Bool, true, false, Option, Result, []}
use Rattle.std.specs.Borrow.{RattleType, MutBor, GName, Fml, follows_so, name_if_ok, Lends, LendsIfOk, Array}
use mir.Syntax.{named}
use Rattle.entities.specs.Census.{Census}
use Rattle.entities.specs.declared.entity.Entity.{Entity}
use Rattle.entities.specs.Population.{index_of, number_of}
use Rattle.storages.specs.declared.write_storage.InsertError.{InsertError}
use Rattle.storages.specs.declared.write_storage.InsertError.TheVariants.{WrongGeneration as Stale, OutOfMemory}
use Rattle.storages.specs.declared.write_storage.WriteStorage.{WriteStorage}
use Rattle.storages.specs.contracts.write_storage.WriteStorage.{the_row}
use Rattle.storages.specs.contracts.masked.MaskedStorage as masked
use Rattle.storages.specs.Meaning.{Meaning}
use Rattle.storages.specs.Slot.{Slot, IsSame, Fills}
use Rattle.storages.specs.Lending.{SlotWrites, SlotRefuses}
use Rattle.storages.specs.SliceLends.{with_slice, left_as}
use Rattle.storages.specs.Found.{found_in}

module _ {T S : Type 0} where
  -- the storage behind the view
  abbrev pub slot : WriteStorage T S → Slot T
  slot v = v.data.now

  -- the entities beside it
  abbrev pub entities_of : WriteStorage T S → Census
  entities_of v = v.entities.now

  -- which reference to a storage the view holds
  abbrev pub storage_name : WriteStorage T S → GName
  storage_name v = v.data.ghost_name

  -- the view with another slot
  abbrev pub with_slot : WriteStorage T S → Slot T → WriteStorage T S
  with_slot v s = let b = v.data in record v { «data» = record b { now = s } }

  -- the component of an entity that is alive
  abbrev pub found : WriteStorage T S → Entity → Option T
  found v e = found_in (entities_of v) (slot v) e

-- why a component was not inserted: the entity is not alive, and its index has this generation now, or memory was refused. It is handed back
abbrev pub IsInsertError : {T : Type 0} → InsertError T → Entity → T → List ℕ → Bool → ℤ → Type 0
IsInsertError (Stale w x) e value action alive actual = (alive ≡ false) × (w.entity ≡ e) × (w.action.now ≡ action) × (number_of w.actual_gen ≡ actual) × (x ≡ value)
IsInsertError (OutOfMemory x) e value action alive actual = (alive ≡ true) × (x ≡ value)

-- what the view is after a write of x through the reference that the call answered, if it did
pub record ViewWrites {T S B E : Type 0} (r : Result B E) (v v' : WriteStorage T S) (id : ℕ) (x : T) : Type 0 where
  pub same_reference : v'.data.ghost_name ≡ v.data.ghost_name
  pub entities : v'.entities ≡ v.entities
  pub writes : SlotWrites r (slot v) (slot v') id x

-- what the view is after the call answered an error, if it did
pub record ViewRefuses {T S B E : Type 0} (r : Result B E) (v v' : WriteStorage T S) : Type 0 where
  pub same_reference : v'.data.ghost_name ≡ v.data.ghost_name
  pub entities : v'.entities ≡ v.entities
  pub refuses : SlotRefuses r (slot v) (slot v')

-- what the view is after a write of x through the reference that the call answered, if it did, to a component or to one that was inserted
pub record ViewFills {T S B E : Type 0} (r : Result B E) (v v' : WriteStorage T S) (id : ℕ) (x : T) : Type 0 where
  pub same_reference : v'.data.ghost_name ≡ v.data.ghost_name
  pub entities : v'.entities ≡ v.entities
  pub fills : IsOk r → Fills (slot v) (slot v') id x

-- what the view is after that call answered an error, if it did
pub record ViewStays {T S B E : Type 0} (r : Result B E) (v v' : WriteStorage T S) : Type 0 where
  pub same_reference : v'.data.ghost_name ≡ v.data.ghost_name
  pub entities : v'.entities ≡ v.entities
  pub same : OnErr r (IsSame (slot v) (slot v'))

module _ (T S : RattleType) (meaning : S.Denot → Meaning T.Denot) (v : MutBor (WriteStorage T.Denot S.Denot)) where
  -- once the borrow r ends, the entity has the last value written through it
  abbrev pub lends_found : {E : Type 0} → Entity → Result (MutBor T.Denot) E → Fml
  lends_found e r =
      follows_so (the_row (record { mir = named 1; lft = [] }) T S (record { meaning = meaning })) T v.ghost_name (name_if_ok (λ x. x.ghost_name) r)
      (λ x n. ViewWrites r v.now n (index_of e) x)
      (λ n. ViewRefuses r v.now n)

  -- once the borrow ends, the view has the slot that was left there
  abbrev pub lends_masked : MutBor (Slot T.Denot) → Fml
  lends_masked r =
      Lends (the_row (record { mir = named 1; lft = [] }) T S (record { meaning = meaning })) (masked.the_row T S (record { meaning = meaning })) v r (with_slot v.now)

  -- the same where the call answered a reference, and else the view stays
  abbrev pub lends_live : {E : Type 0} → Result (MutBor (Slot T.Denot)) E → Fml
  lends_live r =
      LendsIfOk (the_row (record { mir = named 1; lft = [] }) T S (record { meaning = meaning })) (masked.the_row T S (record { meaning = meaning })) v r (with_slot v.now) v.now

  -- once the borrow r ends, the entity has the last value written through it, if it is alive
  abbrev pub lends_filled : {E : Type 0} → Entity → Result (MutBor T.Denot) E → Fml
  lends_filled e r =
      follows_so (the_row (record { mir = named 1; lft = [] }) T S (record { meaning = meaning })) T v.ghost_name (name_if_ok (λ x. x.ghost_name) r)
      (λ x n. ViewFills r v.now n (index_of e) x)
      (λ n. ViewStays r v.now n)

-- once the borrow r ends, each index that has a component has what was left at its place, and nothing else changed
abbrev pub lends_slice : (T S : RattleType) (meaning : S.Denot → Meaning T.Denot) (item_at : List ℕ → List T.Denot → ℕ → Option T.Denot)
    → MutBor (WriteStorage T.Denot S.Denot) → MutBor (List T.Denot) → Fml
lends_slice T S meaning item_at v r =
    Lends (the_row (record { mir = named 1; lft = [] }) T S (record { meaning = meaning })) (Array T 0) v r
    (λ xs. with_slot v.now (with_slice item_at (slot v.now) (left_as r.now xs)))
