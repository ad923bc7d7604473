-- What an index by a key tells of a storage.
use Rattle.std.specs.Prelude.{◌≡◌, ◌<◌, ℕ, true, false, Option, List, cond}
use Rattle.std.specs.Option.{option_map}
use Rattle.std.specs.FinMap as map
use Rattle.std.specs.declared.cmp.Ordering.{Ordering}
use Rattle.hibits.specs.declared.limits.TheConstants.{INDEX_LIMIT}
use Rattle.storages.specs.declared.event.ComponentEvent.{ComponentEvent}
use Rattle.storages.specs.Slot.{Slot}
use Rattle.key_index.specs.declared.key_index.KeyIndex.{KeyIndex}
use Rattle.key_index.specs.Keys.{key_at, indices_with}
use Rattle.storages.specs.Named.{is_named, unread_in}

module _ {T Q : Type 0} (key : T → Q) where
  -- the key of the component of an index, if it has one
  abbrev pub key_in : Slot T → ℕ → Option Q
  key_in s i = option_map key (map.get s.map i)

  -- the keys that are kept are those of the storage
  pub record Keeps (kept : List (Option Q)) (s : Slot T) : Type 0 where
    pub each : (i : ℕ) → i < INDEX_LIMIT → key_at kept i ≡ key_in s i

  -- each index of which another key is kept than the storage has now stands in an event that the reader has not read
  pub record Covers (kept : List (Option Q)) (reader : ℕ) (s : Slot T) : Type 0 where
    pub each : (i : ℕ) → i < INDEX_LIMIT → is_named i (unread_in reader s) ≡ false → key_at kept i ≡ key_in s i

  -- of each index that stands in the events the key that is kept now is that of the storage, and of every other the key that was kept before
  pub record FollowsEvents (es : List ComponentEvent) (kept kept' : List (Option Q)) (s : Slot T) : Type 0 where
    pub each : (i : ℕ) → i < INDEX_LIMIT → key_at kept' i ≡ cond (is_named i es) (key_in s i) (key_at kept i)

  -- for each key the ascending list of the indices whose component in the storage has that key
  abbrev pub from_scratch : (Q → Q → Ordering) → Slot T → Q → List ℕ
  from_scratch cmp s q = indices_with cmp (key_in s) q

  -- the list of each key is that of the storage now
  pub record IsIndexOf (cmp : Q → Q → Ordering) (kept : List (Option Q)) (s : Slot T) : Type 0 where
    pub each : (q : Q) → indices_with cmp (key_at kept) q ≡ from_scratch cmp s q

module _ {T K Q : Type 0} (key : K → T → Q) where
  -- the index keeps the keys of the storage
  abbrev pub KeepsSlot : KeyIndex T K Q → Slot T → Type 0
  KeepsSlot x s = Keeps (key x.key) x.lists s

  -- each index of which it keeps another key than the storage has stands in an event that its reader has not read
  abbrev pub CoversSlot : KeyIndex T K Q → Slot T → Type 0
  CoversSlot x s = Covers (key x.key) x.lists x.reader s

  -- of each index that stood in an event which its reader had not read it keeps now the key that the storage has, and of every other the key that it kept
  abbrev pub FollowsSlot : KeyIndex T K Q → KeyIndex T K Q → Slot T → Slot T → Type 0
  FollowsSlot x x' s s' = FollowsEvents (key x.key) (unread_in x.reader s) x.lists x'.lists s'

  -- its list of each key is that of the storage
  abbrev pub IsIndexOfSlot : (Q → Q → Ordering) → KeyIndex T K Q → Slot T → Type 0
  IsIndexOfSlot cmp x s = IsIndexOf (key x.key) cmp x.lists s

module _ {T K Q : Type 0} where
  -- memory was refused to the index, and it was not refreshed since
  abbrev pub IsStale : KeyIndex T K Q → Type 0
  IsStale x = x.stale ≡ true

  abbrev pub IsFresh : KeyIndex T K Q → Type 0
  IsFresh x = x.stale ≡ false
