-- What the state of a storage means, and what each call makes of it.
use Rattle.std.specs.Prelude.{◌≡◌, ◌≢◌, ℕ, ◌+◌, ◌≤◌, max, Bool, true, false, Option, Some, None, List, [], is_some, option_map, IsTrue, Result, IsOk, OnErr, length, ◌||◌, nat_lt}
use Rattle.std.specs.Ordering.{nat_cmp}
use Rattle.std.specs.FinSet as set
use Rattle.std.specs.Borrow.{RattleType, MutBor, Fml, follows_so, name_if_ok}
use Rattle.storages.specs.declared.event.ComponentEvent.{ComponentEvent}
use Rattle.storages.specs.declared.event.ComponentEvent.TheVariants.{Inserted, Modified, Removed}
use Rattle.storages.specs.Channel.{Channel, emitted, emitted_removals, is_heard}

-- What a storage is to its callers. `at` is what `get` shows at each index, and `is_free` tells where a value may be
-- inserted. `extent` is the length of a slice that has each value at the place of its index, and `None` where there is
-- no such slice. `order` has the index of each place of a slice without gaps, and is
-- empty where there is no such slice. `room` is for how many events there is room, and `None` where no event needs any.
-- `inner_room` is the same of the storage that a tracked one holds, and so what `room` is while no event is emitted; it
-- is `None` where a storage holds none.
pub record Meaning (T : Type 0) : Type 0 where
  pub at : ℕ → Option T
  pub is_free : ℕ → Bool
  pub extent : Option ℕ
  pub order : List ℕ
  pub channel : Channel
  pub room : Option ℕ
  pub inner_room : Option ℕ

-- there is room for n events
abbrev pub HasRoom : Option ℕ → ℕ → Type 0
HasRoom None n = Unit {0}
HasRoom (Some k) n = n ≤ k

-- an insertion makes the slice reach its index, and nothing else changes its length
abbrev pub extent_after : ComponentEvent → Option ℕ → Option ℕ
extent_after (Inserted i) n = option_map (max (i + 1)) n
extent_after (Modified i) n = n
extent_after (Removed i) n = n

-- a write to a component leaves each index at its place, where there is a slice without gaps; of the other calls nothing is said
abbrev pub OrderAfter : ComponentEvent → List ℕ → List ℕ → Type 0
OrderAfter (Inserted i) o o' = Unit {0}
OrderAfter (Modified i) o o' = o' ≡ o
OrderAfter (Removed i) o o' = Unit {0}

-- the slice is empty, if there is one
abbrev pub extent_cleared : Option ℕ → Option ℕ
extent_cleared n = option_map (λ _. 0) n

-- the slice, if there is one, has a place for the index
abbrev pub reaches : Option ℕ → ℕ → Bool
reaches None i = false
reaches (Some n) i = nat_lt i n

module _ {T : Type 0} where
  -- a call on one index: the others that have a value keep it, its event is emitted, and it takes room for one event
  pub record Touches (m m' : Meaning T) (id : ℕ) (e : ComponentEvent) : Type 0 where
    pub others : (q : ℕ) → q ≢ id → IsTrue (is_some (m.at q)) → m'.at q ≡ m.at q
    pub free : (q : ℕ) → q ≢ id → m.is_free q ≡ true → m'.is_free q ≡ true
    pub extent : m'.extent ≡ extent_after e m.extent
    pub order : OrderAfter e m.order m'.order
    pub channel : m'.channel ≡ emitted e m.channel
    pub needs_room : is_some m'.room ≡ is_some m.room
    pub room : (n : ℕ) → HasRoom m.room (n + 1) → HasRoom m'.room n
    pub needs_inner : is_some m'.inner_room ≡ is_some m.inner_room
    pub inner_room : (n : ℕ) → HasRoom m.inner_room (n + 1) → HasRoom m'.inner_room n

  -- the index has the value now
  pub record Puts (m m' : Meaning T) (id : ℕ) (x : T) (e : ComponentEvent) : Type 0 where
    pub touches : Touches m m' id e
    pub put : m'.at id ≡ Some x

  -- the index is free now
  pub record Frees (m m' : Meaning T) (id : ℕ) : Type 0 where
    pub touches : Touches m m' id (Removed id)
    pub freed : m'.is_free id ≡ true

  -- nothing changed that a caller can see
  pub record Keeps (m m' : Meaning T) : Type 0 where
    pub at : (q : ℕ) → m'.at q ≡ m.at q
    pub free : (q : ℕ) → m.is_free q ≡ true → m'.is_free q ≡ true
    pub extent : m'.extent ≡ m.extent
    pub order : m'.order ≡ m.order
    pub channel : m'.channel ≡ m.channel
    pub needs_room : is_some m'.room ≡ is_some m.room
    pub room : (n : ℕ) → HasRoom m.room n → HasRoom m'.room n
    pub needs_inner : is_some m'.inner_room ≡ is_some m.inner_room
    pub inner_room : (n : ℕ) → HasRoom m.inner_room n → HasRoom m'.inner_room n

  -- every index is free, and the removals of the ids were emitted, which took room for as many events
  pub record Empties (m m' : Meaning T) (ids : List ℕ) : Type 0 where
    pub freed : (q : ℕ) → m'.is_free q ≡ true
    pub extent : m'.extent ≡ extent_cleared m.extent
    pub channel : m'.channel ≡ emitted_removals ids m.channel
    pub needs_room : is_some m'.room ≡ is_some m.room
    pub room : (n : ℕ) → HasRoom m.room (length ids + n) → HasRoom m'.room n
    pub needs_inner : is_some m'.inner_room ≡ is_some m.inner_room
    pub inner_room : (n : ℕ) → HasRoom m.inner_room (length ids + n) → HasRoom m'.inner_room n

  -- a storage as it begins: empty, with no reader, and a tracked one emits its events
  pub record IsNew (m : Meaning T) : Type 0 where
    pub free : (q : ℕ) → m.is_free q ≡ true
    pub extent : m.extent ≡ extent_cleared m.extent
    pub registered : m.channel.registered ≡ 0
    pub readers : m.channel.readers ≡ []
    pub emission : m.channel.emission ≡ m.channel.tracked
    pub room : m.room ≡ None
    pub inner_room : m.inner_room ≡ None

  -- an event needs room exactly while the inner storage's does, or a reader gets it; and room for it is room there too
  pub record IsWanted (m : Meaning T) : Type 0 where
    pub wanted : is_some m.room ≡ (is_some m.inner_room || is_heard m.channel)
    pub inner : (n : ℕ) → HasRoom m.room n → HasRoom m.inner_room n

  -- a call that writes one event cannot be refused
  abbrev pub IsReady : Meaning T → Type 0
  IsReady m = HasRoom m.room 1

  -- the place of the index is there: a value stands at it, in use or not, or the slice reaches it
  abbrev pub has_place : Meaning T → ℕ → Bool
  has_place m id = is_some (m.at id) || reaches m.extent id

  -- the set has just the indices at which there is a value
  pub record Masks (mask : set.FinSet nat_cmp) (m : Meaning T) : Type 0 where
    pub present : (q : ℕ) → set.contains mask q ≡ true → IsTrue (is_some (m.at q))
    pub absent : (q : ℕ) → set.contains mask q ≡ false → m.is_free q ≡ true

  -- the map that the storage is, where its indices are those at which `at` has a value
  pub record Shows (m : Meaning T) (at : ℕ → Option T) : Type 0 where
    pub present : (q : ℕ) → IsTrue (is_some (at q)) → m.at q ≡ at q
    pub absent : (q : ℕ) → at q ≡ None → m.is_free q ≡ true

  -- the same indices have a value, and the free ones are free
  pub record SamePresence (m m' : Meaning T) : Type 0 where
    pub present : (q : ℕ) → IsTrue (is_some (m.at q)) → IsTrue (is_some (m'.at q))
    pub free : (q : ℕ) → m.is_free q ≡ true → m'.is_free q ≡ true

  -- what the state is after a write of x through the reference that the call answered, if it did
  pub record Writes {B E : Type 0} (r : Result B E) (m m' : Meaning T) (id : ℕ) (x : T) : Type 0 where
    pub presence : SamePresence m m'
    pub puts : IsOk r → Puts m m' id x (Modified id)

  -- what the state is after the call answered an error, if it did
  pub record Refuses {B E : Type 0} (r : Result B E) (m m' : Meaning T) : Type 0 where
    pub presence : SamePresence m m'
    pub keeps : OnErr r (Keeps m m')

-- once the borrow r ends, the index has the last value written through it. That the same indices have a value is said at an error too
abbrev pub lends_at : (R T : RattleType) (meaning : R.Denot → Meaning T.Denot) {E : Type 0} → MutBor R.Denot → ℕ → Result (MutBor T.Denot) E → Fml
lends_at R T meaning s id r =
    follows_so R T s.ghost_name (name_if_ok (λ x. x.ghost_name) r)
    (λ x n. Writes r (meaning s.now) (meaning n) id x)
    (λ n. Refuses r (meaning s.now) (meaning n))
