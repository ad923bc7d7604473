-- What a caller sees of a storage with its mask.
use Rattle.std.specs.Prelude.{◌≡◌, ◌+◌, is_some, ℕ, Bool, Option, Some, None, List, [], ◌∷◌, length, refl, cond, IsSome}
use Rattle.std.specs.Ordering.{nat_cmp}
use Rattle.std.specs.FinMap as map
use Rattle.std.specs.FinSet as set
use Rattle.std.specs.Coded.{Coded, code_by, coded×, coded_ℕ, coded_bool, coded_list, coded_option}
use Rattle.hibits.specs.Left.{left}
use Rattle.storages.specs.contracts.event.ComponentEvent as event
use Rattle.storages.specs.declared.event.ComponentEvent.{ComponentEvent}
use Rattle.storages.specs.declared.event.ComponentEvent.TheVariants.{Inserted, Modified, Removed}
use Rattle.storages.specs.Channel.{Channel, emitted, emitted_removals}
use Rattle.storages.specs.Heard.{Tells, removals}
use Rattle.storages.specs.Meaning.{Meaning, HasRoom, OrderAfter, extent_after, extent_cleared}

-- the component at each index that has one, the length of a slice that has each component at the place of its index,
-- the index of each place of a slice without gaps, the channel, and for how many events there is room, here and in the
-- storage that a tracked one holds
pub record Slot (T : Type 0) : Type 0 where
  pub map : map.FinMap nat_cmp T
  pub extent : Option ℕ
  pub order : List ℕ
  pub channel : Channel
  pub room : Option ℕ
  pub inner_room : Option ℕ

-- a channel is stored as the tuple of its fields
abbrev pub channel_code : Coded Channel
channel_code =
    code_by
    (ℕ × (List (ℕ × List ComponentEvent) × (Bool × Bool)))
    (coded× coded_ℕ (coded× (coded_list (coded× coded_ℕ (coded_list event.the_row.coded))) (coded× coded_bool coded_bool)))
    (λ c. (c.registered, (c.readers, (c.emission, c.tracked))))
    (λ p. record { registered = p.0; readers = p.1.0; emission = p.1.1.0; tracked = p.1.1.1 })
    (λ _. refl)

-- and so is a slot
abbrev pub slot_code : {T : Type 0} → Coded T → Coded (Slot T)
slot_code {T} code =
    code_by
    (map.FinMap nat_cmp T × (Option ℕ × (List ℕ × (Channel × (Option ℕ × Option ℕ)))))
    (coded× (map.code coded_ℕ code) (coded× (coded_option coded_ℕ) (coded× (coded_list coded_ℕ) (coded× channel_code (coded× (coded_option coded_ℕ) (coded_option coded_ℕ))))))
    (λ s. (s.map, (s.extent, (s.order, (s.channel, (s.room, s.inner_room))))))
    (λ p. record { map = p.0; extent = p.1.0; order = p.1.1.0; channel = p.1.1.1.0; room = p.1.1.1.1.0; inner_room = p.1.1.1.1.1 })
    (λ _. refl)

module _ {T : Type 0} where
  -- the map with what there is for the index
  abbrev pub with_option : map.FinMap nat_cmp T → ℕ → Option T → map.FinMap nat_cmp T
  with_option m i None = m
  with_option m i (Some x) = map.insert m i x

  -- the values at the indices
  abbrev pub map_of : List ℕ → (ℕ → Option T) → map.FinMap nat_cmp T
  map_of [] at = map.empty
  map_of (i ∷ is) at = with_option (map_of is at) i (at i)

  -- the slot of a mask and a storage
  abbrev pub slot_of : set.FinSet nat_cmp → Meaning T → Slot T
  slot_of mask m = record { map = map_of (set.items mask) m.at; extent = m.extent; order = m.order; channel = m.channel; room = m.room; inner_room = m.inner_room }

  -- the indices that have a component, ascending
  abbrev pub indices_of : Slot T → List ℕ
  indices_of s = left (λ i. map.contains_key s.map i) 0

  -- the same indices have a component
  pub record SameKeys (s s' : Slot T) : Type 0 where
    pub key : (q : ℕ) → map.contains_key s'.map q ≡ map.contains_key s.map q

  -- nothing changed that a caller can see
  pub record IsSame (s s' : Slot T) : Type 0 where
    pub map : s'.map ≡ s.map
    pub extent : s'.extent ≡ s.extent
    pub order : s'.order ≡ s.order
    pub channel : s'.channel ≡ s.channel
    pub needs_room : is_some s'.room ≡ is_some s.room
    pub room : (n : ℕ) → HasRoom s.room n → HasRoom s'.room n
    pub needs_inner : is_some s'.inner_room ≡ is_some s.inner_room
    pub inner_room : (n : ℕ) → HasRoom s.inner_room n → HasRoom s'.inner_room n

  -- the map is the one given, after a call that emits one event
  pub record Becomes (s s' : Slot T) (m : map.FinMap nat_cmp T) (e : ComponentEvent) : Type 0 where
    pub map : s'.map ≡ m
    pub extent : s'.extent ≡ extent_after e s.extent
    pub order : OrderAfter e s.order s'.order
    pub channel : s'.channel ≡ emitted e s.channel
    pub told : Tells s.channel (e ∷ []) s'.channel
    pub needs_room : is_some s'.room ≡ is_some s.room
    pub room : (n : ℕ) → HasRoom s.room (n + 1) → HasRoom s'.room n
    pub needs_inner : is_some s'.inner_room ≡ is_some s.inner_room
    pub inner_room : (n : ℕ) → HasRoom s.inner_room (n + 1) → HasRoom s'.inner_room n

  -- x is put at the index, which is told as a change where a component was there, and else as an insertion
  abbrev pub Puts : Slot T → Slot T → ℕ → T → Bool → Type 0
  Puts s s' id x was_there = Becomes s s' (map.insert s.map id x) (cond was_there (Modified id) (Inserted id))

  -- the component at the index is taken out, which is told
  abbrev pub Takes : Slot T → Slot T → ℕ → Type 0
  Takes s s' id = Becomes s s' (map.remove s.map id) (Removed id)

  -- the map has x at the index, after an insertion and a write: two events
  pub record Inserts (s s' : Slot T) (id : ℕ) (x : T) : Type 0 where
    pub map : s'.map ≡ map.insert s.map id x
    pub extent : s'.extent ≡ extent_after (Inserted id) s.extent
    pub channel : s'.channel ≡ emitted (Modified id) (emitted (Inserted id) s.channel)
    pub told : Tells s.channel (Inserted id ∷ Modified id ∷ []) s'.channel
    pub needs_room : is_some s'.room ≡ is_some s.room
    pub room : (n : ℕ) → HasRoom s.room (n + 1 + 1) → HasRoom s'.room n
    pub needs_inner : is_some s'.inner_room ≡ is_some s.inner_room
    pub inner_room : (n : ℕ) → HasRoom s.inner_room (n + 1 + 1) → HasRoom s'.inner_room n

  -- n and as many events as a write to the index emits: a modification, after an insertion where it has no component
  abbrev pub and_events_at : Slot T → ℕ → ℕ → ℕ
  and_events_at s id n = cond (map.contains_key s.map id) (n + 1) (n + 1 + 1)

  -- the map has x at the index, after a write to the component, or to one that was inserted where there was none
  pub record Fills (s s' : Slot T) (id : ℕ) (x : T) : Type 0 where
    pub extent : s'.extent ≡ cond (map.contains_key s.map id) s.extent (extent_after (Inserted id) s.extent)
    pub order : IsSome (map.get s.map id) → s'.order ≡ s.order
    pub channel : s'.channel ≡ emitted (Modified id) (cond (map.contains_key s.map id) s.channel (emitted (Inserted id) s.channel))
    pub told : Tells s.channel (cond (map.contains_key s.map id) (Modified id ∷ []) (Inserted id ∷ Modified id ∷ [])) s'.channel
    pub needs_room : is_some s'.room ≡ is_some s.room
    pub room : (n : ℕ) → HasRoom s.room (and_events_at s id n) → HasRoom s'.room n
    pub needs_inner : is_some s'.inner_room ≡ is_some s.inner_room
    pub inner_room : (n : ℕ) → HasRoom s.inner_room (and_events_at s id n) → HasRoom s'.inner_room n
    pub map : s'.map ≡ map.insert s.map id x

  -- there is no component any more, and the removals of all were emitted, ascending, which took room for as many events
  pub record Clears (s s' : Slot T) : Type 0 where
    pub map : s'.map ≡ map.empty
    pub extent : s'.extent ≡ extent_cleared s.extent
    pub channel : s'.channel ≡ emitted_removals (indices_of s) s.channel
    pub told : Tells s.channel (removals (indices_of s)) s'.channel
    pub needs_room : is_some s'.room ≡ is_some s.room
    pub room : (n : ℕ) → HasRoom s.room (length (indices_of s) + n) → HasRoom s'.room n
    pub needs_inner : is_some s'.inner_room ≡ is_some s.inner_room
    pub inner_room : (n : ℕ) → HasRoom s.inner_room (length (indices_of s) + n) → HasRoom s'.inner_room n
