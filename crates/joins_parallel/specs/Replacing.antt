-- Replacements of components, one after another.
use Rattle.std.specs.Prelude.{◌≡◌, ℕ, ◌+◌, List, [], ◌∷◌, Option, Some, None, is_some, length}
use Rattle.std.specs.List.{AllZip}
use Rattle.std.specs.Borrow.{Bor}
use Rattle.joins.specs.Indexed.{Indexed}
use Rattle.std.specs.FinMap as map
use Rattle.std.specs.Ordering.{nat_cmp}
use Rattle.storages.specs.declared.event.ComponentEvent.TheVariants.{Modified}
use Rattle.storages.specs.Channel.{Channel, emitted}
use Rattle.storages.specs.Slot.{Slot}
use Rattle.storages.specs.Meaning.{HasRoom}

module _ {T : Type 0} where
  -- how many values there are
  abbrev pub somes : List (Option T) → ℕ
  somes [] = 0
  somes (None ∷ ys) = somes ys
  somes (Some x ∷ ys) = somes ys + 1

  -- the map after each value was put at its index, in turn
  abbrev pub put_all : List ℕ → List (Option T) → map.FinMap nat_cmp T → map.FinMap nat_cmp T
  put_all [] ys m = m
  put_all (i ∷ is) [] m = m
  put_all (i ∷ is) (None ∷ ys) m = put_all is ys m
  put_all (i ∷ is) (Some x ∷ ys) m = put_all is ys (map.insert m i x)

  -- the channel after a modification of each index that has a value, in turn
  abbrev pub modified : List ℕ → List (Option T) → Channel → Channel
  modified [] ys c = c
  modified (i ∷ is) [] c = c
  modified (i ∷ is) (None ∷ ys) c = modified is ys c
  modified (i ∷ is) (Some x ∷ ys) c = modified is ys (emitted (Modified i) c)

  -- a value, or else what there was
  abbrev pub or_else : Option T → Option T → Option T
  or_else None o = o
  or_else (Some x) o = Some x

  -- each index that has a value has it as its component, by one replacement after another
  pub record Replaces (s s' : Slot T) (is : List ℕ) (ys : List (Option T)) : Type 0 where
    pub map : s'.map ≡ put_all is ys s.map
    pub extent : s'.extent ≡ s.extent
    pub order : s'.order ≡ s.order
    pub channel : s'.channel ≡ modified is ys s.channel
    pub needs_room : is_some s'.room ≡ is_some s.room
    pub room : (n : ℕ) → HasRoom s.room (n + somes ys) → HasRoom s'.room n
    pub needs_inner : is_some s'.inner_room ≡ is_some s.inner_room
    pub inner_room : (n : ℕ) → HasRoom s.inner_room (n + somes ys) → HasRoom s'.inner_room n

module _ {T : Type 0} where
  -- a value with its index before it
  abbrev pub at_index : ℕ → Option T → Option (ℕ × T)
  at_index i None = None
  at_index i (Some x) = Some (i, x)

  -- the values that there are, each with its index before it
  abbrev pub given : List ℕ → List (Option T) → List (ℕ × T)
  given [] ys = []
  given (i ∷ is) [] = []
  given (i ∷ is) (None ∷ ys) = given is ys
  given (i ∷ is) (Some x ∷ ys) = (i, x) ∷ given is ys

  -- the map after each value was put at its index, in turn
  abbrev pub put_each : List (ℕ × T) → map.FinMap nat_cmp T → map.FinMap nat_cmp T
  put_each [] m = m
  put_each (p ∷ ps) m = put_each ps (map.insert m p.0 p.1)

  -- the channel after a modification of each index, in turn
  abbrev pub told_each : List (ℕ × T) → Channel → Channel
  told_each [] c = c
  told_each (p ∷ ps) c = told_each ps (emitted (Modified p.0) c)

  -- each value became the component of its index, by one replacement after another
  pub record PutsEach (s s' : Slot T) (ps : List (ℕ × T)) : Type 0 where
    pub keys : (q : ℕ) → map.contains_key s'.map q ≡ map.contains_key s.map q
    pub map : s'.map ≡ put_each ps s.map
    pub extent : s'.extent ≡ s.extent
    pub order : s'.order ≡ s.order
    pub channel : s'.channel ≡ told_each ps s.channel
    pub needs_room : is_some s'.room ≡ is_some s.room
    pub room : (n : ℕ) → HasRoom s.room (n + length ps) → HasRoom s'.room n
    pub needs_inner : is_some s'.inner_room ≡ is_some s.inner_room
    pub inner_room : (n : ℕ) → HasRoom s.inner_room (n + length ps) → HasRoom s'.inner_room n

-- what was answered at an index, of its component and of what stands there beside it
abbrev pub MadeAt : {T I : Type 0} → Slot T → (ℕ → I → Type 0) → (Bor T → I → Option T → Type 0) → ℕ → Option T → Type 0
MadeAt s gives answers i y = (x : Bor _) × (z : _) × (map.get s.map i ≡ Some x.now) × gives i z × answers x z y

-- what was answered of the storage paired with an index, and of what stands there beside it
abbrev pub MadeOfPaired : {T I : Type 0} → Slot T → (ℕ → I → Type 0) → (Indexed T → I → Option T → Type 0) → ℕ → Option T → Type 0
MadeOfPaired s gives answers i y = (x : Indexed _) × (z : _) × (x.slot ≡ s) × (x.index ≡ i) × gives i z × answers x z y

-- Each component at an index of a list, and what stands there beside it, was asked for a value, and each value that there was is the
-- component now, by one replacement after another.
pub record Updates {T I : Type 0} (s s' : Slot T) (is : List ℕ) (gives : ℕ → I → Type 0) (answers : Bor T → I → Option T → Type 0) : Type 0 where
  pub values : List (Option T)
  pub asked : AllZip (MadeAt s gives answers) is values
  pub replaces : Replaces s s' is values

-- the same, where the storage paired with the index was asked
pub record Remakes {T I : Type 0} (s s' : Slot T) (is : List ℕ) (gives : ℕ → I → Type 0) (answers : Indexed T → I → Option T → Type 0) : Type 0 where
  pub values : List (Option T)
  pub asked : AllZip (MadeOfPaired s gives answers) is values
  pub replaces : Replaces s s' is values

-- one index of an update: what was made of its component and of what stands beside it is its component now, or that stayed
pub record UpdatedAt {T I : Type 0} (s s' : Slot T) (i : ℕ) (gives : ℕ → I → Type 0) (answers : Bor T → I → Option T → Type 0) : Type 0 where
  pub component : Bor T
  pub item : I
  pub value : Option T
  pub was : map.get s.map i ≡ Some component.now
  pub beside : gives i item
  pub answer : answers component item value
  pub becomes : map.get s'.map i ≡ or_else value (map.get s.map i)

-- the same, where the storage paired with the index was asked
pub record RemadeAt {T I : Type 0} (s s' : Slot T) (i : ℕ) (gives : ℕ → I → Type 0) (answers : Indexed T → I → Option T → Type 0) : Type 0 where
  pub item : I
  pub value : Option T
  pub beside : gives i item
  pub answer : answers (record { slot = s; index = i }) item value
  pub becomes : map.get s'.map i ≡ or_else value (map.get s.map i)
