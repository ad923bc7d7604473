-- Components that are changed in their places.
use Rattle.std.specs.Prelude.{◌≡◌, ℕ, List, Some, true}
use Rattle.std.specs.FinMap as map
use Rattle.std.specs.Borrow.{MutBor}
use Rattle.hibits.specs.Rows.{row_bit}
use Rattle.storages.specs.Slot.{Slot}

-- a fact of each member by a row of words
abbrev pub EachMember : List ℕ → (ℕ → Type 0) → Type 0
EachMember members P = (i : ℕ) → row_bit members i ≡ true → P i

-- a call may be made with x and with what stands beside it
abbrev pub MayBeCalled : {T I : Type 0} → (I → Type 0) → (MutBor T → I → Type 0) → T → Type 0
MayBeCalled beside pre x = (component : MutBor _) (item : _) → component.now ≡ x → beside item → pre component item

module _ {T I : Type 0} (gives : ℕ → I → Type 0) (leaves : MutBor T → I → Unit {0} → MutBor T → Type 0) where
  -- a call with what stands at the index, and a `&mut` to x, may leave y there
  pub record MayLeave (i : ℕ) (x y : T) : Type 0 where
    pub component : MutBor T
    pub component_is : component.now ≡ x
    pub item : I
    pub beside : gives i item
    pub after_call : MutBor T
    pub call : leaves component item tt after_call
    pub left : after_call.now ≡ y

  -- what a call left of the component of an index, with what stands beside it, is its component now
  pub record ChangedAt (s s' : Slot T) (i : ℕ) : Type 0 where
    pub component : T
    pub now : T
    pub was : map.get s.map i ≡ Some component
    pub made : MayLeave i component now
    pub becomes : map.get s'.map i ≡ Some now

-- components may have become others, and nothing else changed: none came or went, and no event was told
pub record OnlyChanges {T : Type 0} (s s' : Slot T) : Type 0 where
  pub keys : (q : ℕ) → map.contains_key s'.map q ≡ map.contains_key s.map q
  pub extent : s'.extent ≡ s.extent
  pub order : s'.order ≡ s.order
  pub channel : s'.channel ≡ s.channel
  pub room : s'.room ≡ s.room
  pub inner_room : s'.inner_room ≡ s.inner_room
