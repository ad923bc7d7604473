-- What a core with a storage to write to means.
use Rattle.std.specs.Prelude.{◌≡◌, ◌⊎◌, ℕ, Option, Some, Result, IsOk, []}
use Rattle.std.specs.Borrow.{RattleType, RestsIfErr, Lends, MutBor, Fml, follows_so, name_if_ok}
use mir.Syntax.{named}
use Rattle.storages.specs.Meaning.{Meaning}
use Rattle.storages.specs.Slot.{Slot}
use Rattle.storages.specs.Lending.{SlotWrites, SlotRefuses}
use Rattle.entities.specs.declared.entity.Entity.{Entity}
use Rattle.entities.specs.Population.{index_of}
use Rattle.storages.specs.contracts.masked.MaskedStorage as masked
use Rattle.specs.specs.Laws.Gone.{KeepsGone}
use Rattle.specs.specs.Slots.Ids.{Ids}
use Rattle.specs.specs.Laws.Reached.{KeepsLiving}
use Rattle.specs.specs.Slots.Table.{Table}
use Rattle.specs.specs.World.State.{State, core_state}
use Rattle.specs.specs.contracts.typed.writing.Writing as view
use Rattle.specs.specs.contracts.world.core_parts.Core.{the_row}
use Rattle.specs.specs.declared.world.core_parts.Core.{Core}
use Rattle.specs.specs.declared.typed.writing.Writing.{Writing}

module _ {S T I : Type 0} where
  -- the core that it was lent
  abbrev pub lent : Writing S T I → MutBor (Core S)
  lent w = w.core

  -- the core's storages
  abbrev pub storages_of : Writing S T I → S
  storages_of w = (lent w).now.parts.storages

  -- what the core shows
  abbrev pub shown : {K V : Type 0} → (S → Table K V) → (S → Ids K) → Writing S T I → State K V
  shown table ids w = core_state table ids (lent w).now

-- without a storage the core ends as it was
abbrev pub RestsUnregistered : (S : RattleType) {T I E : Type 0} → MutBor (Core S.Denot) → Result (Writing S.Denot T I) E → Fml
RestsUnregistered S c r = RestsIfErr (the_row S) c (λ w. (lent w).ghost_name) r (λ n. n ≡ c.now)

-- a core with other storages
abbrev pub with_storages : {S : Type 0} → Core S → S → Core S
with_storages c s = let p = c.parts in record c { parts = record p { storages = s } }

-- it has the storage as it was left
abbrev pub LendsMasked : (S T I K : RattleType) (meaning : K.Denot → Meaning T.Denot) → MutBor (Writing S.Denot T.Denot I.Denot) → MutBor (Slot T.Denot) → (Slot T.Denot → S.Denot) → Fml
LendsMasked S T I K meaning v r F =
    Lends (view.the_row (record { mir = named 1; lft = [] }) S T I) (masked.the_row T K (record { meaning = meaning })) v r
    (λ w. let b = lent v.now in record v.now { core = record b { now = with_storages b.now (F w) } })

abbrev pub LendsHere : (S T K : RattleType) (meaning : K.Denot → Meaning T.Denot) → MutBor S.Denot → MutBor (Slot T.Denot) → (Slot T.Denot → S.Denot) → Fml
LendsHere S T K meaning s r F = Lends S (masked.the_row T K (record { meaning = meaning })) s r F

-- what a struct is after a write of x through the reference that the call answered, if it did
pub record ValueWrites {S T B E : Type 0} (part : S → Option (Slot T)) (with_part : S → Slot T → S) (r : Result B E) (old new : S) (id : ℕ) (x : T) : Type 0 where
  pub slot : Slot T
  pub left : Slot T
  pub there : part old ≡ Some slot
  pub writes : SlotWrites r slot left id x
  pub now : new ≡ with_part old left

-- what it is after the call answered an error, if it did
pub record ValueRefuses {S T B E : Type 0} (part : S → Option (Slot T)) (with_part : S → Slot T → S) (r : Result B E) (old new : S) : Type 0 where
  pub slot : Slot T
  pub left : Slot T
  pub there : part old ≡ Some slot
  pub refuses : SlotRefuses r slot left
  pub now : new ≡ with_part old left

abbrev pub LendsValue : (S T : RattleType) (part : S.Denot → Option (Slot T.Denot)) (with_part : S.Denot → Slot T.Denot → S.Denot) {E : Type 0} → MutBor S.Denot → ℕ → Result (MutBor T.Denot) E → Fml
LendsValue S T part with_part s id r =
    follows_so S T s.ghost_name (name_if_ok (λ x. x.ghost_name) r)
    (λ x n. ValueWrites part with_part r s.now n id x)
    (λ n. ValueRefuses part with_part r s.now n)

-- what a view is after a write of x to the entity's component through the reference that the call answered, if it did: nobody is born or dies,
-- and a component is at the same indices
pub record ViewWrites {S T I K V B E : Type 0} (part : S → Option (Slot T)) (with_part : S → Slot T → S) (table : S → Table K V) (ids : S → Ids K)
    (r : Result B E) (v v' : Writing S T I) (id : ℕ) (x : T) : Type 0 where
  pub same_reference : (lent v').ghost_name ≡ (lent v).ghost_name
  pub writes : IsOk r → ValueWrites part with_part r (storages_of v) (storages_of v') id x
  pub rest : (lent v').now ≡ with_storages (lent v).now (storages_of v')
  pub living : KeepsLiving (shown table ids v) (shown table ids v')
  pub gone : KeepsGone (shown table ids v).people (shown table ids v').people

-- what it is after the call answered an error, if it did: an entity that is not alive changes nothing
pub record ViewRefuses {S T I K V B E : Type 0} (part : S → Option (Slot T)) (with_part : S → Slot T → S) (table : S → Table K V) (ids : S → Ids K)
    (r : Result B E) (v v' : Writing S T I) : Type 0 where
  pub same_reference : (lent v').ghost_name ≡ (lent v).ghost_name
  pub refuses : ValueRefuses part with_part r (storages_of v) (storages_of v') ⊎ (storages_of v' ≡ storages_of v)
  pub rest : (lent v').now ≡ with_storages (lent v).now (storages_of v')
  pub living : KeepsLiving (shown table ids v) (shown table ids v')
  pub gone : KeepsGone (shown table ids v).people (shown table ids v').people

-- once the borrow r ends, the entity has the last value written through it
abbrev pub LendsComponent : (S T I : RattleType) (part : S.Denot → Option (Slot T.Denot)) (with_part : S.Denot → Slot T.Denot → S.Denot) {K V E : Type 0}
    → (S.Denot → Table K V) → (S.Denot → Ids K) → MutBor (Writing S.Denot T.Denot I.Denot) → Entity → Result (MutBor T.Denot) E → Fml
LendsComponent S T I part with_part table ids v e r =
    follows_so (view.the_row (record { mir = named 1; lft = [] }) S T I) T v.ghost_name (name_if_ok (λ x. x.ghost_name) r)
    (λ x n. ViewWrites part with_part table ids r v.now n (index_of e) x)
    (λ n. ViewRefuses part with_part table ids r v.now n)
