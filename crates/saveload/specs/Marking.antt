-- What `mark` makes of a storage and of the ids.
use Rattle.std.specs.Prelude.{◌≡◌, ◌⊎◌, ◌+◌, ℕ, Bool, true, List, [], ◌∷◌, ◌++◌, Option, None, option_map, is_some}
use Rattle.std.specs.FinMap as map
use Rattle.entities.specs.declared.entity.Entity.{Entity}
use Rattle.entities.specs.Population.{index_of}
use Rattle.storages.specs.declared.event.ComponentEvent.TheVariants.{Inserted}
use Rattle.storages.specs.Slot.{Slot, Becomes, IsSame}
use Rattle.saveload.specs.declared.mark_error.MarkError.{MarkError}
use Rattle.saveload.specs.declared.mark_error.MarkError.TheVariants.{IdsExhausted, IdTaken, OutOfMemory}
use Rattle.saveload.specs.Naming.{put_id}

-- the entity got the marker, and its id names it
pub record Marks {M I : Type 0} (id_of : M → I) (eq : I → I → Bool) (e : Entity) (m : M) (a a' : I → Option Entity) (s s' : Slot M) : Type 0 where
  pub mapping : a' ≡ put_id eq a (id_of m) e
  pub becomes : Becomes s s' (map.insert s.map (index_of e) m) (Inserted (index_of e))

-- it got a marker whose id may be new
abbrev pub MarksNew : {M I : Type 0} → (M → I) → (I → I → Bool) → (I → Type 0) → Entity → (I → Option Entity) → (I → Option Entity) → Slot M → Slot M → Type 0
MarksNew {M} id_of eq MayBeNew e a a' s s' = (m : M) × MayBeNew (id_of m) × Marks id_of eq e m a a' s s'

-- no id is mapped otherwise, or one that may be new, to the entity
abbrev pub MayHaveGiven : {I : Type 0} → (I → I → Bool) → (I → Type 0) → Entity → (I → Option Entity) → (I → Option Entity) → Type 0
MayHaveGiven {I} eq MayBeNew e a a' = (a' ≡ a) ⊎ ((id : I) × MayBeNew id × (a' ≡ put_id eq a id e))

-- the ids are why: they are used up, the one drawn is held, or there is no memory for one
abbrev pub IsOfIds : MarkError → Type 0
IsOfIds x = (x ≡ IdsExhausted) ⊎ ((x ≡ IdTaken) ⊎ (x ≡ OutOfMemory))

-- of the new ids that are left one is taken, where it is known how many these are
abbrev pub TakesOne : Option ℕ → Option ℕ → Type 0
TakesOne left left' = left ≡ option_map (λ n. n + 1) left'

module _ {M I A : Type 0} (id_of : M → I) (eq : I → I → Bool) (MayBeNew : A → I → Type 0) (mapping : A → I → Option Entity) (ids : A → Option ℕ) where
  -- the entity keeps the marker that it had, and nothing changed, or it got a new one where it had none
  pub record MarksOnce (e : Entity) (a a' : A) (s s' : Slot M) : Type 0 where
    pub kept : is_some (map.get s.map (index_of e)) ≡ true → (s' ≡ s) × (a' ≡ a)
    pub new : map.get s.map (index_of e) ≡ None → MarksNew id_of eq (MayBeNew a) e (mapping a) (mapping a') s s' × TakesOne (ids a) (ids a')

  -- each of a list got a marker in turn, of an id that may be new then, and nothing else changed
  abbrev pub MarksInTurn : A → Slot M → List Entity → A → Slot M → Type 0
  MarksInTurn a s [] a' s' = (a' ≡ a) × (s' ≡ s)
  MarksInTurn a s (e ∷ es) a' s' = (b : A) × (t : Slot M) × MarksNew id_of eq (MayBeNew a) e (mapping a) (mapping b) s t × TakesOne (ids a) (ids b) × MarksInTurn b t es a' s'

  -- some got markers in turn, and then one was refused: at most an id that may be new is mapped besides
  pub record MarksUntil (a : A) (s : Slot M) (a' : A) (s' : Slot M) : Type 0 where
    pub added : List Entity
    pub mid : A
    pub there : Slot M
    pub marked : MarksInTurn a s added mid there
    pub same : IsSame there s'
    pub ids_left : ids a' ≡ ids mid
    pub mapped : (mapping a' ≡ mapping mid) ⊎ ((e : Entity) × MayHaveGiven eq (MayBeNew mid) e (mapping mid) (mapping a'))

  -- each of those that came to a list got a marker in turn
  abbrev pub AddsInTurn : A → Slot M → List Entity → A → Slot M → List Entity → Type 0
  AddsInTurn a s es a' s' es' = (added : List Entity) × (es' ≡ es ++ added) × MarksInTurn a s added a' s'
