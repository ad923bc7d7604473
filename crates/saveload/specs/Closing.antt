-- The list that a recursive save saves.
use Rattle.std.specs.Prelude.{◌≡◌, ◌⊎◌, ℕ, ◌<◌, Bool, true, false, ◌||◌, List, [], ◌∷◌, ◌++◌, length, take, if◌then◌else◌, is_some, Option}
use Rattle.std.specs.List.{flat_map}
use Rattle.std.specs.FinMap as map
use Rattle.std.specs.String.{string_bytes}
use Rattle.entities.specs.declared.entity.Entity.{Entity}
use Rattle.entities.specs.Population.{Population, index_of}
use Rattle.entities.specs.Deaths.{has_index}
use Rattle.storages.specs.Slot.{Slot}
use Rattle.storages.specs.Life.{is_alive}
use Rattle.saveload.specs.declared.entity_data.EntityData.{EntityData}
use Rattle.saveload.specs.declared.error.SaveError.{SaveError}
use Rattle.saveload.specs.declared.error.SaveError.TheVariants.{Unmarked, Custom, OutOfMemory, IdsExhausted, IdTaken}
use Rattle.saveload.specs.Conversion.{Conversion, Has}
use Rattle.storages.specs.declared.write_storage.WriteStorage.{WriteStorage}
use Rattle.storages.specs.WriteView.{slot, found}
use Rattle.saveload.specs.Marking.{MarksInTurn}
use Rattle.saveload.specs.Saved.{IsSavedList, HoldsReferences, marked_by}

-- those of a list that have no mark, each once, in the order of first mention, after those there already
abbrev pub one_more : (ℕ → Bool) → List Entity → Entity → List Entity
one_more marked added x = if marked (index_of x) || has_index added (index_of x) then added else (added ++ x ∷ [])

abbrev pub add_new : (ℕ → Bool) → List Entity → List Entity → List Entity
add_new marked added [] = added
add_new marked added (x ∷ xs) = add_new marked (one_more marked added x) xs

abbrev pub new_in : (ℕ → Bool) → List Entity → List Entity
new_in marked xs = add_new marked [] xs

abbrev pub marked_in : {M : Type 0} → Slot M → ℕ → Bool
marked_in s j = is_some (map.get s.map j)

-- the first ones, then each that has no mark and that an earlier one refers to, once, in the order of first mention
pub record IsClosed (marked : ℕ → Bool) (refs : Entity → List Entity) (start es : List Entity) : Type 0 where
  pub list : es ≡ start ++ new_in marked (flat_map refs es)
  pub earlier : (i : ℕ) → i < length es → i < length (start ++ new_in marked (flat_map refs (take i es)))

-- just these have got a mark
pub record HasMarked {M : Type 0} (s s' : Slot M) (added : List Entity) : Type 0 where
  pub marks : (j : ℕ) → marked_in s' j ≡ (marked_in s j || has_index added j)
  pub kept : (j : ℕ) → marked_in s j ≡ true → map.get s'.map j ≡ map.get s.map j

-- those of a list, those that they refer to, and so on
pub data LeadsTo (refs : Entity → List Entity) (start : List Entity) : Entity → Type 0 where
  first : (e : Entity) → Has start e → LeadsTo refs start e
  next : (e x : Entity) → LeadsTo refs start e → Has (refs e) x → LeadsTo refs start x

-- one of them refers to it
abbrev pub IsMentioned : (Entity → List Entity) → List Entity → Entity → Type 0
IsMentioned refs start x = (e : Entity) × LeadsTo refs start e × Has (refs e) x

-- each of a list is alive
abbrev pub AllAlive : Population → List Entity → Type 0
AllAlive people xs = (x : Entity) → Has xs x → is_alive people x ≡ true

-- just those of a list have marks that stand before some last ones; each that stands there is alive
pub record MarksBefore {M : Type 0} (people : Population) (xs : List Entity) (s s' : Slot M) (after : List Entity) : Type 0 where
  pub before : List Entity
  pub parts : xs ≡ before ++ after
  pub alive : AllAlive people before
  pub marked : HasMarked s s' (new_in (marked_in s) before)

-- just those have marks to which the first ones refer, of those that are led to, and of what the next refers to those before some last ones; each that is referred to there is alive
pub record MarksUpTo {M : Type 0} (people : Population) (refs : Entity → List Entity) (start : List Entity) (s s' : Slot M) (after : List Entity) : Type 0 where
  pub done : List Entity
  pub here : Entity
  pub later : List Entity
  pub list : done ++ here ∷ later ≡ start ++ new_in (marked_in s) (flat_map refs done)
  pub led : LeadsTo refs start here
  pub before : List Entity
  pub parts : refs here ≡ before ++ after
  pub alive : AllAlive people (flat_map refs done ++ before)
  pub marked : HasMarked s s' (new_in (marked_in s) (flat_map refs done ++ before))

-- why marking stopped, and before which ones: there was no memory, or the next one isn't alive, or there was no id for it
abbrev pub RefusesMarking : Population → (List Entity → Type 0) → SaveError → Type 0
RefusesMarking people StopsBefore (Unmarked x) = (after : List Entity) × StopsBefore (x ∷ after) × (is_alive people x ≡ false)
RefusesMarking people StopsBefore (Custom t) = ⊥
RefusesMarking people StopsBefore OutOfMemory = (after : List Entity) × StopsBefore after
RefusesMarking people StopsBefore IdsExhausted = (x : Entity) × (after : List Entity) × StopsBefore (x ∷ after)
RefusesMarking people StopsBefore IdTaken = (x : Entity) × (after : List Entity) × StopsBefore (x ∷ after)

-- just some of them have got a mark, each of which is alive; the marks that were there stay
pub record MarksSome {M : Type 0} (people : Population) (Mentioned : Entity → Type 0) (s s' : Slot M) : Type 0 where
  pub added : List Entity
  pub marked : HasMarked s s' added
  pub each : (x : Entity) → Has added x → Mentioned x × (is_alive people x ≡ true)

-- just those that a list leads to, and that had no mark, have got one, so that all of these have a mark; each that is referred to is alive
pub record MarksThese {M : Type 0} (people : Population) (refs : Entity → List Entity) (start : List Entity) (s s' : Slot M) (all : List Entity) : Type 0 where
  pub added : List Entity
  pub parts : all ≡ start ++ added
  pub closed : IsClosed (marked_in s) refs start all
  pub marked : HasMarked s s' added
  pub alive : AllAlive people (flat_map refs all)

abbrev pub MarksAll : {M : Type 0} → Population → (Entity → List Entity) → List Entity → Slot M → Slot M → Type 0
MarksAll people refs start s s' = (all : List Entity) × MarksThese people refs start s s' all

-- there was no memory: before anything was marked, on the way, or once all were marked
abbrev pub MarksFirst : {M : Type 0} → Population → (Entity → List Entity) → List Entity → Slot M → Slot M → Type 0
MarksFirst people refs start s s' = HasMarked s s' [] ⊎ (((after : List Entity) × MarksUpTo people refs start s s' after) ⊎ MarksAll people refs start s s')

-- once all were marked, one of them may be refused for this cause
abbrev pub MarksAndRefuses : {M V D : Type 0} → Conversion M V D → Population → (Entity → V) → List Entity → Slot M → Slot M → List ℕ → Type 0
MarksAndRefuses c people values start s s' text =
    (all : List Entity) × MarksThese people (λ e. c.references (values e)) start s s' all × ((e : Entity) × Has all e × c.unsaved (values e) text)

-- why what a list leads to was not saved, and who has a mark: marking stopped, or one was refused for a cause of its own once all were marked, or there was no memory
abbrev pub RefusesAll : {M V D : Type 0} → Conversion M V D → Population → (Entity → V) → List Entity → Slot M → Slot M → SaveError → Type 0
RefusesAll c people values start s s' (Unmarked x) = RefusesMarking people (MarksUpTo people (λ e. c.references (values e)) start s s') (Unmarked x)
RefusesAll c people values start s s' (Custom t) = MarksAndRefuses c people values start s s' (string_bytes t)
RefusesAll c people values start s s' OutOfMemory = MarksFirst people (λ e. c.references (values e)) start s s'
RefusesAll c people values start s s' IdsExhausted = RefusesMarking people (MarksUpTo people (λ e. c.references (values e)) start s s') IdsExhausted
RefusesAll c people values start s s' IdTaken = RefusesMarking people (MarksUpTo people (λ e. c.references (values e)) start s s') IdTaken

-- those of a list and what they lead to are saved, and just these last got markers, as `Gives` says
pub record SavesAll {M V D : Type 0} (c : Conversion M V D) (marker_of : Entity → Option M) (values : Entity → V) (s s' : Slot M) (Gives : List Entity → Type 0)
    (start : List Entity) (rs : List (EntityData M D)) : Type 0 where
  pub all : List Entity
  pub added : List Entity
  pub parts : all ≡ start ++ added
  pub closed : IsClosed (marked_in s) (λ e. c.references (values e)) start all
  pub marked : HasMarked s s' added
  pub given : Gives added
  pub saved : IsSavedList c marker_of values all rs
  pub holds : HoldsReferences c values all

-- those that have markers and what they lead to are saved, and just these last got markers, in turn, by the views of the markers before and after
abbrev pub SavesWhole : {M I V D A S : Type 0} → Conversion M V D → (Entity → V) → (M → I) → (I → I → Bool) → (A → I → Type 0) → (A → I → Option Entity) → (A → Option ℕ)
    → A → WriteStorage M S → A → WriteStorage M S → List (EntityData M D) → Type 0
SavesWhole c values id_of eq MayBeNew mapping ids a markers a' markers' rs = SavesAll c (λ e. found markers' e) values (slot markers) (slot markers')
    (λ added. MarksInTurn id_of eq MayBeNew mapping ids a (slot markers) added a' (slot markers')) (marked_by markers) rs
