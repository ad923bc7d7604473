-- States that come of one another by steps of the model, in which no reader of a slot loses what it follows.
use Rattle.std.specs.Prelude.{◌≡◌, ◌⊎◌, ◌++◌, ℕ, zero, suc, Bool, Option, List}
use Rattle.entities.specs.declared.entity.Entity.{Entity}
use Rattle.entities.specs.Population.{born, born_pending}
use Rattle.specs.specs.World.Dropping.{DropsComponents}
use Rattle.specs.specs.Slots.Ids.{IdsAfter}
use Rattle.specs.specs.Slots.Marks.{GivesMarker}
use Rattle.specs.specs.World.People.{Births, Marks}
use Rattle.specs.specs.World.State.{State, OnPeople, OnTable, Deletes, InsertsAlone, RemovesAlone}
use Rattle.specs.specs.Slots.Table.{Registers, Clears}

module _ {K V : Type 0} where
  -- an entity that is alive gets a marker in a slot, or has one, and a new one takes one of the slot's ids
  pub record Labels (slot : K) (e : Entity) (old new : State K V) : Type 0 where
    pub given : Option Bool
    pub people : new.people ≡ old.people
    pub table : GivesMarker (λ _. Unit {0}) old.people old.table slot e given new.table
    pub ids : IdsAfter given old.ids slot new.ids

  -- a birth, at once or pending, a death at once of a list, a mark, a registration, an insertion, a removal, a clearing of a slot, components of
  -- a list let go, or a marker
  abbrev pub OneStep : State K V → State K V → Type 0
  OneStep old new =
      ((e : Entity) × OnPeople (λ p p'. Births born p e p') old new)
      ⊎ (((e : Entity) × OnPeople (λ p p'. Births born_pending p e p') old new)
      ⊎ (((es : List Entity) × Deletes es old new)
      ⊎ (((e : Entity) × OnPeople (λ p p'. Marks p e p') old new)
      ⊎ (((slot : K) × OnTable (λ t t'. Registers t slot t') old new)
      ⊎ (((slot : K) × (e : Entity) × (value : V) × (before : Option V) × InsertsAlone (λ _. slot) e value before old new)
      ⊎ (((slot : K) × (e : Entity) × (found : Option V) × RemovesAlone slot e found old new)
      ⊎ (((slot : K) × OnTable (λ t t'. Clears t slot t') old new)
      ⊎ (((es : List Entity) × DropsComponents es old new)
      ⊎ ((slot : K) × (e : Entity) × Labels slot e old new)))))))))

  -- n steps, the last one last
  abbrev pub StepsBy : ℕ → State K V → State K V → Type 0
  StepsBy zero old new = new ≡ old
  StepsBy (suc n) old new = (mid : State K V) × StepsBy n old mid × OneStep mid new

  -- the one comes of the other by steps
  pub record ComesOf (old new : State K V) : Type 0 where
    pub count : ℕ
    pub steps : StepsBy count old new

  -- Whatever came of another state by steps still does. So calls that each go on do so one after another.
  pub record GoesOn (old new : State K V) : Type 0 where
    pub further : (s : State K V) → ComesOf s old → ComesOf s new

-- the one list is the other and more behind it
pub record Extends {X : Type 0} (old new : List X) : Type 0 where
  pub more : List X
  pub whole : new ≡ old ++ more

-- Whatever the list extended it still does. So calls that each lengthen a queue do so one after another.
pub record Lengthens {X : Type 0} (old new : List X) : Type 0 where
  pub further : (first : List X) → Extends first old → Extends first new
