-- What an iterator that creates entities gives.
use Rattle.std.specs.Prelude.{◌≡◌, ◌⊎◌, Bool, true, false, Option, Some, None, Result, Ok, Err}
use Rattle.std.specs.Borrow.{MutBor}
use Rattle.entities.specs.declared.allocator.births.CreateError.{CreateError}
use Rattle.entities.specs.declared.allocator.births.CreateError.TheVariants.{OutOfMemory}
use Rattle.entities.specs.declared.entity.Entity.{Entity}
use Rattle.entities.specs.Census.{population}
use Rattle.entities.specs.Population.{Population, born}
use Rattle.specs.specs.Laws.Going.{GoesOn}
use Rattle.specs.specs.Laws.Gone.{KeepsGone}
use Rattle.specs.specs.Slots.Ids.{Ids}
use Rattle.specs.specs.World.People.{Births, IsFull, BirthWantsMemory}
use Rattle.specs.specs.Laws.Reached.{KeepsLiving}
use Rattle.specs.specs.World.State.{State, core_state}
use Rattle.specs.specs.Slots.Table.{Table}
use Rattle.specs.specs.declared.world.core_parts.Core.{Core}
use Rattle.specs.specs.declared.builder.create_iter.CreateIter.{CreateIter}

module _ {S : Type 0} where
  -- the core that it was lent
  abbrev pub lent_to : CreateIter S → MutBor (Core S)
  lent_to it = it.core

  -- whether it gave an error
  abbrev pub has_failed : CreateIter S → Bool
  has_failed it = it.ended

  abbrev pub people : CreateIter S → Population
  people it = population (lent_to it).now.parts.entities

  -- a birth, want of memory as the last item, or the end
  abbrev pub Gives : CreateIter S → Option (Result Entity CreateError) → CreateIter S → Type 0
  Gives old None new = (new ≡ old) × ((has_failed old ≡ true) ⊎ IsFull (people old))
  Gives old (Some (Ok e)) new = (has_failed old ≡ false) × (has_failed new ≡ false) × Births born (people old) e (people new)
  Gives old (Some (Err x)) new = (has_failed old ≡ false) × (has_failed new ≡ true) × (x ≡ OutOfMemory) × BirthWantsMemory (people old) × ((lent_to new).now ≡ (lent_to old).now)

  -- what the core shows
  abbrev pub shown : {K V : Type 0} → (S → Table K V) → (S → Ids K) → CreateIter S → State K V
  shown table ids it = core_state table ids (lent_to it).now

  -- it has the same core, with the same storages; so each index with a value lives as before, and who was gone is gone
  pub record CreatesNext {K V : Type 0} (table : S → Table K V) (ids : S → Ids K) (old : CreateIter S) (r : Option (Result Entity CreateError)) (new : CreateIter S) : Type 0 where
    pub same_reference : (lent_to new).ghost_name ≡ (lent_to old).ghost_name
    pub storages : (lent_to new).now.parts.storages ≡ (lent_to old).now.parts.storages
    pub gives : Gives old r new
    pub living : KeepsLiving (shown table ids old) (shown table ids new)
    pub gone : KeepsGone (people old) (people new)
    pub goes_on : GoesOn (shown table ids old) (shown table ids new)
