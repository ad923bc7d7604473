-- What a builder of an entity means.
use Rattle.std.specs.Prelude.{◌≡◌, Option, Some, None, Result}
use Rattle.std.specs.Borrow.{RattleType, RestsIfErr, MutBor, Fml}
use Rattle.entities.specs.declared.entity.Entity.{Entity}
use Rattle.entities.specs.Census.{population}
use Rattle.entities.specs.Population.{Population, MarkedIfAlive}
use Rattle.specs.specs.Laws.Going.{GoesOn}
use Rattle.specs.specs.Laws.Gone.{KeepsGone}
use Rattle.specs.specs.Slots.Ids.{Ids}
use Rattle.specs.specs.Laws.Reached.{KeepsLiving}
use Rattle.specs.specs.Slots.Table.{Table, Inserts}
use Rattle.specs.specs.World.State.{State, core_state, OnPeople, OnTable}
use Rattle.specs.specs.declared.world.core_parts.Core.{Core}
use Rattle.specs.specs.declared.builder.EntityBuilder.{EntityBuilder}
use Rattle.specs.specs.contracts.world.core_parts.Core.{the_row}

module _ {S K V : Type 0} where
  -- the core that it was lent
  abbrev pub lent_to : EntityBuilder S K V → MutBor (Core S)
  lent_to b = b.core

  -- the entity that it builds
  abbrev pub built : EntityBuilder S K V → Entity
  built b = b.entity

  -- what the core shows
  abbrev pub shown : (S → Table K V) → (S → Ids K) → EntityBuilder S K V → State K V
  shown table ids b = core_state table ids (lent_to b).now

-- the entity is marked, if it is alive, and nothing else changes
pub record IsDropped {S : Type 0} (old : Core S) (e : Entity) (new : Core S) : Type 0 where
  pub people : MarkedIfAlive (population old.parts.entities) e (population new.parts.entities)
  pub storages : new.parts.storages ≡ old.parts.storages

-- only the population changed: the entity is marked, if it is alive; so each index with a value lives as before, and who was gone is
-- gone, and the model goes on
pub record MarksOne {K V : Type 0} (e : Entity) (old new : State K V) : Type 0 where
  pub marks : OnPeople (λ p p'. MarkedIfAlive p e p') old new
  pub living : KeepsLiving old new
  pub gone : KeepsGone old.people new.people
  pub goes_on : GoesOn old new

-- without a builder the core ends as it was
abbrev pub RestsUnborn : (S : RattleType) {K V E : Type 0} → MutBor (Core S.Denot) → Result (EntityBuilder S.Denot K V) E → Fml
RestsUnborn S c r = RestsIfErr (the_row S) c (λ b. (lent_to b).ghost_name) r (λ n. n ≡ c.now)

-- an entity that was refused a component is marked, if it is alive, and no component changed
abbrev pub RestsMarkedAt : (S : RattleType) {K V E : Type 0} → (S.Denot → Table K V) → (S.Denot → Ids K) → MutBor (Core S.Denot) → Entity → Result (EntityBuilder S.Denot K V) E → Fml
RestsMarkedAt S table ids c e r = RestsIfErr (the_row S) c (λ b. (lent_to b).ghost_name) r (λ n. MarksOne e (core_state table ids c.now) (core_state table ids n))

abbrev pub RestsMarked : (S : RattleType) {K V E : Type 0} → (S.Denot → Table K V) → (S.Denot → Ids K) → EntityBuilder S.Denot K V → Result (EntityBuilder S.Denot K V) E → Fml
RestsMarked S table ids b r = RestsMarkedAt S table ids (lent_to b) (built b) r

-- an entity that is alive gets the value, whatever it had before
pub record PutsIn {K V : Type 0} (place : V → K) (p : Population) (old : Table K V) (e : Entity) (value : V) (new : Table K V) : Type 0 where
  pub before : Option V
  pub inserts : Inserts place p old e value before new

-- the same of a state, in which nothing else changes
abbrev pub PutsAlone : {K V : Type 0} → (V → K) → Entity → V → State K V → State K V → Type 0
PutsAlone place e value old new = OnTable (λ t t'. PutsIn place old.people t e value t') old new

-- it gets a component that is there, and without one nothing changes
abbrev pub MaybePuts : {K V T : Type 0} → (V → K) → (T → V) → Entity → Option T → State K V → State K V → Type 0
MaybePuts place value e (Some x) old new = PutsAlone place e (value x) old new
MaybePuts place value e None old new = new ≡ old
