-- What a builder of an entity means whose components are queued.
use Rattle.std.specs.Prelude.{◌≡◌, List, Result}
use Rattle.std.specs.Borrow.{RattleType, RestsIfErr, MutBor, Fml}
use Rattle.entities.specs.declared.entity.Entity.{Entity}
use Rattle.specs.specs.Slots.Ids.{Ids}
use Rattle.specs.specs.Slots.Table.{Table}
use Rattle.specs.specs.World.State.{State, core_state}
use Rattle.specs.specs.Builder.Building.{MarksOne}
use Rattle.specs.specs.Job.Queue.{queued}
use Rattle.specs.specs.declared.job.Job.{Job}
use Rattle.specs.specs.declared.world.WorldParts.{WorldParts}
use Rattle.specs.specs.declared.builder.lazy_builder.LazyBuilder.{LazyBuilder}
use Rattle.specs.specs.contracts.world.WorldParts as queue_too

module _ {S J K V : Type 0} where
  -- the parts that it was lent
  abbrev pub lent_to : LazyBuilder S J K V → MutBor (WorldParts S J K V)
  lent_to b = b.parts

  -- the entity that it builds
  abbrev pub built : LazyBuilder S J K V → Entity
  built b = b.entity

  -- what the core shows
  abbrev pub shown : (S → Table K V) → (S → Ids K) → LazyBuilder S J K V → State K V
  shown table ids b = core_state table ids (lent_to b).now.core

  -- the jobs that are queued
  abbrev pub waiting : LazyBuilder S J K V → List (Job S J K V)
  waiting b = queued (lent_to b).now.lazy

  -- the entity is marked, if it is alive, and nothing else changes
  pub record Marked (table : S → Table K V) (ids : S → Ids K) (e : Entity) (old new : WorldParts S J K V) : Type 0 where
    pub core : MarksOne e (core_state table ids old.core) (core_state table ids new.core)
    pub queue : queued new.lazy ≡ queued old.lazy

-- without a builder the parts end as they were
abbrev pub RestsUnborn : (S J K V : RattleType) {E : Type 0} → MutBor (WorldParts S.Denot J.Denot K.Denot V.Denot) → Result (LazyBuilder S.Denot J.Denot K.Denot V.Denot) E → Fml
RestsUnborn S J K V p r = RestsIfErr (queue_too.the_row S J K V) p (λ b. (lent_to b).ghost_name) r (λ n. n ≡ p.now)

-- an entity for which a job was refused is marked, if it is alive, and no component and no job changed
abbrev pub RestsMarkedAt : (S J K V : RattleType) {E : Type 0} → (S.Denot → Table K.Denot V.Denot) → (S.Denot → Ids K.Denot)
    → MutBor (WorldParts S.Denot J.Denot K.Denot V.Denot) → Entity → Result (LazyBuilder S.Denot J.Denot K.Denot V.Denot) E → Fml
RestsMarkedAt S J K V table ids p e r = RestsIfErr (queue_too.the_row S J K V) p (λ b. (lent_to b).ghost_name) r (λ n. Marked table ids e p.now n)

abbrev pub RestsMarked : (S J K V : RattleType) {E : Type 0} → (S.Denot → Table K.Denot V.Denot) → (S.Denot → Ids K.Denot)
    → LazyBuilder S.Denot J.Denot K.Denot V.Denot → Result (LazyBuilder S.Denot J.Denot K.Denot V.Denot) E → Fml
RestsMarked S J K V table ids b r = RestsMarkedAt S J K V table ids (lent_to b) (built b) r
