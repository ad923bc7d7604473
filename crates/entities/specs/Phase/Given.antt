-- What the passes of a phase were given, what they marked, and whom they saw alive.
use Rattle.std.specs.Prelude.{◌≡◌, ◌≢◌, ◌⊎◌, ℕ, ◌<◌, ◌≤◌, true, List, [], ◌∷◌, ◌++◌, flat_map, length, Some, slice_get, slice_index_or}
use Rattle.std.specs.List.{All, AllPairs, Any}
use Rattle.entities.specs.declared.entity.Entity.{Entity}
use Rattle.entities.specs.declared.phase.pass.Pass.{Pass}
use Rattle.entities.specs.declared.phase.trace.Step.{Step}
use Rattle.entities.specs.declared.phase.trace.Step.TheVariants.{Draw, Look, Mark, Peek}
use Rattle.entities.specs.Population.{Population, IsAlive, index_of}
use Rattle.entities.specs.Phase.Reserve.{AreApart}
use Rattle.entities.specs.Deaths.{has_index}
use Rattle.entities.specs.Phase.Trace.{Phase, given_to, in_marks}
use Rattle.entities.specs.Phase.Rule.{Among}
use Rattle.entities.specs.Phase.Board.{steps_of_pass}

-- the entities that a pass was given, in order
unfoldable pub given_of : Phase → Pass → List Entity
given_of o pass = flat_map (given_to o.reserve) (steps_of_pass pass)

abbrev pub marks_of_step : Step → List ℕ
marks_of_step (Draw n) = []
marks_of_step (Look n) = []
marks_of_step (Mark i) = i ∷ []
marks_of_step (Peek i b) = []

-- the indices that a pass marked, in order
unfoldable pub marks_of : Pass → List ℕ
marks_of pass = flat_map marks_of_step (steps_of_pass pass)

-- a step that shows that the entity at this place of the reserve was given out
abbrev pub ShowsGiven : ℕ → Step → Type 0
ShowsGiven place (Draw n) = place ≤ n
ShowsGiven place (Look n) = place < n
ShowsGiven place (Mark i) = ⊥
ShowsGiven place (Peek i b) = ⊥

-- The pass saw the entity alive: it is of the reserve, and a step of the pass shows that it was given out; or it is not, and lived at the opening
abbrev pub SawAlive : Phase → Pass → Entity → Type 0
SawAlive o pass e =
    ((place : ℕ) × (s : Step) × (slice_get o.reserve place ≡ Some e) × Among s (steps_of_pass pass) × ShowsGiven place s)
    ⊎ (((k : ℕ) → slice_get o.reserve k ≢ Some e) × IsAlive o.opening e)

-- nothing was given to the pass, and it marked nothing
pub record IsBlank (o : Phase) (pass : Pass) : Type 0 where
  pub given : given_of o pass ≡ []
  pub marks : marks_of pass ≡ []

-- the pass was given these entities more, and marked these indices more; whom it saw alive it saw
pub record Gains (o : Phase) (old new : Pass) (entities : List Entity) (indices : List ℕ) : Type 0 where
  pub given : given_of o new ≡ given_of o old ++ entities
  pub marks : marks_of new ≡ marks_of old ++ indices
  pub seen : (e : Entity) → SawAlive o old e → SawAlive o new e

-- none of the one list is of an index of the other
abbrev pub AreUnlike : List Entity → List Entity → Type 0
AreUnlike es fs = All (λ e. All (λ f. index_of e ≢ index_of f) fs) es

-- Nothing was given twice to the passes that came back
pub record AreGivenOnce (o : Phase) (passes : List Pass) : Type 0 where
  -- no two drew one ticket
  pub tickets : (j k t : ℕ) (d : Pass) → j < k → k < length passes → Among (Draw t) (steps_of_pass (slice_index_or passes j d)) → Among (Draw t) (steps_of_pass (slice_index_or passes k d)) → ⊥
  -- so no two were given entities of one index
  pub apart : AllPairs (λ a b. AreUnlike (given_of o a) (given_of o b)) passes
  -- and none was given two of one index
  pub once : All (λ pass. AreApart (given_of o pass)) passes

-- What the passes that came back were given lives, pending, and what they marked is marked
pub record AreTakenUp (o : Phase) (passes : List Pass) (after : Population) : Type 0 where
  pub alive : All (λ pass. All (IsAlive after) (given_of o pass)) passes
  pub pending : All (λ pass. All (λ e. after.pending (index_of e) ≡ true) (given_of o pass)) passes
  pub marked : All (λ pass. All (λ i. after.marked i ≡ true) (marks_of pass)) passes

-- Where all passes came back, only what they were given is born, and only what they marked is marked
pub record AreAllTheirs (o : Phase) (passes : List Pass) (before after : Population) : Type 0 where
  pub pending : (i : ℕ) → after.pending i ≡ true → (before.pending i ≡ true) ⊎ Any (λ pass. has_index (given_of o pass) i ≡ true) passes
  pub marked : (i : ℕ) → after.marked i ≡ true → (before.marked i ≡ true) ⊎ Any (λ pass. in_marks i (marks_of pass) ≡ true) passes
