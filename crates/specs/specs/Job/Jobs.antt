-- What jobs do, one by one and one after another.
use Rattle.std.specs.Prelude.{◌≡◌, ◌≢◌, ℕ, zero, suc, ◌+◌, ◌≤◌, ◌<◌, Bool, true, false, ◌⊎◌, if◌then◌else◌, List, [], ◌∷◌, ◌++◌, Option, Some, None, MatchOption}
use Rattle.std.specs.Global.{Vec}
use Rattle.entities.specs.declared.entity.Entity.{Entity}
use Rattle.specs.specs.declared.command.Refusal.{Refusal}
use Rattle.specs.specs.declared.command.Refusal.TheVariants.{OutOfMemory}
use Rattle.specs.specs.Slots.Table.{InsertIsRefused, RemovalWantsMemory}
use Rattle.specs.specs.World.Marking.{GivesMarkerIn, GetsNoMarker}
use Rattle.saveload.specs.declared.mark_error.MarkError.{MarkError}
use Rattle.saveload.specs.declared.mark_error.MarkError.TheVariants.{OutOfMemory as NoMemory}
use Rattle.specs.specs.World.State.{State, InsertsAlone, RemovesAlone}
use Rattle.specs.specs.declared.job.Job.{Job}
use Rattle.specs.specs.declared.job.Job.TheVariants.{Insert, InsertAll, Remove, Mark, Own}
use Rattle.specs.specs.Slots.Marks.{Markers}

-- how much a refusal counts
abbrev pub count_of : Bool → ℕ
count_of b = if b then 1 else 0

-- an insertion, or its refusal for another cause than memory, which is counted
abbrev pub InsertStep : {K V : Type 0} → (V → K) → State K V → Entity → V → Bool → State K V → Type 0
InsertStep {K} {V} place old e value false new = (before : Option V) × InsertsAlone place e value before old new
InsertStep place old e value true new = ((r : Refusal) × InsertIsRefused place old.people old.table e value r × (r ≢ OutOfMemory)) × (new ≡ old)

-- an insertion that wants memory
abbrev pub InsertWantsRoom : {K V : Type 0} → (V → K) → State K V → Entity → V → Type 0
InsertWantsRoom place s e value = InsertIsRefused place s.people s.table e value OutOfMemory

-- insertions in order, and how many of them were refused
abbrev pub InsertsAll : {K V : Type 0} → (V → K) → State K V → List (Entity × V) → ℕ → State K V → Type 0
InsertsAll place old [] refused new = (refused ≡ 0) × (new ≡ old)
InsertsAll {K} {V} place old (pair ∷ pairs) refused new =
    (mid : State K V) × (counted : Bool) × (later : ℕ) × InsertStep place old pair.0 pair.1 counted mid × InsertsAll place mid pairs later new × (refused ≡ count_of counted + later)

-- the first insertion wants memory
abbrev pub FirstWantsRoom : {K V : Type 0} → (V → K) → State K V → List (Entity × V) → Type 0
FirstWantsRoom place s [] = ⊥
FirstWantsRoom place s (pair ∷ pairs) = InsertWantsRoom place s pair.0 pair.1

-- the insertions before the one that found no memory are done, and the rest is kept
pub record KeepsRest {K V : Type 0} (place : V → K) (old : State K V) (pairs : List (Entity × V)) (refused : ℕ) (kept : List (Entity × V)) (new : State K V) : Type 0 where
  pub done : List (Entity × V)
  pub parts : pairs ≡ done ++ kept
  pub inserted : InsertsAll place old done refused new
  pub wants : FirstWantsRoom place new kept

-- insertions in order: all are done, or the rest of them is kept where one finds no memory
abbrev pub InsertsOrKeeps : {K V : Type 0} → (V → K) → State K V → List (Entity × V) → ℕ → Option (Vec (Entity × V)) → State K V → Type 0
InsertsOrKeeps place old pairs refused rest new = MatchOption rest (InsertsAll place old pairs refused new) (λ r. KeepsRest place old pairs refused r.items new)

-- a removal, or nothing where the slot is not registered
abbrev pub RemoveStep : {K V : Type 0} → State K V → K → Entity → State K V → Type 0
RemoveStep {K} {V} old slot e new = MatchOption (old.table slot) (new ≡ old) (λ _. (found : Option V) × RemovesAlone slot e found old new)

-- A marker where there was none, or one that was there, in a slot that holds markers; or its refusal for another cause than memory, which is counted,
-- as is an entity that is not alive. `marks` tells which slots hold markers.
abbrev pub MarkStep : {K V : Type 0} → Markers K V → State K V → K → Entity → Bool → State K V → Type 0
MarkStep marks old slot e false new = (marks.holds slot ≡ true) × (given : Bool) × GivesMarkerIn marks slot e (Some given) old new
MarkStep marks old slot e true new = ((marks.holds slot ≡ true) × GivesMarkerIn marks slot e None old new) ⊎ (((r : MarkError) × GetsNoMarker marks old slot e r × (r ≢ NoMemory)) × (new ≡ old))

-- a mark that wants memory
abbrev pub MarkWantsRoom : {K V : Type 0} → Markers K V → State K V → K → Entity → Type 0
MarkWantsRoom marks s slot e = GetsNoMarker marks s slot e NoMemory

module _ {S J K V : Type 0} (place : V → K) (marks : Markers K V) (does : J → State K V → List (Job S J K V) → State K V → Type 0) where
  -- a job, how many refusals it counts, and the further jobs that it queues
  abbrev pub JobStep : State K V → Job S J K V → ℕ → List (Job S J K V) → State K V → Type 0
  JobStep old (Insert e value) refused more new = (more ≡ []) × (counted : Bool) × (refused ≡ count_of counted) × InsertStep place old e value counted new
  JobStep old (InsertAll pairs) refused more new = (more ≡ []) × InsertsAll place old pairs.items refused new
  JobStep old (Remove slot e) refused more new = (more ≡ []) × (refused ≡ 0) × RemoveStep old slot e new
  JobStep old (Mark slot e) refused more new = (more ≡ []) × (counted : Bool) × (refused ≡ count_of counted) × MarkStep marks old slot e counted new
  JobStep old (Own j) refused more new = (refused ≡ 0) × does j old more new

  -- n jobs, each taken from the front, with the further ones put at the end
  abbrev pub Ran : ℕ → ℕ → State K V → List (Job S J K V) → State K V → List (Job S J K V) → Type 0
  Ran zero refused old jobs new left = (refused ≡ 0) × (new ≡ old) × (left ≡ jobs)
  Ran (suc n) refused old [] new left = ⊥
  Ran (suc n) refused old (job ∷ jobs) new left =
      (mid : State K V) × (more : List (Job S J K V)) × (first : ℕ) × (later : ℕ) ×
      JobStep old job first more mid × Ran n later mid (jobs ++ more) new left × (refused ≡ first + later)

  -- the run ends at the limit, or at the end of the queue
  pub record Ended (limit ran refused : ℕ) (old : State K V) (jobs : List (Job S J K V)) (new : State K V) (left : List (Job S J K V)) : Type 0 where
    pub within : ran ≤ limit
    pub ran_all : Ran ran refused old jobs new left
    pub ends : (ran ≡ limit) ⊎ (left ≡ [])

-- `wants` tells in which states a job of the user's may find no memory
module _ {S J K V : Type 0} (place : V → K) (marks : Markers K V) (does : J → State K V → List (Job S J K V) → State K V → Type 0) (wants : J → State K V → Type 0) where
  -- a job that finds no memory, and what is kept of it
  abbrev pub JobStops : State K V → Job S J K V → ℕ → Job S J K V → State K V → Type 0
  JobStops old (Insert e value) refused kept new = (kept ≡ Insert e value) × (refused ≡ 0) × InsertWantsRoom place old e value × (new ≡ old)
  JobStops old (InsertAll pairs) refused (InsertAll rest) new = KeepsRest place old pairs.items refused rest.items new
  JobStops old (Remove slot e) refused kept new = (kept ≡ Remove slot e) × (refused ≡ 0) × RemovalWantsMemory old.people (old.table slot) e × (new ≡ old)
  JobStops old (Mark slot e) refused kept new = (kept ≡ Mark slot e) × (refused ≡ 0) × MarkWantsRoom marks old slot e × (new ≡ old)
  JobStops old (Own j) refused kept new = (kept ≡ Own j) × (refused ≡ 0) × wants j old × (new ≡ old)
  JobStops old job refused kept new = ⊥

  -- a job is done, and the further ones that it queues come at the queue's end; or it finds no memory, and what is kept of it
  abbrev pub DoesOrKeeps : State K V → Job S J K V → ℕ → Option (Job S J K V) → State K V → List (Job S J K V) → List (Job S J K V) → Type 0
  DoesOrKeeps old job refused kept new queue queue' = MatchOption kept
      ((more : List (Job S J K V)) × (queue' ≡ queue ++ more) × JobStep place marks does old job refused more new)
      (λ k. (queue' ≡ queue) × JobStops old job refused k new)

  -- the run ends at a job that finds no memory, which is kept first
  pub record Stopped (limit ran refused : ℕ) (old : State K V) (jobs : List (Job S J K V)) (new : State K V) (left : List (Job S J K V)) : Type 0 where
    pub before_limit : ran < limit
    pub before : State K V
    pub counted : ℕ
    pub last : ℕ
    pub job : Job S J K V
    pub kept : Job S J K V
    pub rest : List (Job S J K V)
    pub ran_before : Ran place marks does ran counted old jobs before (job ∷ rest)
    pub stops : JobStops before job last kept new
    pub sum : refused ≡ counted + last
    pub queue : left ≡ kept ∷ rest

  -- jobs in order while fewer than the limit ran, and whether one found no memory
  abbrev pub RunsJobs : Bool → ℕ → ℕ → ℕ → State K V → List (Job S J K V) → State K V → List (Job S J K V) → Type 0
  RunsJobs false limit ran refused old jobs new left = Ended place marks does limit ran refused old jobs new left
  RunsJobs true limit ran refused old jobs new left = Stopped limit ran refused old jobs new left
