-- The world as a machine with a queue of jobs: its states, its steps and its runs.
use Rattle.std.specs.Prelude.{◌≡◌, ℕ, List, [], ◌∷◌, ◌++◌, IsTrue, ◌↔◌, None, length}
use Rattle.entities.specs.Population.{born, born_pending, IsAlive, IsMerged}
use Rattle.entities.specs.Merges.{the_marked}
use Rattle.specs.specs.Slots.Clones.{Clones}
use Rattle.specs.specs.declared.command.Maintained.{Maintained}
use Rattle.specs.specs.declared.command.Command.{Command}
use Rattle.specs.specs.declared.command.Command.TheVariants.{Register, Create, CreatePending, Delete, DeleteAll, MarkDead, IsAlive as AskAlive, IsLiving as AskLiving, EntityAt, Insert, Get, Remove, Clear, Count as AskCount, Select, Queue, Maintain, Reader, Events, DropReader, Emit}
use Rattle.specs.specs.declared.command.Reply.{Reply}
use Rattle.specs.specs.declared.command.Reply.TheVariants.{Done, Entity as Told, Bool as Yes, Value, Count, Indices, Maintained as Kept, Reader as NewReader, Events as Given, Refused, InsertRefused}
use Rattle.specs.specs.declared.command.Refusal.{Refusal}
use Rattle.specs.specs.declared.command.Refusal.TheVariants.{WrongGeneration as Wrong, OutOfMemory}
use Rattle.specs.specs.declared.job.Job.{Job}
use Rattle.specs.specs.declared.world.World.{World}
use Rattle.specs.specs.Slots.Ids.{Ids}
use Rattle.specs.specs.Job.Jobs.{RunsJobs}
use Rattle.specs.specs.World.People.{Births, BirthIsRefused, DeathIsRefused, Marks, MarkIsRefused, IsEntityAt, NoneMarked, NobodyLives, the_living}
use Rattle.specs.specs.Job.Queue.{to_come}
use Rattle.specs.specs.Slots.Readers.{RegistersReader, RegisterReaderIsRefused, ReadsEvents, DropsReader, ReaderIsRefused, Switches, SwitchIsRefused}
use Rattle.specs.specs.World.Sets.{SelectIsRefused}
use Rattle.specs.specs.World.State.{State, state_of, OnPeople, OnTable, InsertsAlone, RemovesAlone, Deletes, Selects, DeletionWantsMemory, merged}
use Rattle.specs.specs.Slots.Table.{Table, Registers, InsertIsRefused, GetsClone, GetIsRefused, RemoveIsRefused, Clears, ClearIsRefused, Counts, IsUnregistered}
use Rattle.specs.specs.Slots.Marks.{Markers}

-- entities with their components, and the jobs that wait, the first first
pub record WorldState (S J K V : Type 0) : Type 0 where
  pub core : State K V
  pub jobs : List (Job S J K V)

-- what a world shows: a job that found no memory is the first of those that wait
abbrev pub world_state : {S J K V : Type 0} → (S → Table K V) → (S → Ids K) → World S J K V → WorldState S J K V
world_state table ids w = record { core = state_of table ids w; jobs = to_come w.kept w.parts.lazy }

-- only entities and components changed
pub record OnCore {S J K V : Type 0} (change : State K V → State K V → Type 0) (old new : WorldState S J K V) : Type 0 where
  pub core : change old.core new.core
  pub jobs : new.jobs ≡ old.jobs

-- a job was queued, as the last
pub record Queues {S J K V : Type 0} (job : Job S J K V) (old new : WorldState S J K V) : Type 0 where
  pub core : new.core ≡ old.core
  pub jobs : new.jobs ≡ old.jobs ++ job ∷ []

-- pending births are taken up, then the marked die, with all their components, then jobs are done in order while fewer than the limit ran
pub record Maintains {S J K V : Type 0} (place : V → K) (marks : Markers K V) (does : J → State K V → List (Job S J K V) → State K V → Type 0)
    (wants : J → State K V → Type 0) (old : WorldState S J K V) (limit : ℕ) (m : Maintained) (new : WorldState S J K V) : Type 0 where
  pub deleted : m.deleted.items ≡ the_marked old.core.people
  pub jobs : RunsJobs place marks does wants m.stopped limit m.ran m.refused (merged old.core) old.jobs new.core new.jobs
  pub left : m.left ≡ length new.jobs

-- Why a command is refused, where `clones` tells of which slots a clone takes no memory. An insertion hands its value back, so it has a
-- reply of its own.
abbrev pub IsRefused : {S J K V : Type 0} → Clones K V → State K V → Command S J K V → Refusal → Type 0
IsRefused clones s (Register slot) OutOfMemory = s.table slot ≡ None
IsRefused clones s Create r = BirthIsRefused s.people r
IsRefused clones s CreatePending r = BirthIsRefused s.people r
IsRefused clones s (Delete es) (Wrong w) = DeathIsRefused s.people es.items w
IsRefused clones s (Delete es) OutOfMemory = DeletionWantsMemory s es.items
IsRefused clones s DeleteAll OutOfMemory = NobodyLives s.people → ⊥
IsRefused clones s (MarkDead e) (Wrong w) = MarkIsRefused s.people e w
IsRefused clones s (Get slot e) r = GetIsRefused clones s.people s.table slot e r
IsRefused clones s (Remove slot e) r = RemoveIsRefused s.people s.table slot e r
IsRefused clones s (Clear slot) r = ClearIsRefused s.table slot r
IsRefused clones s (AskCount slot) r = IsUnregistered s.table slot r
IsRefused clones s (Select x) r = SelectIsRefused s.table x r
IsRefused clones s (Queue job) OutOfMemory = Unit {0}
IsRefused clones s (Maintain limit) OutOfMemory = NoneMarked s.people → ⊥
IsRefused clones s (Reader slot) r = RegisterReaderIsRefused (s.table slot) r
IsRefused clones s (Events slot n) r = ReaderIsRefused n (s.table slot) r
IsRefused clones s (DropReader slot n) r = ReaderIsRefused n (s.table slot) r
IsRefused clones s (Emit slot on) r = SwitchIsRefused (s.table slot) r
IsRefused clones s command r = ⊥

-- One command on a core, its reply, and the state after it, where `place` tells the slot of a value, and `clones` what a clone of one is. A refusal changes nothing; want of
-- memory is one.
abbrev pub CoreStep : {S J K V : Type 0} → (V → K) → Clones K V → State K V → Command S J K V → Reply V → State K V → Type 0
CoreStep place clones old command (Refused r) new = IsRefused clones old command r × (new ≡ old)
CoreStep place clones old (Register slot) Done new = OnTable (λ t t'. Registers t slot t') old new
CoreStep place clones old Create (Told e) new = OnPeople (λ p p'. Births born p e p') old new
CoreStep place clones old CreatePending (Told e) new = OnPeople (λ p p'. Births born_pending p e p') old new
CoreStep place clones old (Delete es) Done new = Deletes es.items old new
CoreStep place clones old DeleteAll Done new = Deletes (the_living old.people) old new
CoreStep place clones old (MarkDead e) Done new = OnPeople (λ p p'. Marks p e p') old new
CoreStep place clones old (AskAlive e) (Yes b) new = (IsTrue b ↔ IsMerged old.people e) × (new ≡ old)
CoreStep place clones old (AskLiving e) (Yes b) new = (IsTrue b ↔ IsAlive old.people e) × (new ≡ old)
CoreStep place clones old (EntityAt i) (Told e) new = IsEntityAt old.people i e × (new ≡ old)
CoreStep place clones old (Insert e value) (Value before) new = InsertsAlone place e value before old new
CoreStep place clones old (Insert e value) (InsertRefused r back) new = InsertIsRefused place old.people old.table e value r × (back ≡ value) × (new ≡ old)
CoreStep place clones old (Get slot e) (Value found) new = GetsClone clones.is_clone old.people old.table slot e found × (new ≡ old)
CoreStep place clones old (Remove slot e) (Value found) new = RemovesAlone slot e found old new
CoreStep place clones old (Clear slot) Done new = OnTable (λ t t'. Clears t slot t') old new
CoreStep place clones old (AskCount slot) (Count n) new = Counts old.table slot n × (new ≡ old)
CoreStep place clones old (Select x) (Indices is) new = Selects old x is.items × (new ≡ old)
CoreStep place clones old (Reader slot) (NewReader n) new = OnTable (λ t t'. RegistersReader t slot n t') old new
CoreStep place clones old (Events slot n) (Given es) new = OnTable (λ t t'. ReadsEvents t slot n es.items t') old new
CoreStep place clones old (DropReader slot n) Done new = OnTable (λ t t'. DropsReader t slot n t') old new
CoreStep place clones old (Emit slot on) Done new = OnTable (λ t t'. Switches t slot on t') old new
CoreStep place clones old command reply new = ⊥

module _ {S J K V : Type 0} (place : V → K) (clones : Clones K V) (marks : Markers K V) (does : J → State K V → List (Job S J K V) → State K V → Type 0) (wants : J → State K V → Type 0) where
  -- One command, its reply, and the world's state after it, where `does` tells what a job of the user's may do.
  abbrev pub Step : WorldState S J K V → Command S J K V → Reply V → WorldState S J K V → Type 0
  Step old (Queue job) Done new = Queues job old new
  Step old (Maintain limit) (Kept m) new = Maintains place marks does wants old limit m new
  Step old command reply new = OnCore (λ s s'. CoreStep place clones s command reply s') old new

  -- one step after another
  abbrev pub Run : WorldState S J K V → List (Command S J K V) → List (Reply V) → WorldState S J K V → Type 0
  Run old [] [] new = new ≡ old
  Run old (command ∷ commands) (reply ∷ replies) new = (mid : WorldState S J K V) × Step old command reply mid × Run mid commands replies new
  Run old [] (reply ∷ replies) new = ⊥
  Run old (command ∷ commands) [] new = ⊥
