-- A reader who follows a slot through a run.
use Rattle.std.specs.Prelude.{◌≡◌, ◌==◌, ◌&&◌, ℕ, Bool, true, false, cond, Option, Some, None, IsSome, List, [], ◌∷◌, ◌++◌}
use Rattle.std.specs.Bool.{Decides}
use Rattle.storages.specs.declared.event.ComponentEvent.{ComponentEvent}
use Rattle.storages.specs.Named.{is_named, or_none}
use Rattle.storages.specs.Unread.{unread_of}
use Rattle.specs.specs.Slots.Clones.{Clones}
use Rattle.specs.specs.declared.command.Command.{Command}
use Rattle.specs.specs.declared.command.Command.TheVariants.{Queue, Events, DropReader, Emit}
use Rattle.specs.specs.declared.command.Reply.{Reply}
use Rattle.specs.specs.declared.command.Reply.TheVariants.{Events as Given}
use Rattle.specs.specs.Slots.Maps.{Map, no_value, has_value}
use Rattle.specs.specs.Slots.Column.{Column}
use Rattle.specs.specs.Reading.Leading.{Leads, replay}
use Rattle.specs.specs.declared.job.Job.{Job}
use Rattle.specs.specs.declared.job.Job.TheVariants.{Own}
use Rattle.specs.specs.Laws.Reached.{OnlyLiving}
use Rattle.specs.specs.World.State.{State}
use Rattle.specs.specs.Job.Steps.{WorldState, Run}
use Rattle.specs.specs.Slots.Marks.{Markers}

-- something holds of each of a list
abbrev pub Each : {X : Type 0} → (X → Type 0) → List X → Type 0
Each Q [] = Unit {0}
Each Q (x ∷ xs) = Q x × Each Q xs

module _ {V : Type 0} where
  -- the values of a slot, of which an unregistered one has none
  abbrev pub values_of : Option (Column V) → Map V
  values_of None = no_value
  values_of (Some c) = c.values

  -- what a reader of a slot has not read
  abbrev pub unread_at : ℕ → Option (Column V) → List ComponentEvent
  unread_at n None = []
  unread_at n (Some c) = or_none (unread_of n c.channel.readers)

  -- the slot is registered, its events are on, and the reader is registered
  abbrev pub IsListening : ℕ → Option (Column V) → Type 0
  IsListening n None = ⊥
  IsListening n (Some c) = (c.channel.emission ≡ true) × IsSome (unread_of n c.channel.readers)

  -- Events came that lead from the slot's values before to those after, and the reader got them behind those it had not read:
  -- what it was given and what it has not read now are what it had not read before, and these.
  pub record Advances (n : ℕ) (old new : Option (Column V)) (given : List ComponentEvent) : Type 0 where
    pub events : List ComponentEvent
    pub leads : Leads (values_of old) (values_of new) events
    pub told : given ++ unread_at n new ≡ unread_at n old ++ events

module _ {K V : Type 0} where
  -- the slot is registered, its events are on, and the reader is registered
  abbrev pub IsFollowed : K → ℕ → State K V → Type 0
  IsFollowed slot n s = IsListening n (s.table slot)

  -- the values of a slot
  abbrev pub values : State K V → K → Map V
  values s slot = values_of (s.table slot)

  -- what a reader of a slot has not read
  abbrev pub unread : State K V → K → ℕ → List ComponentEvent
  unread s slot n = unread_at n (s.table slot)

  -- The events that the reader was given, and those that it has not read, lead from the values before to those after, behind those it had not read.
  abbrev pub Follows : K → ℕ → State K V → State K V → List ComponentEvent → Type 0
  Follows slot n old new given = Advances n (old.table slot) (new.table slot) given

  -- Replayed on any set, what the reader was given and then what it has not read give the indices of the values after, if what it had not read
  -- gave those of the values before; and each index at which a value changed stands in one of them.
  pub record Replays (slot : K) (n : ℕ) (old new : State K V) (given : List ComponentEvent) : Type 0 where
    pub mask : (set : ℕ → Bool) → ((i : ℕ) → replay (unread old slot n) set i ≡ has_value (values old slot) i) → (i : ℕ) → replay (given ++ unread new slot n) set i ≡ has_value (values new slot) i
    pub named : (i : ℕ) → is_named i (given ++ unread new slot n) ≡ false → values new slot i ≡ values old slot i

module _ {S J K V : Type 0} where
  -- the events of a reply, where they are what the reader asked for; `here` tells the slot
  abbrev pub if_asked : (K → Bool) → ℕ → Command S J K V → List ComponentEvent → List ComponentEvent
  if_asked here n (Events slot m) es = cond (here slot && (m == n)) es []
  if_asked here n command es = []

  -- what one reply gives a reader
  abbrev pub given_by : (K → Bool) → ℕ → Command S J K V → Reply V → List ComponentEvent
  given_by here n command (Given es) = if_asked here n command es.items
  given_by here n command reply = []

  -- what the replies give a reader
  abbrev pub given : (K → Bool) → ℕ → List (Command S J K V) → List (Reply V) → List ComponentEvent
  given here n [] replies = []
  given here n (c ∷ cs) [] = []
  given here n (c ∷ cs) (r ∷ rs) = given_by here n c r ++ given here n cs rs

  -- something holds of each state of a run, the first and the last too
  abbrev pub Throughout : (place : V → K) (clones : Clones K V) (marks : Markers K V) (does : J → State K V → List (Job S J K V) → State K V → Type 0)
      (wants : J → State K V → Type 0) (P : WorldState S J K V → Type 0) (old : WorldState S J K V) (cs : List (Command S J K V)) (rs : List (Reply V))
      (new : WorldState S J K V) → Run place clones marks does wants old cs rs new → Type 0
  Throughout place clones marks does wants P old [] [] new run = P old
  Throughout place clones marks does wants P old (c ∷ cs) (r ∷ rs) new run = P old × Throughout place clones marks does wants P run.0 cs rs new run.2
  Throughout place clones marks does wants P old [] (r ∷ rs) new run = ⊥
  Throughout place clones marks does wants P old (c ∷ cs) [] new run = ⊥

  -- A job that neither reads nor ends the reader, leaves the slot's events on, writes none by hand, and queues such jobs alone: each but one of
  -- the user's, of which `spares` tells it.
  abbrev pub JobSpares : (J → K → ℕ → Type 0) → K → ℕ → Job S J K V → Type 0
  JobSpares spares slot n (Own j) = spares j slot n
  JobSpares spares slot n job = Unit {0}

  abbrev pub AllSpare : (J → K → ℕ → Type 0) → K → ℕ → List (Job S J K V) → Type 0
  AllSpare spares slot n jobs = Each (JobSpares spares slot n) jobs

  -- What a job that spares the reader of a slot leaves: events that lead from the values before to those after, which the reader has not read,
  -- and a reader that follows the slot still. The further jobs spare it too.
  pub record Spared (spares : J → K → ℕ → Type 0) (slot : K) (n : ℕ) (old : State K V) (more : List (Job S J K V)) (new : State K V) : Type 0 where
    pub follows : OnlyLiving old → Follows slot n old new []
    pub followed : IsFollowed slot n new
    pub added : AllSpare spares slot n more

  -- the reader follows the slot, and each job that waits spares it
  pub record IsWatched (spares : J → K → ℕ → Type 0) (slot : K) (n : ℕ) (s : WorldState S J K V) : Type 0 where
    pub followed : IsFollowed slot n s.core
    pub spared : AllSpare spares slot n s.jobs

  -- the command neither ends the reader nor turns the slot's events off, and a job that it queues spares the reader
  abbrev pub IsQuiet : (J → K → ℕ → Type 0) → K → ℕ → Command S J K V → Type 0
  IsQuiet spares slot n (DropReader s m) = s ≡ slot → m ≡ n → ⊥
  IsQuiet spares slot n (Emit s on) = s ≡ slot → on ≡ true
  IsQuiet spares slot n (Queue job) = JobSpares spares slot n job
  IsQuiet spares slot n command = Unit {0}

  abbrev pub AreQuiet : (J → K → ℕ → Type 0) → K → ℕ → List (Command S J K V) → Type 0
  AreQuiet spares slot n [] = Unit {0}
  AreQuiet spares slot n (c ∷ cs) = IsQuiet spares slot n c × AreQuiet spares slot n cs

-- a test that holds of the slot alone
abbrev pub Tells : {K : Type 0} → (K → Bool) → K → Type 0
Tells {K} here slot = (s : K) → Decides (here s) (s ≡ slot)
