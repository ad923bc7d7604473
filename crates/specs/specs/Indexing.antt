-- What an index by a key knows of a slot, and runs that leave its reader alone.
use Rattle.std.specs.Prelude.{◌≡◌, ℕ, true, Option, List, [], ◌∷◌, MatchOption, Vec}
use Rattle.std.specs.Option.{IfSome}
use Rattle.std.specs.declared.cmp.Ordering.{Ordering}
use Rattle.key_index.specs.Indexed.{CoversSlot, FollowsSlot, IsFresh, IsIndexOfSlot, KeepsSlot}
use Rattle.key_index.specs.declared.key_index.KeyIndex.{KeyIndex}
use Rattle.storages.specs.Channel.{Channel}
use Rattle.storages.specs.Slot as masked
use Rattle.storages.specs.Tracking.{after_read}
use Rattle.specs.specs.Slots.Clones.{Clones}
use Rattle.specs.specs.Slots.Ids.{Ids}
use Rattle.specs.specs.Slots.Marks.{Markers}
use Rattle.specs.specs.World.State.{State, OnTable}
use Rattle.specs.specs.declared.command.Reply.{Reply}
use Rattle.specs.specs.declared.job.Job.{Job}
use Rattle.specs.specs.declared.world.World.{World}
use Rattle.specs.specs.declared.command.Command.{Command}
use Rattle.specs.specs.declared.command.Command.TheVariants.{Events}
use Rattle.specs.specs.Reading.Following.{AreQuiet, IsWatched}
use Rattle.specs.specs.Laws.Reached.{OnlyLiving}
use Rattle.specs.specs.Slots.Readers.{with_channel}
use Rattle.specs.specs.Job.Steps.{WorldState, world_state, Run}
use Rattle.specs.specs.Slots.Table.{Table, Becomes}

module _ {S J K V : Type 0} where
  -- the command does not read the reader's events
  abbrev pub LeavesUnread : K → ℕ → Command S J K V → Type 0
  LeavesUnread slot n (Events s m) = s ≡ slot → m ≡ n → ⊥
  LeavesUnread slot n command = Unit {0}

  abbrev pub LeaveUnread : K → ℕ → List (Command S J K V) → Type 0
  LeaveUnread slot n [] = Unit {0}
  LeaveUnread slot n (c ∷ cs) = LeavesUnread slot n c × LeaveUnread slot n cs

  -- A reader follows the slot in a state where each index with a value lives; the jobs that wait spare it, and the commands neither read its
  -- events, end it, turn the slot's events off nor queue a job that does not spare it.
  pub record LeaveAlone (spares : J → K → ℕ → Type 0) (slot : K) (n : ℕ) (commands : List (Command S J K V)) (s : WorldState S J K V) : Type 0 where
    pub living : OnlyLiving s.core
    pub watched : IsWatched spares slot n s
    pub quiet : AreQuiet spares slot n commands
    pub unread : LeaveUnread slot n commands

-- only the channel of one slot changed; no slot changes where that one is not registered
abbrev pub Turns : {K V : Type 0} → Table K V → K → (Channel → Channel) → Table K V → Type 0
Turns old slot change new = MatchOption (old slot) (new ≡ old) (λ c. Becomes old slot (with_channel c (change c.channel)) new)

module _ {T : Type 0} where
  -- the storage tells its readers of each change, if there is one
  abbrev pub IsEmitting : Option (masked.Slot T) → Type 0
  IsEmitting field = IfSome field (λ s. s.channel.emission ≡ true)

  module _ {K Q : Type 0} (key : K → T → Q) where
    -- if there is a storage, the keys that the index keeps are those of the storage
    abbrev pub KeepsAll : KeyIndex T K Q → Option (masked.Slot T) → Type 0
    KeepsAll x field = IfSome field (KeepsSlot key x)

    -- if there is a storage, the index is stale, or each index of which it keeps another key stands in an event that its reader has not read
    abbrev pub Knows : KeyIndex T K Q → Option (masked.Slot T) → Type 0
    Knows x field = IsFresh x → IfSome field (CoversSlot key x)

    -- if there is a storage, the index has now the key that the storage has at each index that stood in an event which its reader had not read,
    -- and at every other the key that it kept
    abbrev pub FollowsAll : KeyIndex T K Q → KeyIndex T K Q → Option (masked.Slot T) → Option (masked.Slot T) → Type 0
    FollowsAll x x' field field' = IfSome field (λ s. IfSome field' (FollowsSlot key x x' s))

    -- if there is a storage, the index has for each key the list from scratch: the indices whose component has it now
    abbrev pub IsUpToDate : (Q → Q → Ordering) → KeyIndex T K Q → Option (masked.Slot T) → Type 0
    IsUpToDate cmp x field = IfSome field (IsIndexOfSlot key cmp x)

-- the storages of a world
abbrev pub stored : {S J K V : Type 0} → World S J K V → S
stored w = w.parts.core.parts.storages

module _ {S J K V : Type 0} (spares : J → K → ℕ → Type 0) (slot : K) (table : S → Table K V) (ids : S → Ids K) where
  -- the commands and the jobs that wait leave a reader of the world alone
  abbrev pub LeaveAloneIn : {Z : Type 0} → ℕ → Vec (Command S J K V) Z → World S J K V → Type 0
  LeaveAloneIn n commands w = LeaveAlone spares slot n commands.items (world_state table ids w)

  -- something holds if the commands and the jobs that wait leave the index's reader alone, and the index knows the storage's changes
  abbrev pub IfFollowing : {T X Q Z : Type 0} → (S → Option (masked.Slot T)) → (X → T → Q) → ℕ → KeyIndex T X Q → Vec (Command S J K V) Z → World S J K V → Type 0 → Type 0
  IfFollowing part key n x commands w C = LeaveAloneIn n commands w → Knows key x (part (stored w)) → C

-- a run, and then one reader of a slot reads its events
pub record RunsAndReads {S J K V : Type 0} (place : V → K) (clones : Clones K V) (marks : Markers K V)
    (does : J → State K V → List (Job S J K V) → State K V → Type 0) (wants : J → State K V → Type 0) (slot : K) (n : ℕ) (old : WorldState S J K V)
    (commands : List (Command S J K V)) (replies : List (Reply V)) (new : WorldState S J K V) : Type 0 where
  pub between : WorldState S J K V
  pub run : Run place clones marks does wants old commands replies between
  pub read : OnTable (λ t t'. Turns t slot (after_read n) t') between.core new.core
  pub jobs : new.jobs ≡ between.jobs
