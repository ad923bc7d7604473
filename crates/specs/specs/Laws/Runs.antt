-- The laws of all runs, each as one word.
use Rattle.std.specs.Prelude.{ℕ, Bool, List}
use Rattle.entities.specs.declared.entity.Entity.{Entity}
use Rattle.storages.specs.declared.event.ComponentEvent.{ComponentEvent}
use Rattle.specs.specs.Slots.Clones.{Clones}
use Rattle.specs.specs.declared.command.Command.{Command}
use Rattle.specs.specs.declared.command.Reply.{Reply}
use Rattle.specs.specs.declared.job.Job.{Job}
use Rattle.specs.specs.Reading.Following.{AreQuiet, AllSpare, IsFollowed, IsWatched, Follows, Throughout, given}
use Rattle.specs.specs.Laws.Gone.{IsGone}
use Rattle.specs.specs.Laws.Reached.{IsNew, OnlyLiving}
use Rattle.specs.specs.World.State.{State}
use Rattle.specs.specs.Job.Steps.{WorldState, Run}
use Rattle.specs.specs.Slots.Marks.{Markers}

module _ {S J K V : Type 0} (place : V → K) (clones : Clones K V) (marks : Markers K V) (does : J → State K V → List (Job S J K V) → State K V → Type 0) (wants : J → State K V → Type 0) where
  -- from a state where each index with a value lives, every run leads to such a state
  abbrev pub KeepsOnlyLiving : Type 0
  KeepsOnlyLiving = (old new : WorldState S J K V) (commands : List (Command S J K V)) (replies : List (Reply V)) →
      Run place clones marks does wants old commands replies new → OnlyLiving old.core → OnlyLiving new.core

  -- from a new state, every run leads to such a state
  abbrev pub ReachesOnlyLiving : Type 0
  ReachesOnlyLiving = (old new : WorldState S J K V) (commands : List (Command S J K V)) (replies : List (Reply V)) →
      IsNew old.core → Run place clones marks does wants old commands replies new → OnlyLiving new.core

  -- what is gone is gone after every run
  abbrev pub StaysGone : Type 0
  StaysGone = (old new : WorldState S J K V) (commands : List (Command S J K V)) (replies : List (Reply V)) (e : Entity) →
      Run place clones marks does wants old commands replies new → IsGone old.core.people e → IsGone new.core.people e

  module _ (spares : J → K → ℕ → Type 0) where
    -- What the replies of a run give a reader tells of the states before and after, for each reader that follows a slot throughout while the
    -- jobs that wait spare it.
    abbrev pub TellsWatched : (K → K → Bool) → (K → ℕ → State K V → State K V → List ComponentEvent → Type 0) → Type 0
    TellsWatched eq Tells = (slot : K) (n : ℕ) (old new : WorldState S J K V) (commands : List (Command S J K V)) (replies : List (Reply V))
        (run : Run place clones marks does wants old commands replies new) →
        Throughout place clones marks does wants (IsWatched spares slot n) old commands replies new run →
        OnlyLiving old.core → Tells slot n old.core new.core (given (λ s. eq s slot) n commands replies)

    -- throughout a run of quiet commands a reader is watched who was so at its start
    abbrev pub StaysWatched : Type 0
    StaysWatched = (slot : K) (n : ℕ) (old new : WorldState S J K V) (commands : List (Command S J K V)) (replies : List (Reply V))
        (run : Run place clones marks does wants old commands replies new) →
        AreQuiet spares slot n commands → IsWatched spares slot n old → Throughout place clones marks does wants (IsWatched spares slot n) old commands replies new run

-- what these replies to these commands gave each reader, who followed a slot at the start, if the commands are quiet and the jobs that waited spare it
abbrev pub FollowsQuietly : {S J K V : Type 0} → (J → K → ℕ → Type 0) → (K → K → Bool) → WorldState S J K V → List (Command S J K V) → List (Reply V) → WorldState S J K V → Type 0
FollowsQuietly {S} {J} {K} {V} spares eq old commands replies new = (slot : K) (n : ℕ) →
    AreQuiet spares slot n commands → AllSpare spares slot n old.jobs → OnlyLiving old.core → IsFollowed slot n old.core →
    Follows slot n old.core new.core (given (λ s. eq s slot) n commands replies)
