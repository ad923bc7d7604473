-- What a channel of events means.
use Rattle.std.specs.Prelude.{ℕ, Bool, List, [], ◌∷◌, ◌&&◌, cond, false}
use Rattle.storages.specs.declared.event.ComponentEvent.{ComponentEvent}
use Rattle.storages.specs.declared.event.ComponentEvent.TheVariants.{Removed}
use Rattle.storages.specs.Unread.{written, is_read}

-- how many readers were ever registered, the registered ones with their unread events, whether events are emitted, and whether
-- the storage is a tracked one, which is so for good
pub record Channel : Type 0 where
  pub registered : ℕ
  pub readers : List (ℕ × List ComponentEvent)
  pub emission : Bool
  pub tracked : Bool

-- a channel that nobody can read, as of a storage that is not tracked
abbrev pub silent : Channel
silent = record { registered = 0; readers = []; emission = false; tracked = false }

-- whether an event is written for somebody
abbrev pub is_heard : Channel → Bool
is_heard c = c.emission && is_read c.readers

-- the channel after an event, which nobody gets while emission is off
abbrev pub emitted : ComponentEvent → Channel → Channel
emitted e c = record { registered = c.registered; readers = cond c.emission (written e c.readers) c.readers; emission = c.emission; tracked = c.tracked }

-- the removals of the ids, one after another, more for each reader
abbrev pub written_removals : List ℕ → List (ℕ × List ComponentEvent) → List (ℕ × List ComponentEvent)
written_removals [] rs = rs
written_removals (i ∷ is) rs = written_removals is (written (Removed i) rs)

-- the channel after the removals of the ids, which nobody gets while emission is off
abbrev pub emitted_removals : List ℕ → Channel → Channel
emitted_removals ids c = record { registered = c.registered; readers = cond c.emission (written_removals ids c.readers) c.readers; emission = c.emission; tracked = c.tracked }
