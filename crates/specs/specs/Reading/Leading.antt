-- What events say of a map.
use Rattle.std.specs.Prelude.{◌≡◌, ℕ, ◌==◌, Bool, false, not, ◌&&◌, ◌||◌, List, [], ◌∷◌}
use Rattle.storages.specs.declared.event.ComponentEvent.{ComponentEvent}
use Rattle.storages.specs.declared.event.ComponentEvent.TheVariants.{Inserted, Modified, Removed}
use Rattle.storages.specs.Named.{is_named}
use Rattle.specs.specs.Slots.Maps.{Map, has_value}

-- a set after one event
abbrev pub replay_one : ComponentEvent → (ℕ → Bool) → ℕ → Bool
replay_one (Inserted i) has j = has j || (i == j)
replay_one (Modified i) has j = has j
replay_one (Removed i) has j = has j && not (i == j)

-- a set after events
abbrev pub replay : List ComponentEvent → (ℕ → Bool) → ℕ → Bool
replay [] has = has
replay (e ∷ es) has = replay es (replay_one e has)

-- Events lead from one map to another: replayed on the first one's indices they give the second one's, and at each
-- index that stands in none of them the map is what it was.
pub record Leads {V : Type 0} (m m' : Map V) (es : List ComponentEvent) : Type 0 where
  pub mask : (i : ℕ) → has_value m' i ≡ replay es (has_value m) i
  pub kept : (i : ℕ) → is_named i es ≡ false → m' i ≡ m i
