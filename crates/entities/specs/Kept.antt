-- What the allocator keeps of its parts.
use Rattle.std.specs.Prelude.{◌≡◌, ◌≢◌, ℕ, ℤ, pos, nat_abs, int_lt, ◌+◌, ◌*◌, ◌<◌, ◌≤◌, max, Bool, true, not, ◌&&◌, List, length, slice_index_or, nat_lt, ◌==◌, if◌then◌else◌}
use Rattle.std.specs.List.{count_by}
use Rattle.hibits.specs.declared.limits.TheConstants.{INDEX_LIMIT}
use Rattle.hibits.specs.Sets.{Layered, HasRoom}
use Rattle.entities.specs.Population.{is_free, last_generation}
use Rattle.entities.specs.Census.{Census, has, living_of, population}

-- whether a generation is one of an index that was born, is dead, and may be born again
abbrev pub free_at : ℤ → Bool
free_at g = not (int_lt (pos 0) g) && (nat_lt 0 (nat_abs g) && nat_lt (nat_abs g) last_generation)

-- how many indices live
abbrev pub living_count : List ℤ → ℕ
living_count generations = count_by (λ g. int_lt (pos 0) g) generations

-- the stack of free indices
pub record IsStacked (generations : List ℤ) (free : List ℕ) : Type 0 where
  -- each free index stands there once, and nothing else
  pub listed : (i : ℕ) → count_by (λ x. x == i) free ≡ (if free_at (slice_index_or generations i (pos 0)) then 1 else 0)
  -- an index in the list was born
  pub used : (i : ℕ) → i < length generations → slice_index_or generations i (pos 0) ≢ pos 0
  -- each death to come has a place in the stack
  pub counted : length free + living_count generations ≤ length generations

abbrev pub HaveRoom : Layered → Layered → Layered → ℕ → Type 0
HaveRoom alive raised killed i = HasRoom alive i × HasRoom raised i × HasRoom killed i

-- the sets of the merged, the pending and the marked
pub record AreSets (generations : List ℤ) (alive raised killed : Layered) : Type 0 where
  pub merged : (i : ℕ) → has alive.members i ≡ (living_of generations i && not (has raised.members i))
  pub pending : (i : ℕ) → has raised.members i ≡ true → living_of generations i ≡ true
  pub marked : (i : ℕ) → has killed.members i ≡ true → living_of generations i ≡ true

-- each part has room for the indices below `room`, of which all that were born are
pub record IsRoomy (born room listed stacked : ℕ) (alive raised killed : Layered) : Type 0 where
  pub born_within : born ≤ room
  pub few : room ≤ INDEX_LIMIT
  pub in_list : room ≤ listed
  pub in_stack : room ≤ stacked
  pub in_sets : (i : ℕ) → i < room → HaveRoom alive raised killed i

pub record IsKept (generations : List ℤ) (free : List ℕ) (room listed stacked : ℕ) (alive raised killed : Layered) : Type 0 where
  pub stack : IsStacked generations free
  pub sets : AreSets generations alive raised killed
  pub roomy : IsRoomy (length generations) room listed stacked alive raised killed

-- how much room a birth may get: none where an index is free or has room, else for at most twice as many indices as were born, or for the first 64
pub record GrowsByNeed (c c' : Census) : Type 0 where
  pub kept : length c.generations < c.room → c'.room ≡ c.room
  pub reused : (i : ℕ) → is_free (population c) i ≡ true → c'.room ≡ c.room
  pub grown : c'.room ≤ max c.room (max 64 (2 * length c.generations))

-- the same but for the room
pub record SameBut (c c' : Census) : Type 0 where
  pub generations : c'.generations ≡ c.generations
  pub free : c'.free ≡ c.free
  pub raised : c'.raised ≡ c.raised
  pub killed : c'.killed ≡ c.killed
