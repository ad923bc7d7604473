-- The reserve of a phase, and the population that a phase leaves.
use Rattle.std.specs.Prelude.{◌≡◌, ◌≢◌, ℕ, pos, ◌+◌, ◌<◌, ◌≤◌, ◌||◌, ◌==◌, Bool, false, List, Some, length, take, slice_get, slice_index_or, if◌then◌else◌}
use Rattle.std.specs.List.{All}
use Rattle.hibits.specs.Counts.{count_below}
use Rattle.hibits.specs.declared.limits.TheConstants.{INDEX_LIMIT}
use Rattle.entities.specs.declared.entity.Entity.{Entity}
use Rattle.entities.specs.Population.{Population, is_free, MayBeBorn, index_of, generation_of}
use Rattle.entities.specs.Deaths.{has_index}

-- how many indices are free or unused
unfoldable pub givable : Population → ℕ
givable p = count_below (λ i. is_free p i || p.births i == 0) INDEX_LIMIT

-- the population in which these are pending births besides
abbrev pub with_births : List Entity → Population → Population
with_births es p = record { births = λ i. if has_index es i then p.births i + 1 else p.births i; merged = p.merged; pending = λ i. p.pending i || has_index es i; marked = p.marked }

-- the population in which these indices are marked besides
abbrev pub with_marks : (ℕ → Bool) → Population → Population
with_marks m p = record { births = p.births; merged = p.merged; pending = p.pending; marked = λ i. p.marked i || m i }

-- Each entity of a reserve is of an index that may be born after those of the entities before it, and has its next generation. So free
-- indices come first, then the least unused ones, ascending
pub record IsReserve (p : Population) (reserve : List Entity) : Type 0 where
  pub may : (t : ℕ) (e : Entity) → slice_get reserve t ≡ Some e → MayBeBorn (with_births (take t reserve) p) (index_of e)
  pub generation : (t : ℕ) (e : Entity) → slice_get reserve t ≡ Some e → generation_of e ≡ pos (p.births (index_of e) + 1)
  pub below : (t : ℕ) (e : Entity) → slice_get reserve t ≡ Some e → index_of e < INDEX_LIMIT
  pub once : (t : ℕ) (e : Entity) → slice_get reserve t ≡ Some e → has_index (take t reserve) (index_of e) ≡ false

-- no two are of one index
abbrev pub AreApart : List Entity → Type 0
AreApart es = (j k : ℕ) (d : Entity) → j < k → k < length es → index_of (slice_index_or es j d) ≢ index_of (slice_index_or es k d)

-- none was given out: a generation that was given out is at most the number of births
abbrev pub AreNew : Population → List Entity → Type 0
AreNew p es = All (λ e. (g : ℕ) → g ≤ p.births (index_of e) → generation_of e ≢ pos g) es
