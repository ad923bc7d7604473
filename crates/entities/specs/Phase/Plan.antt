-- The phase that a plan is of.
use Rattle.std.specs.Prelude.{◌≡◌, ◌≢◌, ◌<◌, slice_index_or, ℕ, ◌+◌, ◌-◌, nat_lt, List, Some, length, slice_get, slice_index, if◌then◌else◌}
use Rattle.entities.specs.declared.entity.Entity.{Entity}
use Rattle.entities.specs.declared.phase.plan.Plan.{Plan}
use Rattle.entities.specs.Census.{population}
use Rattle.entities.specs.Population.{index_of}
use Rattle.entities.specs.Phase.Trace.{Phase}

abbrev pub phase_of : Plan → Phase
phase_of plan = record { opening = population plan.opening.value; reserve = plan.reserve.items; passes = plan.passes }

-- how many words of marks it has
abbrev pub words_of_marks : Plan → ℕ
words_of_marks plan = plan.width

-- where an index would stand in the reserve
abbrev pub place_of_index : List ℕ → ℕ → ℕ → ℕ → ℕ
place_of_index places born revived i = if nat_lt i (length places) then slice_index places i else i - born + revived

-- each entity of the reserve stands where its index is looked up
abbrev pub AreLocated : Plan → Type 0
AreLocated plan = (k : ℕ) (e : Entity) → slice_get plan.reserve.items k ≡ Some e → place_of_index plan.places.items plan.born plan.revived (index_of e) ≡ k

-- the places of the first `revived` of the reserve stand by their indices
abbrev pub ArePlaced : List Entity → ℕ → ℕ → List ℕ → Type 0
ArePlaced reserve born revived places = ((j k : ℕ) (d : Entity) → j < k → k < revived → index_of (slice_index_or reserve j d) ≢ index_of (slice_index_or reserve k d)) → (k : ℕ) (d : Entity) → k < revived → index_of (slice_index_or reserve k d) < born → slice_index places (index_of (slice_index_or reserve k d)) ≡ k
