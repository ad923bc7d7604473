-- The limits, by their numbers.
use Rattle.std.specs.Prelude.{◌≡◌, ◌-◌, ◌^◌, pos, List, ℕ, codes}
use Rattle.hibits.specs.declared.limits.TheConstants.{LAYERS, INDEX_LIMIT}
use Rattle.entities.specs.declared.entity.TheConstants.{LAST_GENERATION, DELETE}
use Rattle.entities.specs.declared.phase.opening.TheConstants.{MOST_PASSES}

-- indices lie below 64 to the power of the number of layers of a set
abbrev pub IndicesEnd : Type 0
IndicesEnd = INDEX_LIMIT ≡ 64 ^ LAYERS

-- how many indices are from a position on: what a walk or a cursor that stands there has still before it, and the measure of a loop over it
abbrev pub indices_ahead : ℕ → ℕ
indices_ahead position = INDEX_LIMIT - position

-- generations end at the greatest signed number of 32 bits
abbrev pub GenerationsEnd : Type 0
GenerationsEnd = LAST_GENERATION ≡ pos 2147483647

abbrev pub PassesEnd : Type 0
PassesEnd = MOST_PASSES ≡ 4096

-- what a refusal of a death or a mark names
abbrev pub DeletionIsNamed : Type 0
DeletionIsNamed = DELETE.now ≡ codes "delete"
