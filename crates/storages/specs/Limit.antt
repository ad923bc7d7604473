-- The indices.
use Rattle.std.specs.Prelude.{ℕ, ◌<◌}
use Rattle.hibits.specs.declared.limits.TheConstants.{INDEX_LIMIT}

-- the number is an index: it lies below the limit
abbrev pub IsIndex : ℕ → Type 0
IsIndex i = i < INDEX_LIMIT
