-- What a vector storage has.
use Rattle.std.specs.Prelude.{ℕ, Option}
use Rattle.storages.specs.declared.kinds.vec_storage.VecStorage.{VecStorage}
use Rattle.storages.specs.Vec.{value_at}

-- what it has at an index
abbrev pub vec_value : {T : Type 0} → VecStorage T → ℕ → Option T
vec_value s = value_at s.items.items
