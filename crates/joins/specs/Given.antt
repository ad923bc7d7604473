-- The values that an opened change set still has to give.
use Rattle.std.specs.Prelude.{ℕ, Bool, Option, is_some, option_map}
use Rattle.storages.specs.declared.kinds.vec_storage.VecStorage.{VecStorage}
use Rattle.storages.specs.VecValues.{vec_value}
use Rattle.joins.specs.declared.change_set.Change.{Change}
use Rattle.joins.specs.Held.{value_of}

module _ {T : Type 0} where
  -- what stands at an index
  abbrev pub change_at : VecStorage (Change T) → ℕ → Option (Change T)
  change_at s i = vec_value s i

  -- whether there is a value at an index
  abbrev pub has_value : VecStorage (Change T) → ℕ → Bool
  has_value s i = is_some (change_at s i)

  -- the value there
  abbrev pub value_given : VecStorage (Change T) → ℕ → Option T
  value_given s i = option_map value_of (change_at s i)
