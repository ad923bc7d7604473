-- What a dense vector storage has.
use Rattle.std.specs.Prelude.{ℕ, Option}
use Rattle.std.specs.Ordering.{nat_cmp}
use Rattle.std.specs.FinSet as set
use Rattle.storages.specs.declared.kinds.dense_vec_storage.DenseVecStorage.{DenseVecStorage}
use Rattle.storages.specs.Dense.{meaning_of}
use Rattle.storages.specs.Meaning.{Meaning}

module _ {T : Type 0} where
  -- what it means
  abbrev pub dense_meaning : DenseVecStorage T → Meaning T
  dense_meaning s = meaning_of s.values.items s.ids.items s.places.items

  -- what it has at an index
  abbrev pub dense_value : DenseVecStorage T → ℕ → Option T
  dense_value s = (dense_meaning s).at

  -- the pages of its table
  abbrev pub dense_pages : DenseVecStorage T → set.FinSet nat_cmp
  dense_pages s = s.places.pages
