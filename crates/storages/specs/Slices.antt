-- What the slice of a storage has, where `at` is the map that the storage is.
use Rattle.std.specs.Prelude.{◌≡◌, ℕ, ◌<◌, Option, Some, List, length, slice_get, nat_eq, IsTrue, is_some}
use Rattle.std.specs.List.{zip}
use Rattle.std.specs.Map.{lookup}

module _ {T : Type 0} where
  -- the value beside an index
  abbrev pub item_beside : List ℕ → List T → ℕ → Option T
  item_beside indices xs q = lookup (nat_eq q) (zip indices xs)

module _ {T : Type 0} (at : ℕ → Option T) where
  -- an arrangement of exactly the map's values, each index's once: `indices` has the index of each place
  pub record Arranges (indices : List ℕ) (xs : List T) : Type 0 where
    pub lengths : length indices ≡ length xs
    pub each : (k i : ℕ) → slice_get indices k ≡ Some i → at i ≡ slice_get xs k
    pub all : (i : ℕ) → IsTrue (is_some (at i)) → (k : ℕ) × (slice_get indices k ≡ Some i)
    pub once : (j k i : ℕ) → slice_get indices j ≡ Some i → slice_get indices k ≡ Some i → j ≡ k

  -- at each place the option that the map gives
  pub record IsOptionSlice (extent : Option ℕ) (xs : List (Option T)) : Type 0 where
    pub len : extent ≡ Some (length xs)
    pub each : (i : ℕ) → i < length xs → slice_get xs i ≡ Some (at i)
    pub all : (i : ℕ) → IsTrue (is_some (at i)) → i < length xs

  -- at each index of the map its value
  pub record IsFullSlice (extent : Option ℕ) (xs : List T) : Type 0 where
    pub len : extent ≡ Some (length xs)
    pub each : (i : ℕ) → IsTrue (is_some (at i)) → slice_get xs i ≡ at i
