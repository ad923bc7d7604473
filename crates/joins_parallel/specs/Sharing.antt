-- Lists that are changed place by place, from a place on.
use Rattle.std.specs.Prelude.{◌≡◌, ℕ, ◌+◌, ◌^◌, ◌<◌, List, length, slice_index_or}

-- what holds of each item of a list and its place, which begin at base
abbrev pub EachFrom : {X : Type 0} → (ℕ → X → Type 0) → ℕ → List X → Type 0
EachFrom {X} P base xs = (k : ℕ) (d : X) → k < length xs → P (base + k) (slice_index_or xs k d)

-- each item of a list became another of the same place
pub record BecomesFrom {X : Type 0} (R : ℕ → X → X → Type 0) (base : ℕ) (xs ys : List X) : Type 0 where
  pub len : length ys ≡ length xs
  pub each : (k : ℕ) (d : X) → k < length xs → R (base + k) (slice_index_or xs k d) (slice_index_or ys k d)

-- a list of so many items from base on may be changed block by block
pub record IsPart {X : Type 0} (P : ℕ → X → Type 0) (block base count : ℕ) (xs : List X) : Type 0 where
  pub some : 0 < block
  pub filled : 0 < count
  pub room : base + count < 2 ^ 64
  pub long : length xs ≡ count
  pub each : EachFrom P base xs
