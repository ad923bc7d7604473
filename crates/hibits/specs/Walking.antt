-- A walk over the members of a mask, as its callers see it.
use Rattle.std.specs.Prelude.{ℕ}

-- the mask, the first index that is not walked, and how many words of plain sets were read
pub record Walking (M : Type 0) : Type 0 where
  pub mask : M
  pub position : ℕ
  pub reads : ℕ
