-- What one index more, or less, makes of the members, as callers ask for them.
use Rattle.std.specs.Prelude.{◌≡◌, ◌≢◌, ℕ, ◌+◌, ◌-◌, true, false, cond}
use Rattle.std.specs.Ordering.{nat_cmp}
use Rattle.std.specs.FinSet as set

-- the index is a member, and each other one is one as before
pub record IsAdded (old : set.FinSet nat_cmp) (id : ℕ) (new : set.FinSet nat_cmp) : Type 0 where
  pub here : set.contains new id ≡ true
  pub others : (i : ℕ) → i ≢ id → set.contains new i ≡ set.contains old i
  pub count : set.len new ≡ cond (set.contains old id) (set.len old) (set.len old + 1)

-- the index is no member, and each other one is one as before
pub record IsRemoved (old : set.FinSet nat_cmp) (id : ℕ) (new : set.FinSet nat_cmp) : Type 0 where
  pub here : set.contains new id ≡ false
  pub others : (i : ℕ) → i ≢ id → set.contains new i ≡ set.contains old i
  pub count : set.len new ≡ cond (set.contains old id) (set.len old - 1) (set.len old)

-- there is no member
pub record HasNone (s : set.FinSet nat_cmp) : Type 0 where
  pub each : (i : ℕ) → set.contains s i ≡ false
  pub count : set.len s ≡ 0
