-- A row of items from place 0 on, and pages behind it, as one.
use Rattle.std.specs.Prelude.{◌≡◌, ℕ, ◌+◌, ◌*◌, ◌/◌, ◌%◌, ◌<◌, ◌≤◌, true, false, List, ◌++◌, length, drop, slice_index_or}
use Rattle.std.specs.Ordering.{nat_cmp}
use Rattle.std.specs.FinSet as set
use Rattle.std.proofs.Common.{zero, suc}
use Rattle.pages.specs.Paged.{Paged}

-- the items of the row, and then those behind it
unfoldable pub joined : {T : Type 0} → List T → List T → List T
joined row behind = row ++ drop (length row) behind

-- the pages of s, and the first n
abbrev pub with_first : set.FinSet nat_cmp → ℕ → set.FinSet nat_cmp
with_first s zero = s
with_first s (suc n) = set.insert (with_first s n) n

-- the row has whole pages; a page behind it may lie where the row is, which then holds its items
pub record IsJoined {T : Type 0} (len : ℕ) (filler : T) (row : List T) (behind : Paged T) : Type 0 where
  pub some : 0 < len
  pub whole : length row % len ≡ 0
  pub within : (k : ℕ) → set.contains behind.pages k ≡ true → (k + 1) * len ≤ length behind.items
  pub missing : (i : ℕ) → set.contains behind.pages (i / len) ≡ false → slice_index_or behind.items i filler ≡ filler
