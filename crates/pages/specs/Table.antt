-- How a table keeps pages.
use Rattle.std.specs.Prelude.{◌≡◌, ℕ, ◌+◌, ◌*◌, ◌/◌, ◌%◌, ◌<◌, ◌≤◌, Bool, not, ◌==◌, List, map, length, slice_index, slice_index_or}
use Rattle.std.specs.List.{range_with_len}
use Rattle.std.specs.Ordering.{nat_cmp}
use Rattle.std.specs.FinSet as set
use Rattle.std.proofs.Common.{zero, suc}
use Rattle.pages.specs.Listed.{list_below}

module _ {T : Type 0} where
  -- the item at place r of the page with an entry: the pages lie one after another, and entry 0 stands for none
  abbrev pub item_in : ℕ → T → List T → ℕ → ℕ → T
  item_in len filler items r zero = filler
  item_in len filler items r (suc e) = slice_index_or items (e * len + r) filler

  -- the item at place i
  abbrev pub item_at : ℕ → T → List ℕ → List T → ℕ → T
  item_at len filler table items i = item_in len filler items (i % len) (slice_index table (i / len))

  -- the items of all places of the table
  unfoldable pub flat : ℕ → T → List ℕ → List T → List T
  flat len filler table items = map (item_at len filler table items) (range_with_len 0 (length table * len))

-- whether a page is there
abbrev pub is_there : List ℕ → ℕ → Bool
is_there table k = not (slice_index table k == 0)

unfoldable pub pages_of : List ℕ → set.FinSet nat_cmp
pages_of table = set.from_list (list_below (is_there table) (length table))

-- each page that is there has a part of the items to itself, and there are no other items
pub record IsSound {T : Type 0} (len : ℕ) (table : List ℕ) (items : List T) : Type 0 where
  pub some : 0 < len
  pub within : (k : ℕ) → slice_index table k * len ≤ length items
  pub apart : (k l : ℕ) → 0 < slice_index table k → slice_index table k ≡ slice_index table l → k ≡ l
  pub all : length items ≡ set.len (pages_of table) * len

-- the same entries, and none past the end
pub record SameEntries (table table' : List ℕ) : Type 0 where
  pub at : (k : ℕ) → slice_index table' k ≡ slice_index table k
