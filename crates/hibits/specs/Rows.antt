-- The rows of words that a bit set is kept in.
use Rattle.std.specs.Prelude.{◌≡◌, ℕ, ◌+◌, ◌*◌, ◌/◌, ◌%◌, ◌^◌, ◌<◌, ◌≤◌, Bool, true, false, cond, ◌==◌, List, length, slice_index}
use Rattle.std.specs.Int.{bit_at}
use Rattle.std.specs.Ordering.{nat_cmp}
use Rattle.std.specs.FinSet as set
use Rattle.pages.specs.Listed.{list_below}
use Rattle.hibits.specs.Sets.{has_part}

-- bit i of a row of words
abbrev pub row_bit : List ℕ → ℕ → Bool
row_bit ws i = bit_at (slice_index ws (i / 64)) (i % 64) == 1

unfoldable pub members_of : List ℕ → set.FinSet nat_cmp
members_of ws = set.from_list (list_below (row_bit ws) (64 * length ws))

-- row ws is layer l of the set
pub record IsTied (s : set.FinSet nat_cmp) (l : ℕ) (ws : List ℕ) : Type 0 where
  pub bits : (i : ℕ) → row_bit ws i ≡ has_part s l i

-- each is a word of 64 bits
pub record AreWords (ws : List ℕ) : Type 0 where
  pub fits : (k : ℕ) → slice_index ws k < 2 ^ 64

-- the layers of one set, each long enough for the one below it
pub record IsSound (w0 w1 w2 w3 w4 : List ℕ) : Type 0 where
  pub size0 : length w0 ≤ 64 * length w1
  pub size1 : length w1 ≤ 64 * length w2
  pub size2 : length w2 ≤ 64 * length w3
  pub size3 : length w3 ≤ 64 * length w4
  pub size4 : length w4 ≤ 1
  pub words0 : AreWords w0
  pub words1 : AreWords w1
  pub words2 : AreWords w2
  pub words3 : AreWords w3
  pub words4 : AreWords w4
  pub tied1 : IsTied (members_of w0) 1 w1
  pub tied2 : IsTied (members_of w0) 2 w2
  pub tied3 : IsTied (members_of w0) 3 w3
  pub tied4 : IsTied (members_of w0) 4 w4

-- the row reaches each page that is there, a page having 64 words, and each word of another page is 0
pub record IsPaged (ws : List ℕ) (pages : set.FinSet nat_cmp) : Type 0 where
  pub within : (k : ℕ) → set.contains pages k ≡ true → (k + 1) * 64 ≤ length ws
  pub missing : (k : ℕ) → set.contains pages (k / 64) ≡ false → slice_index ws k ≡ 0

-- the layers of one set, whose lowest is kept in pages
pub record IsKept (w0 : List ℕ) (pages : set.FinSet nat_cmp) (w1 w2 w3 w4 : List ℕ) : Type 0 where
  pub rows : IsSound w0 w1 w2 w3 w4
  pub paged : IsPaged w0 pages

-- up' is up, but for bit i, which is v
pub record IsPut (up up' : List ℕ) (i : ℕ) (v : Bool) : Type 0 where
  pub len : length up' ≡ length up
  pub bits : (k : ℕ) → row_bit up' k ≡ cond (k == i) v (row_bit up k)

-- the same words, and zeros past the end
pub record SameWords (ws ws' : List ℕ) : Type 0 where
  pub at : (k : ℕ) → slice_index ws' k ≡ slice_index ws k
