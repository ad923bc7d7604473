-- What ties the state of a walk to the layers that it goes over.
use Rattle.std.specs.Prelude.{◌≡◌, ℕ, ◌+◌, ◌-◌, ◌*◌, ◌%◌, ◌^◌, ◌<◌, ◌≤◌, min, Bool, true, List, length, slice_index}
use Rattle.std.specs.Int.{bit_at}
use Rattle.std.proofs.Common.{zero, suc}
use Rattle.hibits.specs.declared.limits.TheConstants.{LAYERS}
use Rattle.hibits.specs.Counts.{count_below}

-- One layer of a walk: p is the layer, word holds what is left of its current word, `from` is the first index that
-- isn't walked, and the current word is the last of those below `up`.
pub record IsLevel (p : ℕ → Bool) (word from up : ℕ) : Type 0 where
  pub fits : word < 2 ^ 64
  pub below : from ≤ 64 * up
  pub left : (i : ℕ) → from ≤ i → i < 64 * up → p i ≡ true → (64 * up ≤ i + 64) × (bit_at word (i % 64) ≡ 1)
  pub right : (j : ℕ) → j < 64 → bit_at word j ≡ 1 → (0 < up) × (from ≤ 64 * (up - 1) + j) × (p (64 * (up - 1) + j) ≡ true)

-- how many set bits of the layers 1 to n lie below where the walk is in them
abbrev pub walked : (ℕ → ℕ → Bool) → List ℕ → ℕ → ℕ
walked has from zero = 0
walked has from (suc n) = count_below (has (suc n)) (slice_index from (suc n)) + walked has from n

pub record IsWalk (has : ℕ → ℕ → Bool) (cost : ℕ) (words from : List ℕ) (count : ℕ) : Type 0 where
  pub words_len : length words ≡ LAYERS
  pub from_len : length from ≡ LAYERS + 1
  pub top : slice_index from LAYERS ≡ 1
  pub level : (l : ℕ) → l < LAYERS → IsLevel (has l) (slice_index words l) (slice_index from l) (slice_index from (suc l))
  pub reads : count ≡ min (cost * (walked has from (LAYERS - 1) + 1)) (2 ^ 64 - 1)

-- what of the layers below n is still to be walked
abbrev pub left_in : List ℕ → ℕ → ℕ
left_in from zero = 0
left_in from (suc n) = (64 ^ (LAYERS - n) - slice_index from n) + left_in from n

-- p holds at i, which isn't below `from`, and nowhere from there up to i
pub record IsNext (p : ℕ → Bool) (from i : ℕ) : Type 0 where
  pub from_on : from ≤ i
  pub member : p i ≡ true
  pub first : (k : ℕ) → from ≤ k → k < i → p k ≡ true → ⊥
