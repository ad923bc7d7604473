-- Numbers of fewer bits, of those of 64 bits that are in their range.
use Rattle.std.specs.Prelude.{ℕ, ◌&&◌, ◌||◌, ℤ, pos, neg_ℤ, int_le, int_lt, nat_eq, nat_lt, nat_le, List, length, Option, Some, None, if◌then◌else◌}

abbrev pub all : {X : Type 0} → X → Option X
all n = Some n

-- the numbers below one
abbrev pub below : ℕ → ℕ → Option ℕ
below bound n = if nat_lt n bound then Some n else None

-- the numbers from the negative of one up to below it
abbrev pub within : ℕ → ℤ → Option ℤ
within bound z = if int_le (neg_ℤ (pos bound)) z && int_lt z (pos bound) then Some z else None

-- the codes of characters
abbrev pub scalar : ℕ → Option ℕ
scalar n = if nat_lt n 0xD800 || (nat_le 0xE000 n && nat_le n 0x10FFFF) then Some n else None

-- the lists of one length
abbrev pub array_of : {X : Type 0} → ℕ → List X → Option (List X)
array_of n xs = if nat_eq (length xs) n then Some xs else None
