-- Floats by their bits.
use Rattle.std.specs.Prelude.{ℕ, Float, nat_eq, to_bits, from_bits, Option, Some, None, if◌then◌else◌}
use Rattle.std.specs.Float.{binary32, binary64}

abbrev pub double_bits : Float → ℕ
double_bits x = to_bits binary64 x

-- the float of a pattern, where it has that pattern
abbrev pub double_of : ℕ → Option Float
double_of n = if nat_eq (to_bits binary64 (from_bits binary64 n)) n then Some (from_bits binary64 n) else None

abbrev pub single_bits : Float → ℕ
single_bits x = to_bits binary32 x

abbrev pub single_of : ℕ → Option Float
single_of n = if nat_eq (to_bits binary32 (from_bits binary32 n)) n then Some (from_bits binary32 n) else None
