-- The indices of a map, as a set, and those that it shares.
use Rattle.std.specs.Prelude.{ℕ, Bool, ◌&&◌, List}
use Rattle.std.specs.Ordering.{nat_cmp}
use Rattle.std.specs.FinMap as map
use Rattle.std.specs.FinSet as set
use Rattle.hibits.specs.Left.{left}

abbrev pub keys_of : {T : Type 0} → map.FinMap nat_cmp T → set.FinSet nat_cmp
keys_of m = set.from_list (map.keys m)

-- the indices of a map that pass a test as well, ascending
abbrev pub shared_indices : {T : Type 0} → map.FinMap nat_cmp T → (ℕ → Bool) → List ℕ
shared_indices m has = left (λ i. map.contains_key m i && has i) 0
