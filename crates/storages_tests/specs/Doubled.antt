-- Numbers that are doubled.
use Rattle.std.specs.Prelude.{◌+◌, ◌%◌, ◌^◌, List, map}
use Rattle.storages_tests.specs.declared.components.InDense.{InDense}

-- twice the number, past the greatest from 0 on
abbrev pub doubled : InDense → InDense
doubled v = record { 0 = (v.0 + v.0) % 2 ^ 32 }

-- each number doubled
abbrev pub all_doubled : List InDense → List InDense
all_doubled xs = map doubled xs
