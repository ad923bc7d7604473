-- What one table shows in another, and its values as values of another type.
use Rattle.std.specs.Prelude.{◌≡◌, ◌⊎◌}
use Rattle.std.specs.Option.{option_map}
use Rattle.specs.specs.Slots.Maps.{Map}
use Rattle.specs.specs.Slots.Column.{Column}
use Rattle.specs.specs.Slots.Table.{Table}

-- a map of values, each as a value of another type
abbrev pub each_as : {V W : Type 0} → (V → W) → Map V → Map W
each_as value m i = option_map value (m i)

-- the same of a slot
abbrev pub column_as : {V W : Type 0} → (V → W) → Column V → Column W
column_as value c = record { values = each_as value c.values; channel = c.channel; inner = c.inner }

-- of two tables the one shows in the other: each slot in the slot that is named for it, and no other slot changes
pub record Shows {K L V W : Type 0} (slot : K → L) (value : V → W) (old new : Table K V) (old' new' : Table L W) : Type 0 where
  pub before : (k : K) → old' (slot k) ≡ option_map (column_as value) (old k)
  pub after : (k : K) → new' (slot k) ≡ option_map (column_as value) (new k)
  pub only : (l : L) → ((k : K) × (l ≡ slot k)) ⊎ (new' l ≡ old' l)
