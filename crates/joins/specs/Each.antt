-- What a walk that writes to each index makes of a map.
use Rattle.std.specs.Prelude.{ℕ, List, [], ◌∷◌, option_map}
use Rattle.std.specs.Ordering.{nat_cmp}
use Rattle.std.specs.FinMap as map
use Rattle.storages.specs.Slot.{with_option}

module _ {T : Type 0} where
  -- the map after the component of each index of a list, in its order, became what `to` makes of it
  abbrev pub each_becomes : (ℕ → T → T) → List ℕ → map.FinMap nat_cmp T → map.FinMap nat_cmp T
  each_becomes to [] m = m
  each_becomes to (i ∷ is) m = each_becomes to is (with_option m i (option_map (to i) (map.get m i)))

  -- the map after the component of each index of a list was taken out
  abbrev pub each_gone : List ℕ → map.FinMap nat_cmp T → map.FinMap nat_cmp T
  each_gone [] m = m
  each_gone (i ∷ is) m = each_gone is (map.remove m i)
