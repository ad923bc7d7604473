-- The values of a change set, as it keeps them.
use Rattle.std.specs.Prelude.{ℕ, List, map}
use Rattle.std.specs.Ordering.{nat_cmp}
use Rattle.std.specs.FinMap as fin
use Rattle.joins.specs.declared.change_set.Change.{Change}

module _ {T : Type 0} where
  abbrev pub value_of : Change T → T
  value_of c = c.value

  -- each entry's value
  abbrev pub entries_of : List (ℕ × Change T) → List (ℕ × T)
  entries_of es = map (λ (e : ℕ × Change T). (e.0, value_of e.1)) es

  -- the map of the values
  abbrev pub held : fin.FinMap nat_cmp (Change T) → fin.FinMap nat_cmp T
  held m = fin.from_entries (entries_of (fin.entries m))
