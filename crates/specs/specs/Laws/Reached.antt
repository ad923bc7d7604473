-- What holds of each state that a run reaches from a new world.
use Rattle.std.specs.Prelude.{◌≡◌, ℕ, ◌<◌, true, Some, None, IsSome}
use Rattle.hibits.specs.declared.limits.TheConstants.{INDEX_LIMIT}
use Rattle.entities.specs.Population.{lives, no_one}
use Rattle.specs.specs.Slots.Column.{Column}
use Rattle.specs.specs.Slots.Table.{Table}
use Rattle.specs.specs.World.State.{State}

-- no slot has a value
abbrev pub HasNoValue : {K V : Type 0} → Table K V → Type 0
HasNoValue {K} {V} table = (slot : K) (c : Column V) (i : ℕ) → table slot ≡ Some c → c.values i ≡ None

-- nobody was born yet, and no slot has a value
pub record IsNew {K V : Type 0} (s : State K V) : Type 0 where
  pub people : s.people ≡ no_one
  pub values : HasNoValue s.table

-- each index with a value lives, each that lives was born, and each that was born is below the limit
pub record OnlyLiving {K V : Type 0} (s : State K V) : Type 0 where
  pub values : (slot : K) (c : Column V) (i : ℕ) → s.table slot ≡ Some c → IsSome (c.values i) → lives s.people i ≡ true
  pub born : (i : ℕ) → lives s.people i ≡ true → 0 < s.people.births i
  pub below : (i : ℕ) → 0 < s.people.births i → i < INDEX_LIMIT

-- where that held before, it holds after
abbrev pub KeepsLiving : {K V : Type 0} → State K V → State K V → Type 0
KeepsLiving old new = OnlyLiving old → OnlyLiving new
