-- What a change set ends as, where a `&mut` to a value is returned.
use Rattle.std.specs.Prelude.{ℕ, Option}
use Rattle.std.specs.Ordering.{nat_cmp}
use Rattle.std.specs.FinMap as map
use Rattle.std.specs.Borrow.{RattleType, MutBor, Fml, LendsIf}
use Rattle.joins.specs.contracts.change_set.ChangeSet.{the_row}

-- once the borrow r ends, the index has the last value written through it, and nothing else changed
abbrev pub lends_change : (T : RattleType) → MutBor (map.FinMap nat_cmp T.Denot) → ℕ → Option (MutBor T.Denot) → Fml
lends_change T s id r = LendsIf (the_row T) T s r (λ x. map.insert s.now id x) s.now
