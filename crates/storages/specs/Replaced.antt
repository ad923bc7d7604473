-- What was at an index before, with the storage.
use Rattle.std.specs.Prelude.{Option, Result}
use Rattle.std.specs.Borrow.{RattleType, MutBor, Fml, RestsIfErr}
use Rattle.storages.specs.declared.masked.Replaced.{Replaced}
use Rattle.storages.specs.contracts.masked.MaskedStorage.{the_row}
use Rattle.storages.specs.Meaning.{Meaning}
use Rattle.storages.specs.Slot.{Slot, IsSame}

module _ {T S : Type 0} where
  abbrev pub storage_of : Replaced T S → MutBor (Slot T)
  storage_of r = r.masked

  abbrev pub before_of : Replaced T S → Option T
  before_of r = r.before

-- where nothing was put, the slot stays
abbrev pub rests_if_refused : (T S : RattleType) (meaning : S.Denot → Meaning T.Denot) {E : Type 0} → MutBor (Slot T.Denot) → Result (Replaced T.Denot S.Denot) E → Fml
rests_if_refused T S meaning s r =
    RestsIfErr (the_row T S (record { meaning = meaning })) s (λ p. (storage_of p).ghost_name) r (λ n. IsSame s.now n)
