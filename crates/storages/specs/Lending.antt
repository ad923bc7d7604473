-- What a storage with its mask ends as, where a `&mut` to a component is returned.
use Rattle.std.specs.Prelude.{ℕ, List, Option, Result, IsOk, OnErr}
use Rattle.std.specs.FinMap as map
use Rattle.std.specs.Borrow.{RattleType, MutBor, Fml, Array, Lends, follows_so, name_if_ok, LendsSoOk}
use Rattle.storages.specs.declared.event.ComponentEvent.TheVariants.{Modified}
use Rattle.storages.specs.Meaning.{Meaning}
use Rattle.storages.specs.Slot.{Slot, SameKeys, IsSame, Becomes, Inserts, Fills}
use Rattle.storages.specs.SliceLends.{with_slice, left_as}
use Rattle.storages.specs.contracts.masked.MaskedStorage.{the_row}

-- what the slot is after a write of x through the reference that the call answered, if it did
pub record SlotWrites {T B E : Type 0} (r : Result B E) (s s' : Slot T) (id : ℕ) (x : T) : Type 0 where
  pub keys : SameKeys s s'
  pub becomes : IsOk r → Becomes s s' (map.insert s.map id x) (Modified id)

-- what the slot is after the call answered an error, if it did
pub record SlotRefuses {T B E : Type 0} (r : Result B E) (s s' : Slot T) : Type 0 where
  pub keys : SameKeys s s'
  pub same : OnErr r (IsSame s s')

module _ (T S : RattleType) (meaning : S.Denot → Meaning T.Denot) {E : Type 0} (s : MutBor (Slot T.Denot)) (id : ℕ) where
  -- once the borrow r ends, the index has the last value written through it, and after an error the slot is the same
  abbrev pub lends_present : Result (MutBor T.Denot) E → Fml
  lends_present r =
      follows_so (the_row T S (record { meaning = meaning })) T s.ghost_name (name_if_ok (λ x. x.ghost_name) r)
      (λ x n. SlotWrites r s.now n id x)
      (λ n. SlotRefuses r s.now n)

  -- the same after an insertion
  abbrev pub lends_inserted : Result (MutBor T.Denot) E → Fml
  lends_inserted r =
      LendsSoOk (the_row T S (record { meaning = meaning })) T s r
      (λ n x. Inserts s.now n id x)
      (λ n. IsSame s.now n)

  -- the same after a write, or an insertion and a write
  abbrev pub lends_filled : Result (MutBor T.Denot) E → Fml
  lends_filled r =
      LendsSoOk (the_row T S (record { meaning = meaning })) T s r
      (λ n x. Fills s.now n id x)
      (λ n. IsSame s.now n)

-- once the borrow r ends, each index that has a component has what was left at its place, and nothing else changed
abbrev pub lends_slice : (T S : RattleType) (meaning : S.Denot → Meaning T.Denot) (item_at : List ℕ → List T.Denot → ℕ → Option T.Denot)
    → MutBor (Slot T.Denot) → MutBor (List T.Denot) → Fml
lends_slice T S meaning item_at s r =
    Lends (the_row T S (record { meaning = meaning })) (Array T 0) s r (λ xs. with_slice item_at s.now (left_as r.now xs))
