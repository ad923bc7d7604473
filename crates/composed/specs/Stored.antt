-- The storages of some types, and the markers beside them.
use Rattle.std.specs.Prelude.{◌≡◌, ◌⊎◌, ℕ, Option, Some, None}
use Rattle.storages.specs.Slot.{Slot}
use Rattle.saveload.specs.Loads.{column}
use Rattle.saveload.specs.Told.{IsTold, StoresOnce}

-- a pair of parts, where each is there
abbrev pub two_of : {A B : Type 0} → Option A → Option B → Option (A × B)
two_of None other = None
two_of (Some a) None = None
two_of (Some a) (Some b) = Some (a, b)

-- a part alone, as a tuple of one
abbrev pub one_of : {A X : Type 0} → (A → X) → Option A → Option X
one_of wrap None = None
one_of wrap (Some a) = Some (wrap a)

-- what stands at two places is there, and this holds of it
abbrev pub OnBoth : {L S : Type 0} → Option L → Option S → (L → S → Type 0) → Type 0
OnBoth None markers Holds = ⊥
OnBoth (Some l) None Holds = ⊥
OnBoth (Some l) (Some s) Holds = Holds l s

-- one of both is missing
abbrev pub IsMissing : {L S : Type 0} → Option L → Option S → Type 0
IsMissing lent markers = (lent ≡ None) ⊎ (markers ≡ None)

-- what stands at two places was there, and is left so; of what holds the first nothing else changed
pub record LeavesBoth {F L S : Type 0} (lent : F → Option L) (with_lent : F → L → F) (Leaves : L → S → L → S → Type 0) (fields : F) (markers : Option S)
    (fields' : F) (markers' : Option S) : Type 0 where
  pub stored : L
  pub marks : S
  pub stored' : L
  pub marks' : S
  pub at : lent fields ≡ Some stored
  pub marked : markers ≡ Some marks
  pub leaves : Leaves stored marks stored' marks'
  pub is : fields' ≡ with_lent fields stored'
  pub is_marked : markers' ≡ Some marks'

-- the same of the markers alone
pub record LeavesIn {S : Type 0} (markers markers' : Option S) (Leaves : S → S → Type 0) : Type 0 where
  pub marks : S
  pub marks' : S
  pub marked : markers ≡ Some marks
  pub leaves : Leaves marks marks'
  pub is_marked : markers' ≡ Some marks'

-- one storage, as a tuple: what an index has there, that its readers were told of each change, and of what is stored at an index once
abbrev pub rows_of_one : {A : Type 0} → (record { 0 : Slot A }) → ℕ → (record { 0 : Option A })
rows_of_one l i = record { 0 = column l.0 i }

abbrev pub TellsOne : {A : Type 0} → (record { 0 : Slot A }) → (record { 0 : Slot A }) → Type 0
TellsOne l l' = IsTold l.0 l'.0

abbrev pub StoresInOne : {A : Type 0} → (record { 0 : Slot A }) → ℕ → (record { 0 : Option A }) → (record { 0 : Slot A }) → Type 0
StoresInOne l i row l' = StoresOnce l.0 i row.0 l'.0

-- and two
abbrev pub rows_of_two : {A B : Type 0} → Slot A × Slot B → ℕ → Option A × Option B
rows_of_two l i = (column l.0 i, column l.1 i)

abbrev pub TellsTwo : {A B : Type 0} → Slot A × Slot B → Slot A × Slot B → Type 0
TellsTwo l l' = IsTold l.0 l'.0 × IsTold l.1 l'.1

abbrev pub StoresInTwo : {A B : Type 0} → Slot A × Slot B → ℕ → Option A × Option B → Slot A × Slot B → Type 0
StoresInTwo l i row l' = StoresOnce l.0 i row.0 l'.0 × StoresOnce l.1 i row.1 l'.1
