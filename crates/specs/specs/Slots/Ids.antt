-- How many new ids the markers of each slot can still get.
use Rattle.std.specs.Prelude.{◌≡◌, ◌≢◌, ◌^◌, ℕ, Bool, true, false, Option, Some, None}
use Rattle.saveload.specs.Marking.{TakesOne}

-- for each slot how many new ids are left, and none where that can't be told; a slot without markers has none left
abbrev pub Ids : Type 0 → Type 0
Ids K = K → Option ℕ

-- no id of a slot of markers was given; `marks` tells which these are
abbrev pub AllLeft : {K : Type 0} → (K → Bool) → Ids K → Type 0
AllLeft {K} marks ids = (slot : K) → marks slot ≡ true → ids slot ≡ Some (2 ^ 64)

-- one id of the slot is taken, and each other slot keeps its own
pub record TakesId {K : Type 0} (old : Ids K) (slot : K) (new : Ids K) : Type 0 where
  pub here : TakesOne (old slot) (new slot)
  pub others : (s : K) → s ≢ slot → new s ≡ old s

-- what a mark leaves of the ids, by its answer: a new marker takes one
abbrev pub IdsAfter : {K : Type 0} → Option Bool → Ids K → K → Ids K → Type 0
IdsAfter None old slot new = new ≡ old
IdsAfter (Some false) old slot new = new ≡ old
IdsAfter (Some true) old slot new = TakesId old slot new

-- the same of one slot
abbrev pub LeftAfter : Option Bool → Option ℕ → Option ℕ → Type 0
LeftAfter None old new = new ≡ old
LeftAfter (Some false) old new = new ≡ old
LeftAfter (Some true) old new = TakesOne old new
