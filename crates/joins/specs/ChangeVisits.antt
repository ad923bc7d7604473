-- Calls of a closure at each index of a walk that writes to the values of a change set.
use Rattle.std.specs.Prelude.{◌≡◌, ℕ, List, [], ◌∷◌, Some}
use Rattle.std.specs.FinMap as map
use Rattle.std.specs.Ordering.{nat_cmp}
use Rattle.std.specs.Borrow.{MutBor}

-- `gives` tells what stands beside an index, and `step` what a call may leave of the closure and of the value
module _ {T I F : Type 0} (gives : ℕ → I → Type 0) (step : F → MutBor T → I → Unit {0} → MutBor T → F → Type 0) where
  -- one call, with the value of the index and with what stands beside it. It leaves the value as the map then has it
  pub record ValueCalled (i : ℕ) (f : F) (m : map.FinMap nat_cmp T) (f' : F) (m' : map.FinMap nat_cmp T) : Type 0 where
    pub value : MutBor T
    pub item : I
    pub after_call : MutBor T
    pub was : map.get m i ≡ Some value.now
    pub beside : gives i item
    pub call : step f value item (tt {0}) after_call f'
    pub becomes : m' ≡ map.insert m i after_call.now

  -- one call at each index of a list, in its order
  abbrev pub ValuesCalled : List ℕ → F → map.FinMap nat_cmp T → F → map.FinMap nat_cmp T → Type 0
  ValuesCalled [] f m f' m' = (f' ≡ f) × (m' ≡ m)
  ValuesCalled (i ∷ is) f m f' m' = (g : F) × (n : map.FinMap nat_cmp T) × ValueCalled i f m g n × ValuesCalled is g n f' m'

  -- the call at one index, as it shows in the map
  pub record ValueChanged (m m' : map.FinMap nat_cmp T) (i : ℕ) : Type 0 where
    pub state : F
    pub next : F
    pub value : MutBor T
    pub item : I
    pub after_call : MutBor T
    pub was : map.get m i ≡ Some value.now
    pub beside : gives i item
    pub call : step state value item (tt {0}) after_call next
    pub becomes : map.get m' i ≡ Some after_call.now
