-- Calls of a closure at each index of a walk that writes.
use Rattle.std.specs.Prelude.{◌≡◌, ℕ, List, [], ◌∷◌, ◌++◌, Option, Some}
use Rattle.std.specs.FinMap as map
use Rattle.std.specs.Borrow.{MutBor}
use Rattle.storages.specs.declared.event.ComponentEvent.TheVariants.{Modified}
use Rattle.storages.specs.Slot.{Slot, Becomes, IsSame}

-- `gives` tells what stands beside an index, and `step` what a call may answer and leave of the closure and of the component
module _ {T I R F : Type 0} (gives : ℕ → I → Type 0) (step : F → MutBor T → I → R → MutBor T → F → Type 0) where
  -- one call, which answers r: with the component of the index and with what stands beside it. It leaves the component as the slot then has it
  pub record CalledAt (r : R) (i : ℕ) (f : F) (s : Slot T) (f' : F) (s' : Slot T) : Type 0 where
    pub component : MutBor T
    pub item : I
    pub after_call : MutBor T
    pub was : map.get s.map i ≡ Some component.now
    pub beside : gives i item
    pub call : step f component item r after_call f'
    pub becomes : Becomes s s' (map.insert s.map i after_call.now) (Modified i)

  -- one call at each index of a list, in its order, each of which answers r
  abbrev pub CalledAtEach : R → List ℕ → F → Slot T → F → Slot T → Type 0
  CalledAtEach r [] f s f' s' = (f' ≡ f) × (s' ≡ s)
  CalledAtEach r (i ∷ is) f s f' s' = (g : F) × (m : Slot T) × CalledAt r i f s g m × CalledAtEach r is g m f' s'

  -- each call that answers r leaves what `to` makes of the index and of the component
  abbrev pub CallsLeave : R → (ℕ → T → T) → Type 0
  CallsLeave r to = (i : ℕ) (state next : F) (x : MutBor T) (z : I) (y : MutBor T) → gives i z → step state x z r y next → y.now ≡ to i x.now

  -- the calls at the first of a list, and none at the index after them, nor behind it
  pub record StoppedIn (r : R) (is : List ℕ) (f : F) (s s' : Slot T) : Type 0 where
    pub done : List ℕ
    pub at : ℕ
    pub left : List ℕ
    pub split : is ≡ done ++ (at ∷ left)
    pub state : F
    pub mid : Slot T
    pub calls : CalledAtEach r done f s state mid
    pub same : IsSame mid s'

  -- such calls, after which a cursor stands at the index that had none, before those behind it
  pub record StoppedAt (r : R) (is : List ℕ) (f : F) (s s' : Slot T) (stands : Option ℕ) (behind : List ℕ) : Type 0 where
    pub stop : StoppedIn r is f s s'
    pub here : stands ≡ Some stop.at
    pub rest : behind ≡ stop.left

  -- the calls at the first of a list, and one at the index after them that answers `refusal`, and none behind it
  pub record RefusedIn (r refusal : R) (is : List ℕ) (f : F) (s s' : Slot T) : Type 0 where
    pub done : List ℕ
    pub at : ℕ
    pub left : List ℕ
    pub split : is ≡ done ++ (at ∷ left)
    pub state : F
    pub mid : Slot T
    pub calls : CalledAtEach r done f s state mid
    pub last : F
    pub call : CalledAt refusal at state mid last s'

  -- such calls, after which a cursor stands at the index of the one that answers `refusal`, before those behind it
  pub record RefusedAt (r refusal : R) (is : List ℕ) (f : F) (s s' : Slot T) (stands : Option ℕ) (behind : List ℕ) : Type 0 where
    pub stop : RefusedIn r refusal is f s s'
    pub here : stands ≡ Some stop.at
    pub rest : behind ≡ stop.left

  -- the call at one index, as the map shows it
  pub record ChangedAt (r : R) (s s' : Slot T) (i : ℕ) : Type 0 where
    pub state : F
    pub next : F
    pub component : MutBor T
    pub item : I
    pub after_call : MutBor T
    pub was : map.get s.map i ≡ Some component.now
    pub beside : gives i item
    pub call : step state component item r after_call next
    pub becomes : map.get s'.map i ≡ Some after_call.now

-- the same of a closure that keeps what it captured as it is
module _ {T I : Type 0} (gives : ℕ → I → Type 0) (leaves : MutBor T → I → Unit {0} → MutBor T → Type 0) where
  abbrev pub stateless : Unit {0} → MutBor T → I → Unit {0} → MutBor T → Unit {0} → Type 0
  stateless p x z r y q = leaves x z r y

  abbrev pub EachCalled : List ℕ → Slot T → Slot T → Type 0
  EachCalled is s s' = CalledAtEach gives stateless (tt {0}) is (tt {0}) s (tt {0}) s'

  -- each call leaves what `to` makes of the index and of the component
  abbrev pub EachLeaves : (ℕ → T → T) → Type 0
  EachLeaves to = (i : ℕ) (x : MutBor T) (z : I) (y : MutBor T) → gives i z → leaves x z (tt {0}) y → y.now ≡ to i x.now

  abbrev pub EachStopped : List ℕ → Slot T → Slot T → Type 0
  EachStopped is s s' = StoppedIn gives stateless (tt {0}) is (tt {0}) s s'

  abbrev pub EachStoppedAt : List ℕ → Slot T → Slot T → Option ℕ → List ℕ → Type 0
  EachStoppedAt is s s' stands behind = StoppedAt gives stateless (tt {0}) is (tt {0}) s s' stands behind

  abbrev pub ChangedOnce : Slot T → Slot T → ℕ → Type 0
  ChangedOnce s s' i = ChangedAt gives stateless (tt {0}) s s' i
