-- Calls of a closure on the components that a walk takes out.
use Rattle.std.specs.Prelude.{◌≡◌, ℕ, List, [], ◌∷◌, ◌++◌, Option, Some}
use Rattle.std.specs.FinMap as map
use Rattle.storages.specs.Slot.{Slot, Takes, IsSame}

module _ {T I F : Type 0} (gives : ℕ → I → Type 0) (step : F → T → I → Unit {0} → F → Type 0) where
  -- one call, with the component of the index, which was taken out, and with what stands beside it
  pub record TakenAt (i : ℕ) (f : F) (s : Slot T) (f' : F) (s' : Slot T) : Type 0 where
    pub component : T
    pub item : I
    pub was : map.get s.map i ≡ Some component
    pub beside : gives i item
    pub takes : Takes s s' i
    pub call : step f component item tt f'

  -- one call at each index of a list, in its order
  abbrev pub TakenAtEach : List ℕ → F → Slot T → F → Slot T → Type 0
  TakenAtEach [] f s f' s' = (f' ≡ f) × (s' ≡ s)
  TakenAtEach (i ∷ is) f s f' s' = (g : F) × (m : Slot T) × TakenAt i f s g m × TakenAtEach is g m f' s'

  -- the calls at the first of a list, and none at the index after them, nor behind it
  pub record TakingStopped (is : List ℕ) (f : F) (s s' : Slot T) : Type 0 where
    pub done : List ℕ
    pub at : ℕ
    pub left : List ℕ
    pub split : is ≡ done ++ (at ∷ left)
    pub state : F
    pub mid : Slot T
    pub calls : TakenAtEach done f s state mid
    pub same : IsSame mid s'

  -- such calls, after which a cursor stands at the index that had none, before those behind it
  pub record TakingStoppedAt (is : List ℕ) (f : F) (s s' : Slot T) (stands : Option ℕ) (behind : List ℕ) : Type 0 where
    pub stop : TakingStopped is f s s'
    pub here : stands ≡ Some stop.at
    pub rest : behind ≡ stop.left
