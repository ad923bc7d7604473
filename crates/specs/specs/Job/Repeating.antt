-- Calls of a closure, one after another.
use Rattle.std.specs.Prelude.{◌≡◌, ℕ, zero, suc}

-- so many calls, the last one last: each by the closure and on the value as the one before left them
abbrev pub CallsInTurn : {F X : Type 0} → (F → X → F → X → Type 0) → ℕ → F → X → F → X → Type 0
CallsInTurn step zero f x g y = (g ≡ f) × (y ≡ x)
CallsInTurn step (suc n) f x g y = (h : _) × (z : _) × CallsInTurn step n f x h z × step h z g y
