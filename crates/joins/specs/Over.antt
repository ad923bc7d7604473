-- What the walk of a cursor goes over.
use Rattle.std.specs.Prelude.{ℕ, Bool}
use Rattle.std.proofs.Props.{props}
use Rattle.hibits.specs.declared.walk.Walk.{Walk}
use Rattle.hibits.specs.WalkOf.{IsWalkOf}

-- the walk is over these layers, and their words are not counted. It stays closed above this crate, so that no proof about a cursor reads the words of its walk
unfoldable pub IsOver : (ℕ → ℕ → Bool) → Walk → Type 0
IsOver has w = IsWalkOf has 0 w

-- a fact
pub over_is_fact : (has : ℕ → ℕ → Bool) (w : Walk) → IsProp (IsOver has w)
unfolding IsOver
over_is_fact has w = Prim.hlevel props
