-- Calls of a closure, one after another.
use Rattle.std.proofs.Common.{◌≡◌, ℕ, ◌+◌, add-one, sym, subst}
use Rattle.specs.specs.Job.Repeating.{CallsInTurn}

module _ {F X : Type 0} (step : F → X → F → X → Type 0) (f : F) (x : X) where
  -- one call more
  pub one_call_more : (n : ℕ) (h : F) (z : X) (g : F) (y : X) → CallsInTurn step n f x h z → step h z g y → CallsInTurn step (n + 1) f x g y
  one_call_more n h z g y calls call = subst (λ k. CallsInTurn step k f x g y) (sym (add-one n)) (h, z, calls, call)
