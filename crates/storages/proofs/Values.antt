-- On vectors of options.
use Rattle.std.proofs.Common.{◌≡◌, ℕ, List, [], ◌∷◌, ◌++◌, None, refl, zero, suc}
use Rattle.std.specs.Prelude.{Option}
use Rattle.storages.specs.Vec.{value_at}

-- an empty place more changes no value
pub value_at-push_none : {T : Type 0} (xs : List (Option T)) (q : ℕ) → value_at (xs ++ None ∷ []) q ≡ value_at xs q
value_at-push_none [] zero = refl
value_at-push_none [] (suc q) = refl
value_at-push_none (x ∷ xs) zero = refl
value_at-push_none (x ∷ xs) (suc q) = value_at-push_none xs q
