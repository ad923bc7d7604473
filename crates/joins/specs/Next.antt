-- The step of a walk to its next index.
use Rattle.std.specs.Prelude.{◌≡◌, ◌≤◌, ◌<◌, ℕ, Bool, [], ◌∷◌, Option, MatchOption, IfSome}
use Rattle.hibits.specs.Left.{left}
use Rattle.hibits.specs.declared.limits.TheConstants.{INDEX_LIMIT}

-- the walk goes from a place to behind the next index, or nothing is left from there on
abbrev pub StepsTo : (ℕ → Bool) → ℕ → ℕ → Option ℕ → Type 0
StepsTo has from to found = MatchOption found (left has from ≡ []) (λ i. left has from ≡ i ∷ left has to)

-- the same, with what is given at that index
abbrev pub GivesNext : {R : Type 0} → (ℕ → Bool) → (ℕ → R → Type 0) → ℕ → ℕ → Option R → Type 0
GivesNext has gives from to found = MatchOption found (left has from ≡ []) (λ r. (i : ℕ) × (left has from ≡ i ∷ left has to) × gives i r)

-- what is given behind a place by what is left was to be given before
abbrev pub GivesLater : {R : Type 0} → (ℕ → R → Type 0) → (ℕ → R → Type 0) → ℕ → Type 0
GivesLater {R} gives gives' from = (i : ℕ) (r : R) → from ≤ i → gives' i r → gives i r

-- what is given at an index by what is left was to be given there before
abbrev pub GivesStill : {R : Type 0} → (ℕ → R → Type 0) → (ℕ → R → Type 0) → Type 0
GivesStill {R} gives gives' = (i : ℕ) (r : R) → gives' i r → gives i r

-- a step that finds something goes on, and no further than the indices go
abbrev pub GoesForward : {R : Type 0} → ℕ → ℕ → Option R → Type 0
GoesForward from to found = IfSome found (λ _. (from < to) × (to ≤ INDEX_LIMIT))
