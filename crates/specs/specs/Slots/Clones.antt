-- How values are copied out of a slot.
use Rattle.std.specs.Prelude.{Option, Some, None}

-- which values a clone of one may be, and of which slots none takes memory
pub record Clones (K V : Type 0) : Type 1 where
  pub is_clone : V → V → Type 0
  pub is_free : K → Type 0

-- no value is a clone of another, and none is free: what is said of any clones holds of these
abbrev pub no_clones : {K V : Type 0} → Clones K V
no_clones = record { is_clone = λ _ _. ⊥; is_free = λ _. ⊥ }

-- there is nothing, and nothing was found, or there is a value, and a clone of it was found
abbrev pub IsCloned : {V : Type 0} → (V → V → Type 0) → Option V → Option V → Type 0
IsCloned R None None = Unit {0}
IsCloned R None (Some y) = ⊥
IsCloned R (Some x) None = ⊥
IsCloned R (Some x) (Some y) = R x y
