-- The entities that the next births make: of the free indices from the last one on, then of the least unused ones.
use Rattle.std.specs.Prelude.{ℕ, zero, suc, pos, ◌+◌, ◌-◌, nat_lt, List, [], ◌∷◌, ◌++◌, length, slice_index, if◌then◌else◌}
use Rattle.entities.specs.declared.entity.Entity.{Entity}
use Rattle.entities.specs.Census.{Census, births_of}

abbrev pub next_index : Census → ℕ → ℕ
next_index c t = if nat_lt t (length c.free) then slice_index c.free (length c.free - 1 - t) else length c.generations + (t - length c.free)

abbrev pub next_entity : Census → ℕ → Entity
next_entity c t = record { 0 = next_index c t; 1 = record { 0 = pos (births_of c.generations (next_index c t) + 1) } }

-- the first n of them
abbrev pub upcoming : Census → ℕ → List Entity
upcoming c zero = []
upcoming c (suc n) = upcoming c n ++ next_entity c n ∷ []
