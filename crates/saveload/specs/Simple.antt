-- What a giver of numbers has given.
use Rattle.std.specs.Prelude.{◌≡◌, ℕ, ◌+◌, ◌-◌, ◌^◌, max, List, [], ◌∷◌, Option, Some, None, nat_eq}
use Rattle.std.specs.HashMap as hash
use Rattle.entities.specs.declared.entity.Entity.{Entity}
use Rattle.saveload.specs.declared.simple.SimpleMarker.{SimpleMarker}
use Rattle.saveload.specs.declared.simple.SimpleMarkerAllocator.{SimpleMarkerAllocator}

-- the number of a marker
abbrev pub number_of_marker : {T : Type 0} → SimpleMarker T → ℕ
number_of_marker m = m.id

-- the entity that each number is mapped to
abbrev pub given : {T : Type 0} → SimpleMarkerAllocator T → ℕ → Option Entity
given a = hash.get nat_eq a.mapping

-- how many numbers are left, from the next one on
abbrev pub numbers_from : ℕ → Option ℕ
numbers_from next = Some (2 ^ 64 - next)

pub numbers_are_counted : (next : ℕ) → numbers_from next ≡ None → ⊥
numbers_are_counted next drawn = cc

-- as many are left as from this number on, so it may come next
abbrev pub comes_next : Option ℕ → ℕ → Type 0
comes_next left id = left ≡ numbers_from id

-- how many are left once these were given from outside: none below one of them is new any more
abbrev pub numbers_past : ℕ → List ℕ → Option ℕ
numbers_past next [] = numbers_from next
numbers_past next (id ∷ ids) = numbers_past (max next (id + 1)) ids
