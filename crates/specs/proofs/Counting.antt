-- How many marked there are.
use Rattle.std.proofs.Common.{◌≡◌, ℕ, Bool, true, List, [], ◌∷◌, length, refl, arith}
use Rattle.std.specs.List.{Contains}
use Rattle.std.proofs.lemmas.List.{length-map}
use Rattle.std.proofs.lemmas.List.Elements.{All-contains_itself}
use Rattle.hibits.specs.Left.{left, contains-left}
use Rattle.entities.specs.Population.{Population}
use Rattle.entities.specs.Merges.{the_marked, living_entity}

empty : (xs : List ℕ) → ((i : ℕ) → Contains xs i → ⊥) → length xs ≡ 0
empty [] none = refl
empty (x ∷ xs) none = absurd (none x (All-contains_itself (x ∷ xs) 0 x (omega arith)))

-- where no index is in a set, nobody is counted
pub none_left : (p : ℕ → Bool) → ((i : ℕ) → p i ≡ true → ⊥) → length (left p 0) ≡ 0
none_left p none = empty (left p 0) (λ i c. none i (contains-left p 0 i c).2)

pub count_marked : (p : Population) → length (the_marked p) ≡ length (left p.marked 0)
count_marked p = length-map (left p.marked 0) (living_entity p)
