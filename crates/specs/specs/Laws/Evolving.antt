-- Populations that come of one another by steps of their own.
use Rattle.std.specs.Prelude.{◌≡◌, ℕ, zero, suc, true, Some, IsSome, ◌⊎◌, List}
use Rattle.entities.specs.declared.entity.Entity.{Entity}
use Rattle.entities.specs.Population.{Population, born, born_pending, lives}
use Rattle.entities.specs.Merges.{merge}
use Rattle.specs.specs.Slots.Column.{Column}
use Rattle.specs.specs.World.People.{Births, Deaths, Marks}
use Rattle.specs.specs.World.State.{State}

-- one birth, at once or pending, a death at once of a list, a mark, or a merge
abbrev pub OnePeopleStep : Population → Population → Type 0
OnePeopleStep p q =
    ((e : Entity) × Births born p e q) ⊎ (((e : Entity) × Births born_pending p e q) ⊎
    (((es : List Entity) × Deaths p es q) ⊎ (((e : Entity) × Marks p e q) ⊎ (q ≡ merge p))))

-- n steps
abbrev pub PeopleSteps : ℕ → Population → Population → Type 0
PeopleSteps zero p q = q ≡ p
PeopleSteps (suc n) p q = (mid : Population) × OnePeopleStep p mid × PeopleSteps n mid q

-- the one comes of the other by births, deaths, marks and merges
pub record Evolves (p q : Population) : Type 0 where
  pub count : ℕ
  pub steps : PeopleSteps count p q

-- each index with a value lives
abbrev pub ValuesLive : {K V : Type 0} → State K V → Type 0
ValuesLive {K} {V} s = (slot : K) (c : Column V) (i : ℕ) → s.table slot ≡ Some c → IsSome (c.values i) → lives s.people i ≡ true
