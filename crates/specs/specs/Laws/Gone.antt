-- Entities that were given, and are not alive.
use Rattle.std.specs.Prelude.{◌≡◌, ℕ, pos, ◌≤◌}
use Rattle.entities.specs.declared.entity.Entity.{Entity}
use Rattle.entities.specs.Population.{index_of, generation_of, Population, IsAlive, IsMerged}

-- its index was born at least as often as its generation says
pub record WasGiven (p : Population) (e : Entity) : Type 0 where
  pub number : ℕ
  pub generation : generation_of e ≡ pos number
  pub reached : number ≤ p.births (index_of e)

-- it was given, and is not alive
pub record IsGone (p : Population) (e : Entity) : Type 0 where
  pub given : WasGiven p e
  pub dead : IsAlive p e → ⊥
  pub unmerged : IsMerged p e → ⊥

-- who was gone before is gone after
abbrev pub KeepsGone : Population → Population → Type 0
KeepsGone p q = (e : Entity) → IsGone p e → IsGone q e
