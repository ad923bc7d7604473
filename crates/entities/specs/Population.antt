-- A population: how often each index was born, which live merged, which are pending, and which are marked.
use Rattle.std.specs.Prelude.{◌≡◌, ◌≢◌, ℕ, ℤ, pos, nat_abs, ◌+◌, ◌-◌, ◌<◌, Bool, true, false, not, ◌&&◌, ◌||◌, ◌⊎◌, nat_lt, ◌==◌, if◌then◌else◌, Option, Some, None}
use lib.IntN.{neg_ℤ}
use Rattle.hibits.specs.declared.limits.TheConstants.{INDEX_LIMIT}
use Rattle.entities.specs.declared.entity.TheConstants.{LAST_GENERATION}
use Rattle.entities.specs.declared.entity.Entity.{Entity}
use Rattle.entities.specs.declared.entity.Generation.{Generation}

abbrev pub index_of : Entity → ℕ
index_of e = e.0

abbrev pub number_of : Generation → ℤ
number_of g = g.0

abbrev pub generation_of : Entity → ℤ
generation_of e = number_of e.1

pub record Population : Type 0 where
  pub births : ℕ → ℕ
  pub merged : ℕ → Bool
  pub pending : ℕ → Bool
  pub marked : ℕ → Bool

abbrev pub no_one : Population
no_one = record { births = λ _. 0; merged = λ _. false; pending = λ _. false; marked = λ _. false }

-- merged or pending
abbrev pub lives : Population → ℕ → Bool
lives p i = p.merged i || p.pending i

abbrev pub IsAlive : Population → Entity → Type 0
IsAlive p e = (lives p (index_of e) ≡ true) × (generation_of e ≡ pos (p.births (index_of e)))

abbrev pub IsMerged : Population → Entity → Type 0
IsMerged p e = (p.merged (index_of e) ≡ true) × (generation_of e ≡ pos (p.births (index_of e)))

abbrev pub last_generation : ℕ
last_generation = nat_abs LAST_GENERATION

-- born, dead, and not at its last generation
abbrev pub is_free : Population → ℕ → Bool
is_free p i = not (lives p i) && (nat_lt 0 (p.births i) && nat_lt (p.births i) last_generation)

abbrev pub NoneFree : Population → Type 0
NoneFree p = (i : ℕ) → is_free p i ≡ false

abbrev pub IsLeastUnused : Population → ℕ → Type 0
IsLeastUnused p i = (p.births i ≡ 0) × ((j : ℕ) → j < i → p.births j ≢ 0)

abbrev pub NoneUnused : Population → Type 0
NoneUnused p = (i : ℕ) → i < INDEX_LIMIT → p.births i ≢ 0

-- a birth takes any free index, else the least unused one
abbrev pub MayBeBorn : Population → ℕ → Type 0
MayBeBorn p i = (is_free p i ≡ true) ⊎ (NoneFree p × IsLeastUnused p i × (i < INDEX_LIMIT))

-- a set with one index more
abbrev pub with_one : (ℕ → Bool) → ℕ → ℕ → Bool
with_one s i j = (j == i) || s j

abbrev pub one_birth : (ℕ → ℕ) → ℕ → ℕ → ℕ
one_birth b i j = if j == i then b j + 1 else b j

-- a birth at once
abbrev pub born : Population → ℕ → Population
born p i = record { births = one_birth p.births i; merged = with_one p.merged i; pending = p.pending; marked = p.marked }

abbrev pub born_pending : Population → ℕ → Population
born_pending p i = record { births = one_birth p.births i; merged = p.merged; pending = with_one p.pending i; marked = p.marked }

abbrev pub born_as : Bool → Population → ℕ → Population
born_as pending p i = if pending then born_pending p i else born p i

abbrev pub mark : Population → ℕ → Population
mark p i = record { births = p.births; merged = p.merged; pending = p.pending; marked = with_one p.marked i }

-- the entity is marked, if it lives; nothing else changes
abbrev pub MarkedIfAlive : Population → Entity → Population → Type 0
MarkedIfAlive p e p' = (IsAlive p e → p' ≡ mark p (index_of e)) × ((IsAlive p e → ⊥) → p' ≡ p)

-- the generation that an index has: below zero when dead, and 1 before its first birth
abbrev pub generation_now : Population → ℕ → ℤ
generation_now p i = if lives p i then pos (p.births i) else (if p.births i == 0 then pos 1 else neg_ℤ (pos (p.births i)))

-- the population without its pending births
abbrev pub settled : Population → Population
settled p = record { births = λ i. if p.pending i then p.births i - 1 else p.births i; merged = p.merged; pending = λ _. false; marked = p.marked }

-- the generation that an index has without pending births, where any birth is left
abbrev pub generation_merged : Population → ℕ → Option ℤ
generation_merged p i = if (settled p).births i == 0 then None else Some (generation_now (settled p) i)

-- the generation that a refused death is told
abbrev pub generation_reported : Population → ℕ → ℤ
generation_reported p i = if (settled p).births i == 0 then pos 1 else generation_now (settled p) i
