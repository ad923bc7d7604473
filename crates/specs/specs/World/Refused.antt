-- Refusals of the world's own calls.
use Rattle.std.specs.Prelude.{◌≡◌, Bool, List}
use Rattle.entities.specs.declared.entity.Entity.{Entity}
use Rattle.entities.specs.declared.allocator.births.CreateError.{CreateError}
use Rattle.entities.specs.declared.allocator.births.CreateError.TheVariants.{IndexLimit as NoIndex, OutOfMemory as NoRoom}
use Rattle.entities.specs.Population.{Population, born_as}
use Rattle.specs.specs.declared.world.core_parts.DeleteError.{DeleteError}
use Rattle.specs.specs.declared.world.core_parts.DeleteError.TheVariants.{WrongGeneration as NotDeleted, OutOfMemory as NoMemory}
use Rattle.specs.specs.declared.command.Reply.{Reply}
use Rattle.specs.specs.declared.command.Reply.TheVariants.{Entity as Told, Count, Refused}
use Rattle.specs.specs.declared.command.Refusal.{Refusal}
use Rattle.specs.specs.declared.command.Refusal.TheVariants.{WrongGeneration as Wrong, OutOfMemory}
use Rattle.specs.specs.World.People.{Births, BirthIsRefused, BirthWantsMemory, DeathIsRefused, IsFull}
use Rattle.specs.specs.Slots.Table.{Table, Counts, IsUnregistered}
use Rattle.specs.specs.World.State.{State, OnPeople, DeletionWantsMemory}

-- why a creation is refused
abbrev pub CreateIsRefused : Population → CreateError → Type 0
CreateIsRefused p NoIndex = IsFull p
CreateIsRefused p NoRoom = BirthWantsMemory p

abbrev pub DeleteIsRefused : {K V : Type 0} → State K V → List Entity → DeleteError → Type 0
DeleteIsRefused s es (NotDeleted w) = DeathIsRefused s.people es w
DeleteIsRefused s es NoMemory = DeletionWantsMemory s es

-- the same refusal, as a command tells it
abbrev pub refusal_of : DeleteError → Refusal
refusal_of (NotDeleted w) = Wrong w
refusal_of NoMemory = OutOfMemory

-- a birth, at once or pending, with its reply
abbrev pub BirthStep : {K V : Type 0} → Bool → State K V → Reply V → State K V → Type 0
BirthStep pending old (Told e) new = OnPeople (λ p p'. Births (born_as pending) p e p') old new
BirthStep pending old (Refused r) new = BirthIsRefused old.people r × (new ≡ old)
BirthStep pending old reply new = ⊥

-- how many values a slot has, as a reply
abbrev pub CountStep : {K V : Type 0} → Table K V → K → Reply V → Type 0
CountStep table slot (Count n) = Counts table slot n
CountStep table slot (Refused r) = IsUnregistered table slot r
CountStep table slot reply = ⊥
