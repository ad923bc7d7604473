-- What an iterator that creates entities gives.
use Rattle.std.specs.Prelude.{◌≡◌, ◌⊎◌, ◌+◌, ◌<◌, ◌≤◌, pos, length, Bool, true, false, Option, Some, None, Result, Ok, Err}
use Rattle.std.specs.Borrow.{MutBor}
use Rattle.entities.specs.declared.allocator.births.CreateError.{CreateError}
use Rattle.entities.specs.declared.allocator.births.CreateError.TheVariants.{OutOfMemory}
use Rattle.entities.specs.declared.create_iter.CreateIterAtomic.{CreateIterAtomic}
use Rattle.entities.specs.declared.entity.Entity.{Entity}
use Rattle.hibits.specs.declared.limits.TheConstants.{INDEX_LIMIT}
use Rattle.entities.specs.Census.{Census, population}
use Rattle.entities.specs.Kept.{GrowsByNeed}
use Rattle.entities.specs.Population.{Population, MayBeBorn, NoneFree, NoneUnused, born_pending, index_of, generation_of}

-- the entities that it was lent
abbrev pub lent_to : CreateIterAtomic → MutBor Census
lent_to it = it.entities

-- whether it gave an error
abbrev pub has_failed : CreateIterAtomic → Bool
has_failed it = it.ended

-- the population as the iterator has it now
abbrev pub peopled : CreateIterAtomic → Population
peopled it = population (lent_to it).now

-- a birth, want of memory as the last item, or the end
abbrev pub Gives : CreateIterAtomic → Option (Result Entity CreateError) → CreateIterAtomic → Type 0
Gives old None new = (new ≡ old) × ((has_failed old ≡ true) ⊎ (NoneFree (peopled old) × NoneUnused (peopled old)))
Gives old (Some (Ok e)) new =
    (has_failed old ≡ false) × (has_failed new ≡ false) × MayBeBorn (peopled old) (index_of e) × (generation_of e ≡ pos ((peopled old).births (index_of e) + 1)) × (peopled new ≡ born_pending (peopled old) (index_of e)) × (index_of e < INDEX_LIMIT)
Gives old (Some (Err x)) new =
    (has_failed old ≡ false) × (has_failed new ≡ true) × (x ≡ OutOfMemory) × (length (lent_to old).now.generations < (lent_to old).now.room → ⊥) × NoneFree (peopled old) × (NoneUnused (peopled old) → ⊥) × ((lent_to new).now ≡ (lent_to old).now)

-- and it has the same entities, and no less room, and more only as a birth needs
abbrev pub CreatesNext : CreateIterAtomic → Option (Result Entity CreateError) → CreateIterAtomic → Type 0
CreatesNext old r new = ((lent_to new).ghost_name ≡ (lent_to old).ghost_name) × ((lent_to old).now.room ≤ (lent_to new).now.room) × GrowsByNeed (lent_to old).now (lent_to new).now × Gives old r new
