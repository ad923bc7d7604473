-- What the entities of a world end as, once their allocator was lent.
use Rattle.std.specs.Prelude.{◌≡◌, ℕ, Result, Ok, Err, Option, Some, None}
use Rattle.entities.specs.Census.{population}
use Rattle.entities.specs.Population.{MarkedIfAlive}
use Rattle.std.specs.Borrow.{Lends, RestsIfErr, MutBor, Fml}
use Rattle.entities.specs.Census.{Census}
use Rattle.entities.specs.declared.allocator.births.CreateError.{CreateError}
use Rattle.entities.specs.declared.entity.Entity.{Entity}
use Rattle.entities.specs.declared.res_builder.EntityResBuilder.{EntityResBuilder}
use Rattle.entities.specs.contracts.entities_res.EntitiesRes as whole
use Rattle.entities.specs.contracts.allocator.Allocator as part

-- they end as the allocator was left
abbrev pub LendsAllocator : MutBor Census → MutBor Census → Fml
LendsAllocator s r = Lends whole.the_row part.the_row s r (λ w. w)

abbrev pub Unchanged : MutBor Census → Census → Type 0
Unchanged s c = c ≡ s.now

-- the entities that a builder was lent
abbrev pub lent_to_builder : EntityResBuilder → MutBor Census
lent_to_builder b = b.entities

-- the entity that it builds
abbrev pub entity_built : EntityResBuilder → Entity
entity_built b = b.entity

abbrev pub name_of_builder : EntityResBuilder → ℕ
name_of_builder b = (lent_to_builder b).ghost_name

-- without a builder they end as they were
abbrev pub BuilderRests : MutBor Census → Result EntityResBuilder CreateError → Fml
BuilderRests s r = RestsIfErr whole.the_row s name_of_builder r (Unchanged s)

-- where an outcome was an error, the entity of a builder is marked, if it lives, and no room goes
abbrev pub KeptRests : {E : Type 0} → EntityResBuilder → Result EntityResBuilder E → Fml
KeptRests b r = RestsIfErr whole.the_row (lent_to_builder b) name_of_builder r (λ n. MarkedIfAlive (population (lent_to_builder b).now) (entity_built b) (population n) × (n.room ≡ (lent_to_builder b).now.room))

-- the error, if it is one
abbrev pub err_of : {T E : Type 0} → Result T E → Option E
err_of (Ok x) = None
err_of (Err e) = Some e
