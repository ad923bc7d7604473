-- What a core shows, and what its calls make of that.
use Rattle.std.specs.Prelude.{◌≡◌, ℕ, true, List, Option}
use Rattle.std.specs.Option.{option_map}
use Rattle.hibits.specs.Left.{left}
use Rattle.entities.specs.declared.entity.Entity.{Entity}
use Rattle.entities.specs.Census.{population}
use Rattle.entities.specs.Population.{Population}
use Rattle.entities.specs.Deaths.{MayAllDie}
use Rattle.entities.specs.Merges.{the_marked, merge}
use Rattle.specs.specs.declared.command.SetExpr.{SetExpr}
use Rattle.specs.specs.declared.world.core_parts.Core.{Core}
use Rattle.specs.specs.declared.world.core_parts.Parts.{Parts}
use Rattle.specs.specs.declared.world.World.{World}
use Rattle.specs.specs.Slots.Column.{without_values}
use Rattle.specs.specs.Slots.Ids.{Ids}
use Rattle.specs.specs.World.People.{Deaths}
use Rattle.specs.specs.World.Sets.{is_member, is_registered}
use Rattle.specs.specs.Slots.Table.{Table, Inserts, Removes, WantsMemory}

-- entities, the values of each slot, and how many new ids the markers of each slot can still get
pub record State (K V : Type 0) : Type 0 where
  pub people : Population
  pub table : Table K V
  pub ids : Ids K

-- what entities and storages show
abbrev pub parts_state : {S K V : Type 0} → (S → Table K V) → (S → Ids K) → Parts S → State K V
parts_state table ids p = record { people = population p.entities; table = table p.storages; ids = ids p.storages }

-- what a core shows
abbrev pub core_state : {S K V : Type 0} → (S → Table K V) → (S → Ids K) → Core S → State K V
core_state table ids c = parts_state table ids c.parts

-- what a world's core shows
abbrev pub state_of : {S J K V : Type 0} → (S → Table K V) → (S → Ids K) → World S J K V → State K V
state_of table ids w = core_state table ids w.parts.core

-- only the population changed
pub record OnPeople {K V : Type 0} (change : Population → Population → Type 0) (old new : State K V) : Type 0 where
  pub people : change old.people new.people
  pub table : new.table ≡ old.table
  pub ids : new.ids ≡ old.ids

-- only the table changed
pub record OnTable {K V : Type 0} (change : Table K V → Table K V → Type 0) (old new : State K V) : Type 0 where
  pub people : new.people ≡ old.people
  pub table : change old.table new.table
  pub ids : new.ids ≡ old.ids

-- an entity that is alive gets the value, the one before is told, and nothing else changes
abbrev pub InsertsAlone : {K V : Type 0} → (V → K) → Entity → V → Option V → State K V → State K V → Type 0
InsertsAlone place e value before old new = OnTable (λ t t'. Inserts place old.people t e value before t') old new

-- the value of an entity that is alive is taken out and told, and nothing else changes
abbrev pub RemovesAlone : {K V : Type 0} → K → Entity → Option V → State K V → State K V → Type 0
RemovesAlone slot e found old new = OnTable (λ t t'. Removes old.people t slot e found t') old new

-- a death at once of a list, with all its components
pub record Deletes {K V : Type 0} (es : List Entity) (old new : State K V) : Type 0 where
  pub people : Deaths old.people es new.people
  pub table : (s : K) → new.table s ≡ option_map (without_values es) (old.table s)
  pub ids : new.ids ≡ old.ids

-- pending births are taken up, then the marked die, with all their components
abbrev pub merged : {K V : Type 0} → State K V → State K V
merged s = record { people = merge s.people; table = λ slot. option_map (without_values (the_marked s.people)) (s.table slot); ids = s.ids }

-- a death of a list wants memory only where the whole list may die, and somebody hears of some slot
pub record DeletionWantsMemory {K V : Type 0} (s : State K V) (es : List Entity) : Type 0 where
  pub may : MayAllDie s.people es
  pub wanted : WantsMemory s.table

-- the ascending list of the members of a set
pub record Selects {K V : Type 0} (old : State K V) (x : SetExpr K) (indices : List ℕ) : Type 0 where
  pub registered : is_registered old.table x ≡ true
  pub members : indices ≡ left (is_member old.people old.table x) 0
