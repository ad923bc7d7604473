-- Naming: which entity each id names, made where there is none.
use Rattle.std.specs.Prelude.{◌≡◌, ℕ, ◌+◌, pos, Bool, List, [], ◌∷◌, Option, Some, ◌⊎◌, map as list_map, option_map, ◌==◌, if◌then◌else◌}
use Rattle.std.specs.FinMap as map
use Rattle.entities.specs.declared.entity.Entity.{Entity}
use Rattle.entities.specs.Population.{Population, IsAlive, MayBeBorn, NoneFree, NoneUnused, born_pending, mark, index_of, generation_of}
use Rattle.entities.specs.Census.{Census, population}
use Rattle.storages.specs.Slot.{Slot}

-- what naming reads and changes: the population, the allocator's map from ids, how many new ids are left once some were given from
-- outside, and the id of each index's marker
pub record Naming (I : Type 0) : Type 0 where
  pub people : Population
  pub mapping : I → Option Entity
  pub left : List I → Option ℕ
  pub markers : ℕ → Option I

-- the ids of the markers
abbrev pub ids_in : {M I : Type 0} → (M → I) → Slot M → ℕ → Option I
ids_in id_of s i = option_map id_of (map.get s.map i)

abbrev pub naming : {M I A : Type 0} → (M → I) → (A → I → Option Entity) → (A → List I → Option ℕ) → Census → A → Slot M → Naming I
naming id_of mapping left c a s = record { people = population c; mapping = mapping a; left = left a; markers = ids_in id_of s }

-- an id more, by the test of ids
abbrev pub put_id : {I : Type 0} → (I → I → Bool) → (I → Option Entity) → I → Entity → I → Option Entity
put_id eq m id e q = if eq id q then Some e else m q

-- how many are left once an id was given, and then others
abbrev pub once_given : {I : Type 0} → (List I → Option ℕ) → I → List I → Option ℕ
once_given left id ids = left (id ∷ ids)

abbrev pub put_at : {X : Type 0} → (ℕ → Option X) → ℕ → X → ℕ → Option X
put_at m i x j = if i == j then Some x else m j

-- the id names an entity that is there: mapped to it, alive, and marked with it
pub record Knows {I : Type 0} (s : Naming I) (id : I) (e : Entity) : Type 0 where
  pub mapped : s.mapping id ≡ Some e
  pub alive : IsAlive s.people e
  pub agrees : s.markers (index_of e) ≡ Some id

-- no entity is there that the id names
abbrev pub NamesNobody : {I : Type 0} → Naming I → I → Type 0
NamesNobody s id = (e : Entity) → Knows s id e → ⊥

-- an entity is there that the id names, or an index for a new one: one is free, or one is unused
abbrev pub CanBeNamed : {I : Type 0} → Naming I → I → Type 0
CanBeNamed s id = NamesNobody s id → NoneFree s.people × NoneUnused s.people → ⊥

-- the id names a new entity, which gets the marker
pub record Makes {I : Type 0} (eq : I → I → Bool) (old : Naming I) (id : I) (e : Entity) (new : Naming I) : Type 0 where
  pub unknown : NamesNobody old id
  pub may : MayBeBorn old.people (index_of e)
  pub generation : generation_of e ≡ pos (old.people.births (index_of e) + 1)
  pub people : new.people ≡ born_pending old.people (index_of e)
  pub mapping : new.mapping ≡ put_id eq old.mapping id e
  pub left : new.left ≡ once_given old.left id
  pub markers : new.markers ≡ put_at old.markers (index_of e) id

abbrev pub Names : {I : Type 0} → (I → I → Bool) → Naming I → I → Entity → Naming I → Type 0
Names eq old id e new = (Knows old id e × (new ≡ old)) ⊎ Makes eq old id e new

-- no entity is named: nothing changed, or the id named nobody, and an entity was made that is marked and has no marker; the id may have been given, and mapped to it
pub record MakesMarked {I : Type 0} (eq : I → I → Bool) (old : Naming I) (id : I) (new : Naming I) : Type 0 where
  pub unknown : NamesNobody old id
  pub entity : Entity
  pub may : MayBeBorn old.people (index_of entity)
  pub generation : generation_of entity ≡ pos (old.people.births (index_of entity) + 1)
  pub people : new.people ≡ mark (born_pending old.people (index_of entity)) (index_of entity)
  pub given : ((new.mapping ≡ old.mapping) × (new.left ≡ old.left)) ⊎ ((new.mapping ≡ put_id eq old.mapping id entity) × (new.left ≡ once_given old.left id))
  pub markers : new.markers ≡ old.markers

abbrev pub NamesNone : {I : Type 0} → (I → I → Bool) → Naming I → I → Naming I → Type 0
NamesNone eq old id new = (new ≡ old) ⊎ MakesMarked eq old id new

-- where the id names an entity, its marker is updated by a newer one, and each other marker stays
abbrev pub UpdatesKnown : {M I : Type 0} → (M → M → M) → Naming I → I → M → Entity → Slot M → Slot M → Type 0
UpdatesKnown {M} updated old id newer e s s' = (m : M) → Knows old id e → map.get s.map (index_of e) ≡ Some m → s'.map ≡ map.insert s.map (index_of e) (updated m newer)

-- where it names nobody, the entity gets the newer marker as it is, and each other marker stays
abbrev pub PutsWhole : {M I : Type 0} → Naming I → I → M → Entity → Slot M → Slot M → Type 0
PutsWhole old id newer e s s' = NamesNobody old id → s'.map ≡ map.insert s.map (index_of e) newer

abbrev pub NamesAll : {I : Type 0} → (I → I → Bool) → Naming I → List I → Naming I → Type 0
NamesAll eq old [] new = new ≡ old
NamesAll {I} eq old (id ∷ ids) new = (e : Entity) × (mid : Naming I) × Names eq old id e mid × NamesAll eq mid ids new

-- the ids of some markers are named in order, by what is lent to a load
abbrev pub NamesAllOf : {M I A : Type 0} → (M → I) → (I → I → Bool) → (A → I → Option Entity) → (A → List I → Option ℕ) → Census → A → Slot M → List M → Census → A → Slot M → Type 0
NamesAllOf id_of eq mapping left entities a markers ms entities' a' markers' =
    NamesAll eq (naming id_of mapping left entities a markers) (list_map id_of ms) (naming id_of mapping left entities' a' markers')
