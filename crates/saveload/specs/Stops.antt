-- Why a load stopped, and what it keeps.
use Rattle.std.specs.Prelude.{◌≡◌, ℕ, List, ◌∷◌, ◌++◌, map, Bool, ◌⊎◌, Option}
use Rattle.std.specs.String.{string_bytes}
use Rattle.entities.specs.declared.allocator.births.CreateError.{CreateError}
use Rattle.entities.specs.declared.allocator.births.CreateError.TheVariants as creating
use Rattle.entities.specs.declared.entity.Entity.{Entity}
use Rattle.entities.specs.Census.{Census}
use Rattle.storages.specs.Slot.{Slot}
use Rattle.entities.specs.Population.{Population, NoneFree, NoneUnused, index_of}
use Rattle.saveload.specs.declared.entity_data.EntityData.{EntityData}
use Rattle.saveload.specs.declared.error.LoadError.{LoadError}
use Rattle.saveload.specs.declared.error.LoadError.TheVariants.{NotTheForm, IndexLimit, Custom, OutOfMemory}
use Rattle.saveload.specs.Conversion.{Conversion, GivesEach}
use Rattle.saveload.specs.Naming.{Naming, naming, Names, NamesNone, NamesAll}
use Rattle.saveload.specs.Places.{place, both}
use Rattle.saveload.specs.Loads.{Loading, loading, Loads, named, row_put, beside}
use Rattle.saveload.specs.Tuples.{three, four, five, six}

-- what a load says where no entity could be made
abbrev pub of_creating : CreateError → LoadError
of_creating creating.IndexLimit = IndexLimit
of_creating creating.OutOfMemory = OutOfMemory

-- one of these causes, or want of memory
abbrev pub IsOfStoring : (List ℕ → Type 0) → LoadError → Type 0
IsOfStoring causes NotTheForm = ⊥
IsOfStoring causes IndexLimit = ⊥
IsOfStoring causes (Custom t) = causes (string_bytes t)
IsOfStoring causes OutOfMemory = Unit {0}

-- want of memory, or of indices: none is free, and none is unused
abbrev pub IsOfNaming : Population → LoadError → Type 0
IsOfNaming people NotTheForm = ⊥
IsOfNaming people IndexLimit = NoneFree people × NoneUnused people
IsOfNaming people (Custom t) = ⊥
IsOfNaming people OutOfMemory = Unit {0}

-- of what was saved, the error, an old row and a new one: the row that is left
abbrev pub Partial : Type 0 → Type 0 → Type 1
Partial D V = D → LoadError → V → V → V → Type 0

-- the causes for which what was saved at a place is refused
abbrev pub Causes : Type 0 → Type 1
Causes D = D → List ℕ → Type 0

-- refused at its one place, for a cause of that place: the old one's is left
abbrev pub PartlyOne : {D X : Type 0} → Causes D → Partial D X
PartlyOne causes d e old new mid = IsOfStoring (causes d) e × (mid ≡ old)

-- refused at the first place, for a cause of that place: the old row is left; or at the rest: the new one's first place is left, and what the rest leaves
abbrev pub PartlyPair : {D R X Y : Type 0} → Causes D → Partial R Y → Partial (D × R) (X × Y)
PartlyPair causes PartlyRest d e old new mid = (IsOfStoring (causes d.0) e × (mid ≡ old)) ⊎ ((mid.0 ≡ new.0) × PartlyRest d.1 e old.1 new.1 mid.1)

-- refused at a place for a cause of that place: the places before it are the new row's, it and those after it the old one's
abbrev pub PartlyTwo : {A B X Y : Type 0} → Causes A → Causes B → Partial (A × B) (X × Y)
PartlyTwo c1 c2 = PartlyPair c1 (PartlyOne c2)

abbrev pub PartlyThree : {A B C X Y Z : Type 0} → Causes A → Causes B → Causes C → Partial (A × B × C) (X × Y × Z)
PartlyThree c1 c2 c3 d e old new mid = PartlyPair c1 (PartlyTwo c2 c3) (three.nest d) e (three.nest old) (three.nest new) (three.nest mid)

abbrev pub PartlyFour : {A B C D W X Y Z : Type 0} → Causes A → Causes B → Causes C → Causes D
    → Partial (A × B × C × D) (W × X × Y × Z)
PartlyFour c1 c2 c3 c4 d e old new mid = PartlyPair c1 (PartlyThree c2 c3 c4) (four.nest d) e (four.nest old) (four.nest new) (four.nest mid)

abbrev pub PartlyFive : {A B C D E V W X Y Z : Type 0} → Causes A → Causes B → Causes C → Causes D → Causes E
    → Partial (A × B × C × D × E) (V × W × X × Y × Z)
PartlyFive c1 c2 c3 c4 c5 d e old new mid = PartlyPair c1 (PartlyFour c2 c3 c4 c5) (five.nest d) e (five.nest old) (five.nest new) (five.nest mid)

abbrev pub PartlySix : {A B C D E F U V W X Y Z : Type 0} → Causes A → Causes B → Causes C → Causes D → Causes E → Causes F
    → Partial (A × B × C × D × E × F) (U × V × W × X × Y × Z)
PartlySix c1 c2 c3 c4 c5 c6 d e old new mid = PartlyPair c1 (PartlyFive c2 c3 c4 c5 c6) (six.nest d) e (six.nest old) (six.nest new) (six.nest mid)

-- at an index some first places of a row are stored, and not all
pub record PutsPartly {V : Type 0} (Partly : V → V → V → Type 0) (old : ℕ → V) (i : ℕ) (row : V) (new : ℕ → V) : Type 0 where
  pub mid : V
  pub part : Partly (old i) row mid
  pub rows : new ≡ row_put old i mid

-- the places of what was saved before the one that an error refuses are put at an entity's index, by what a closure answers
abbrev pub PutsSome : {M V D : Type 0} → Partial D V → Conversion M V D → (M → Option Entity → Type 0) → D → Entity → LoadError
    → (ℕ → V) → (ℕ → V) → Type 0
PutsSome {M} Partly c post d e why old new = (f : M → Entity) → GivesEach post (c.mentions d) f → PutsPartly (Partly d why) old (index_of e) (c.loaded f d) new

-- the ids before one are named, that one isn't, and why
pub record StopsNaming {I : Type 0} (eq : I → I → Bool) (old : Naming I) (ids : List I) (e : LoadError) (new : Naming I) : Type 0 where
  pub before : List I
  pub id : I
  pub rest : List I
  pub list : ids ≡ before ++ id ∷ rest
  pub mid : Naming I
  pub named : NamesAll eq old before mid
  pub none : NamesNone eq mid id new
  pub why : IsOfNaming mid.people e

module _ {M I V D : Type 0} (id_of : M → I) (eq : I → I → Bool) (c : Conversion M V D) (Partly : Partial D V) where
  -- its own id, or one that its components mention, is not named; no place is stored
  pub record NotNamed (old : Loading I V) (r : EntityData M D) (e : LoadError) (new : Loading I V) : Type 0 where
    pub stops : StopsNaming eq old.naming (id_of r.marker ∷ map id_of (c.mentions r.components)) e new.naming
    pub rows : new.rows ≡ old.rows

  -- its own id is named, and there is no memory for a list of those that its components mention
  pub record NotListed (old : Loading I V) (r : EntityData M D) (e : LoadError) (new : Loading I V) : Type 0 where
    pub entity : Entity
    pub own : Names eq old.naming (id_of r.marker) entity new.naming
    pub rows : new.rows ≡ old.rows
    pub why : e ≡ OutOfMemory

  -- all are named; the places before one are stored, and that one is refused
  pub record NotStored (old : Loading I V) (r : EntityData M D) (e : LoadError) (new : Loading I V) : Type 0 where
    pub entity : Entity
    pub mid : Naming I
    pub own : Names eq old.naming (id_of r.marker) entity mid
    pub mentioned : NamesAll eq mid (map id_of (c.mentions r.components)) new.naming
    pub row : PutsPartly (Partly r.components e) old.rows (index_of entity) (c.loaded (named id_of new.naming.mapping) r.components) new.rows
    pub why : IsOfStoring (c.unloaded r.components) e

  abbrev pub RefusesRecord : Loading I V → EntityData M D → LoadError → Loading I V → Type 0
  RefusesRecord old r e new = NotNamed old r e new ⊎ (NotListed old r e new ⊎ NotStored old r e new)

  -- the records before the refused one are loaded, and none after it
  pub record Stops (old : Loading I V) (rs : List (EntityData M D)) (e : LoadError) (new : Loading I V) : Type 0 where
    pub before : List (EntityData M D)
    pub refused : EntityData M D
    pub rest : List (EntityData M D)
    pub list : rs ≡ before ++ refused ∷ rest
    pub mid : Loading I V
    pub loaded : Loads id_of eq c old before mid
    pub stopped : RefusesRecord mid refused e new

-- why one record of a load was refused, or a list, and what it keeps, by what is lent to it
module _ {M I V D A P : Type 0} (id_of : M → I) (eq : I → I → Bool) (c : Conversion M V D) (Partly : Partial D V) (mapping : A → I → Option Entity) (left : A → List I → Option ℕ) (rows : P → ℕ → V) where
  abbrev pub RefusesOneInto : Census → A → Slot M → P → EntityData M D → LoadError → Census → A → Slot M → P → Type 0
  RefusesOneInto entities a markers p r e entities' a' markers' p' =
      RefusesRecord id_of eq c Partly (loading id_of mapping left rows entities a markers p) r e (loading id_of mapping left rows entities' a' markers' p')

  abbrev pub StopsInto : Census → A → Slot M → P → List (EntityData M D) → LoadError → Census → A → Slot M → P → Type 0
  StopsInto entities a markers p rs e entities' a' markers' p' =
      Stops id_of eq c Partly (loading id_of mapping left rows entities a markers p) rs e (loading id_of mapping left rows entities' a' markers' p')

-- of the ids of some markers the first ones are named, and the next is not, by what is lent to a load
abbrev pub StopsNamingOf : {M I A : Type 0} → (M → I) → (I → I → Bool) → (A → I → Option Entity) → (A → List I → Option ℕ) → Census → A → Slot M
    → List M → LoadError → Census → A → Slot M → Type 0
StopsNamingOf id_of eq mapping left entities a markers ms e entities' a' markers' =
    StopsNaming eq (naming id_of mapping left entities a markers) (map id_of ms) e (naming id_of mapping left entities' a' markers')

-- of a first place and the rest of a row those before the refused one are stored
abbrev pub PutsSomeWithRest : {M T D W E : Type 0} → Partial E W → Conversion M T D → Conversion M W E → (M → Option Entity → Type 0) → Option D × E → Entity → LoadError
    → Slot T → (ℕ → W) → Slot T → (ℕ → W) → Type 0
PutsSomeWithRest Partly a r post d e why first rest first' rest' = PutsSome (PartlyPair (place a).unloaded Partly) (both (place a) r) post d e why (beside first rest) (beside first' rest')
