-- What a shared phase over a world's entities leaves, and a load into its parts.
use Rattle.std.specs.Prelude.{◌≡◌, ◌⊎◌, ℕ, true, Bool, List}
use Rattle.entities.specs.Population.{Population, lives}
use Rattle.entities.specs.Phase.Calls.{IsClosed}
use Rattle.entities.specs.Phase.Reserve.{IsReserve}
use Rattle.entities.specs.Phase.Trace.{Phase}
use Rattle.entities.specs.declared.phase.trace.Line.{Line}
use Rattle.saveload.specs.Conversion.{Conversion}
use Rattle.saveload.specs.Loads.{Loading, Loads}
use Rattle.saveload.specs.Stops.{Partial, Stops}
use Rattle.saveload.specs.declared.entity_data.EntityData.{EntityData}
use Rattle.saveload.specs.declared.error.LoadError.{LoadError}
use Rattle.specs.specs.Laws.Evolving.{Evolves, ValuesLive}
use Rattle.specs.specs.Laws.Gone.{KeepsGone}
use Rattle.specs.specs.Laws.Reached.{KeepsLiving}
use Rattle.specs.specs.World.State.{State}

-- a phase is closed, and no slot changed: each index with a value lives as before
abbrev pub PhasesKeepLiving : Type 0 → Type 0 → Type 0
PhasesKeepLiving K V = (old new : State K V) (o : Phase) (back : List Line) (births marks : ℕ) →
    IsReserve old.people o.reserve → IsClosed o back old.people new.people births marks → new.table ≡ old.table → KeepsLiving old new

-- and who was gone at the opening is gone
abbrev pub PhasesKeepGone : Type 0
PhasesKeepGone = (p q : Population) (o : Phase) (back : List Line) (births marks : ℕ) → IsClosed o back p q births marks → KeepsGone p q

-- after births, deaths, marks and merges it is enough that each index with a value lives
abbrev pub EvolvingKeepsLiving : Type 0 → Type 0 → Type 0
EvolvingKeepsLiving K V = (old new : State K V) → Evolves old.people new.people → (ValuesLive old → ValuesLive new) → KeepsLiving old new

abbrev pub EvolvingKeepsGone : Type 0
EvolvingKeepsGone = (p q : Population) → Evolves p q → KeepsGone p q

-- What was loaded, whole or until it was refused: births and marks alone, who was gone is gone, who lived lives, and a row or a marker changed at a living index alone
pub record LoadsAtTheLiving {I V : Type 0} (old new : Loading I V) : Type 0 where
  pub evolves : Evolves old.naming.people new.naming.people
  pub gone : KeepsGone old.naming.people new.naming.people
  pub lives_on : (i : ℕ) → lives old.naming.people i ≡ true → lives new.naming.people i ≡ true
  pub rows : (i : ℕ) → (new.rows i ≡ old.rows i) ⊎ (lives new.naming.people i ≡ true)
  pub markers : (i : ℕ) → (new.naming.markers i ≡ old.naming.markers i) ⊎ (lives new.naming.people i ≡ true)

module _ {M I V D : Type 0} (id_of : M → I) (eq : I → I → Bool) (c : Conversion M V D) where
  abbrev pub LoadsKeep : Type 0
  LoadsKeep = (old new : Loading I V) (rs : List (EntityData M D)) → Loads id_of eq c old rs new → LoadsAtTheLiving old new

  abbrev pub StopsKeep : Partial D V → Type 0
  StopsKeep Partly = (old new : Loading I V) (rs : List (EntityData M D)) (e : LoadError) → Stops id_of eq c Partly old rs e new → LoadsAtTheLiving old new
