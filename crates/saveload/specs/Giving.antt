-- Which ids a load gives.
use Rattle.std.specs.Prelude.{◌≡◌, ◌⊎◌, ◌<◌, ◌^◌, ℕ, nat_eq, Bool, List, ◌++◌, Some, None}
use Rattle.entities.specs.declared.entity.Entity.{Entity}
use Rattle.saveload.specs.declared.entity_data.EntityData.{EntityData}
use Rattle.saveload.specs.declared.simple.SimpleMarker.{SimpleMarker}
use Rattle.saveload.specs.Conversion.{Conversion, Has}
use Rattle.saveload.specs.Naming.{Naming}
use Rattle.saveload.specs.Loads.{Loading, Loads}
use Rattle.saveload.specs.Simple.{number_of_marker, numbers_past}

-- these ids were given, one after another, and of those that weren't mapped no other is
pub record Gives {I : Type 0} (old : Naming I) (ids : List I) (new : Naming I) : Type 0 where
  pub left : (more : List I) → new.left more ≡ old.left (ids ++ more)
  pub only : (id : I) (e : Entity) → new.mapping id ≡ Some e → (old.mapping id ≡ Some e) ⊎ Has ids id

-- each load gives some ids
abbrev pub GivesIds : {M I V D : Type 0} → (M → I) → (I → I → Bool) → Conversion M V D → Type 0
GivesIds {M} {I} {V} {D} id_of eq c = (rs : List (EntityData M D)) (old new : Loading I V) → Loads id_of eq c old rs new → (ids : List I) × Gives old.naming ids new.naming

-- after a load where no number was mapped, the next one is mapped to nobody
abbrev pub NextIsNew : {T V D : Type 0} → Conversion (SimpleMarker T) V D → Type 0
NextIsNew {T} {V} {D} c = (rs : List (EntityData (SimpleMarker T) D)) (old new : Loading ℕ V) (first next : ℕ) →
    ((id : ℕ) → old.naming.mapping id ≡ None) → old.naming.left ≡ numbers_past first → new.naming.left ≡ numbers_past next →
    Loads number_of_marker nat_eq c old rs new → next < 2 ^ 64 → new.naming.mapping next ≡ None
