-- Which entity each id is mapped to, where only those that live and have a marker count.
use Rattle.std.specs.Prelude.{ℕ, Bool, List, [], ◌∷◌, Option, Some, None}
use Rattle.entities.specs.declared.entity.Entity.{Entity}
use Rattle.entities.specs.Population.{Population, index_of}
use Rattle.storages.specs.Slot.{Slot}
use Rattle.saveload.specs.Naming.{ids_in, put_id}
use Rattle.saveload.specs.Saved.{all_marked}

module _ {I : Type 0} (eq : I → I → Bool) where
  -- an entity's id is mapped to it, if it has one
  abbrev pub put_own : Option I → Entity → (I → Option Entity) → I → Option Entity
  put_own None e m = m
  put_own (Some id) e m = put_id eq m id e

  -- the ids of a list of entities, one after another
  abbrev pub put_all : (ℕ → Option I) → List Entity → (I → Option Entity) → I → Option Entity
  put_all id_at [] m = m
  put_all id_at (e ∷ es) m = put_all id_at es (put_own (id_at (index_of e)) e m)

-- the ids of those that live and have a marker, ascending, and no other id
abbrev pub living_ids : {M I : Type 0} → (M → I) → (I → I → Bool) → Population → Slot M → I → Option Entity
living_ids id_of eq people s = put_all eq (ids_in id_of s) (all_marked people s) (λ _. None)
