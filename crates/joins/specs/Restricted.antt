-- What a restricted storage to read means.
use Rattle.std.specs.Prelude.{ℕ, Option}
use Rattle.entities.specs.Census.{Census}
use Rattle.entities.specs.declared.entity.Entity.{Entity}
use Rattle.storages.specs.declared.unprotected.Kind as kind
use Rattle.storages.specs.Found.{found_in}
use Rattle.storages.specs.Slot.{Slot}
use Rattle.joins.specs.declared.restricted.RestrictedStorage.{RestrictedStorage}
use Rattle.joins.specs.declared.restricted.PairedStorage.{PairedStorage}

module _ {T S : Type 0} where
  -- the storage, and the entities beside it
  abbrev pub slot : RestrictedStorage T S → Slot T
  slot v = v.storage.now

  abbrev pub entities_of : RestrictedStorage T S → Census
  entities_of v = v.entities.now

module _ {T S : Type 0} {u : kind.Ghosts S T} where
  -- of a storage with an index: the storage, the entities, the index, and the component of an entity that is alive
  abbrev pub paired_slot : PairedStorage T S u → Slot T
  paired_slot p = p.storage.now

  abbrev pub paired_entities : PairedStorage T S u → Census
  paired_entities p = p.entities.now

  abbrev pub paired_index : PairedStorage T S u → ℕ
  paired_index p = p.id

  abbrev pub paired_found : PairedStorage T S u → Entity → Option T
  paired_found p e = found_in (paired_entities p) (paired_slot p) e
