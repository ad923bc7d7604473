-- What a storage to read beside the entities means.
use Rattle.std.specs.Prelude.{Option}
use Rattle.entities.specs.Census.{Census}
use Rattle.entities.specs.declared.entity.Entity.{Entity}
use Rattle.storages.specs.declared.read_storage.ReadStorage.{ReadStorage}
use Rattle.storages.specs.Slot.{Slot}
use Rattle.storages.specs.Found.{found_in}

module _ {T S : Type 0} where
  -- the storage behind the view
  abbrev pub slot : ReadStorage T S → Slot T
  slot v = v.data.now

  -- the entities beside it
  abbrev pub entities_of : ReadStorage T S → Census
  entities_of v = v.entities.now

  -- the component of an entity that is alive
  abbrev pub found : ReadStorage T S → Entity → Option T
  found v e = found_in (entities_of v) (slot v) e
