-- What an entity finds in a storage.
use Rattle.std.specs.Prelude.{Option, None, cond}
use Rattle.std.specs.FinMap as map
use Rattle.entities.specs.Census.{Census, population}
use Rattle.entities.specs.Population.{index_of}
use Rattle.entities.specs.declared.entity.Entity.{Entity}
use Rattle.storages.specs.Slot.{Slot}
use Rattle.storages.specs.Life.{is_alive}

-- the component of an entity that is alive
abbrev pub found_in : {T : Type 0} → Census → Slot T → Entity → Option T
found_in entities s e = cond (is_alive (population entities) e) (map.get s.map (index_of e)) None
