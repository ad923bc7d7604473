-- Whether an entity is alive, as an answer.
use Rattle.std.specs.Prelude.{Bool, ◌&&◌, pos}
use Rattle.std.specs.Ordering.{int_eq}
use Rattle.entities.specs.declared.entity.Entity.{Entity}
use Rattle.entities.specs.Population.{Population, lives, index_of, generation_of}

-- whether the entity's index lives, with the entity's generation
abbrev pub is_alive : Population → Entity → Bool
is_alive p e = lives p (index_of e) && int_eq (generation_of e) (pos (p.births (index_of e)))
