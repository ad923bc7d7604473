-- What a storage means that has no slice.
use Rattle.std.specs.Prelude.{[]}
use Rattle.storages.specs.Meaning.{Meaning, IsNew}

module _ {T : Type 0} where
  -- the same without the order of a slice
  abbrev pub unordered : Meaning T → Meaning T
  unordered m = record m { order = [] }

  pub new_unordered : (m : Meaning T) → IsNew m → IsNew (unordered m)
  new_unordered m h = record { free = h.free; extent = h.extent; registered = h.registered; readers = h.readers; emission = h.emission; room = h.room; inner_room = h.inner_room }
