-- What a storage of one value means.
use Rattle.std.specs.Prelude.{true, Some, None, [], refl}
use Rattle.storages.specs.Channel.{silent}
use Rattle.storages.specs.Meaning.{Meaning, IsNew}

-- the one value is shown at each index
abbrev pub meaning_of : {T : Type 0} → T → Meaning T
meaning_of x = record { at = λ _. Some x; is_free = λ _. true; extent = None; order = []; channel = silent; room = None; inner_room = None }

pub new_of_value : {T : Type 0} (x : T) → IsNew (meaning_of x)
new_of_value x = record { free = λ q. refl; extent = refl; registered = refl; readers = refl; emission = refl; room = refl; inner_room = refl }
