-- What a vector with default values at its unused places means.
use Rattle.std.specs.Prelude.{◌≡◌, true, Some, None, List, [], slice_get, length, refl}
use Rattle.std.proofs.Common.{ap}
use Rattle.storages.specs.Channel.{silent}
use Rattle.storages.specs.Meaning.{Meaning, IsNew}

-- each place shows its value, used or not
abbrev pub meaning_of : {T : Type 0} → List T → Meaning T
meaning_of xs = record { at = slice_get xs; is_free = λ _. true; extent = Some (length xs); order = []; channel = silent; room = None; inner_room = None }

pub new_of_empty : {T : Type 0} (xs : List T) → xs ≡ [] → IsNew (meaning_of xs)
new_of_empty xs e = record { free = λ q. refl; extent = ap (λ (ys : List _). Some (length ys)) e; registered = refl; readers = refl; emission = refl; room = refl; inner_room = refl }
