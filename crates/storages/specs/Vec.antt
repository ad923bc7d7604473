-- What a vector of options means.
use Rattle.std.specs.Prelude.{◌≡◌, ℕ, true, Option, None, Some, List, [], slice_get, is_none, length, refl}
use Rattle.std.proofs.Common.{ap}
use Rattle.storages.specs.Channel.{silent}
use Rattle.storages.specs.Meaning.{Meaning, IsNew}

module _ {T : Type 0} where
  -- a place that is missing is empty
  abbrev pub flat : Option (Option T) → Option T
  flat None = None
  flat (Some x) = x

  -- what the place of an index has
  abbrev pub value_at : List (Option T) → ℕ → Option T
  value_at xs q = flat (slice_get xs q)

  abbrev pub meaning_of : List (Option T) → Meaning T
  meaning_of xs = record { at = value_at xs; is_free = λ q. is_none (value_at xs q); extent = Some (length xs); order = []; channel = silent; room = None; inner_room = None }

pub free_of_empty : {T : Type 0} (xs : List (Option T)) → xs ≡ [] → (q : ℕ) → is_none (value_at xs q) ≡ true
free_of_empty xs e q = ap (λ (ys : List (Option _)). is_none (value_at ys q)) e

pub new_of_empty : {T : Type 0} (xs : List (Option T)) → xs ≡ [] → IsNew (meaning_of xs)
new_of_empty xs e = record { free = free_of_empty xs e; extent = ap (λ (ys : List (Option _)). Some (length ys)) e; registered = refl; readers = refl; emission = refl; room = refl; inner_room = refl }
