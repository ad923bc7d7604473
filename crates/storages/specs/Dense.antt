-- What dense tables mean.
use Rattle.std.specs.Prelude.{◌≡◌, ℕ, Bool, false, Option, None, Some, List, [], length, slice_get, cond, nat_eq, is_none, refl}
use Rattle.std.proofs.Common.{ap}
use Rattle.pages.specs.Paged.{Paged, HasPage}
use Rattle.storages.specs.Channel.{silent}
use Rattle.storages.specs.Meaning.{Meaning, IsNew}

-- whether the place has the id
abbrev pub has_there : Option ℕ → ℕ → Bool
has_there None q = false
has_there (Some i) q = nat_eq i q

module _ {T : Type 0} where
  -- the value at a place, if the place has the id
  abbrev pub value_there : List T → List ℕ → ℕ → Option ℕ → Option T
  value_there values ids q None = None
  value_there values ids q (Some p) = cond (has_there (slice_get ids p) q) (slice_get values p) None

  abbrev pub value_of : List T → List ℕ → List ℕ → ℕ → Option T
  value_of values ids places q = value_there values ids q (slice_get places q)

  abbrev pub meaning_of : List T → List ℕ → List ℕ → Meaning T
  meaning_of values ids places = record {
    at = value_of values ids places;
    is_free = λ q. is_none (value_of values ids places q);
    extent = None;
    order = ids;
    channel = silent;
    room = None;
    inner_room = None;
  }

-- each value has an id, and the place of that id is the value's
pub record IsConsistent (n : ℕ) (ids places : List ℕ) : Type 0 where
  pub lengths : length ids ≡ n
  pub placed : (k i : ℕ) → slice_get ids k ≡ Some i → slice_get places i ≡ Some k

-- the table of places has the page of each id of a value, where a page has `len` places
pub record ArePaged (len : ℕ) (ids : List ℕ) (places : Paged ℕ) : Type 0 where
  pub paged : (k i : ℕ) → slice_get ids k ≡ Some i → HasPage len places i

pub new_of_empty : {T : Type 0} (values : List T) (ids places : List ℕ) → places ≡ [] → IsNew (meaning_of values ids places)
new_of_empty values ids places e = record {
  free = λ q. ap (λ (ps : List ℕ). is_none (value_of values ids ps q)) e;
  extent = refl;
  registered = refl;
  readers =
      refl;
  emission = refl;
  room = refl;
  inner_room = refl;
}
