-- The JSON form of a saved list: an array of records. A record is an object of exactly the keys `components` and `marker`. `components` is an
-- array with one place for each storage: null for an absent component, an array of exactly one value for a present one.
use Rattle.std.specs.Prelude.{◌≡◌, ℕ, ◌==◌, List, [], ◌∷◌, ◌++◌, map, Bool, false, codes, length, take, Option, Some, None, option_map, option_and_then, if◌then◌else◌, is_some, ⊤}
use Rattle.json.specs.Tree.{HasNumbers}
use Rattle.serde_json.specs.Data.{Data, null, array, object, Items, no_items, item, Members, member, no_members}
use Rattle.serde_json.specs.Find.{get, at, as_null, as_array, as_object}
use Rattle.serde_json.specs.Events.{items_len, members_len}
use Rattle.serde_json.specs.Read.{of_json, read}
use Rattle.serde_json.specs.View.{items_of}
use Rattle.serde_json.specs.Written.{outline, compact_text}
use Rattle.saveload.specs.declared.entity_data.EntityData.{EntityData}

-- a place
abbrev pub place_json : {D : Type 0} → (D → Data) → Option D → Data
place_json json None = null
place_json json (Some d) = array (item (json d) no_items)

-- places, as one array
abbrev pub array_json : {D : Type 0} → (D → List Data) → D → Data
array_json places x = array (items_of (places x))

-- a record, by the value of its marker and its places
abbrev pub record_json : {M D : Type 0} → (M → Data) → (D → List Data) → EntityData M D → Data
record_json marker places r = object (member (codes "components") (array_json places r.components) (member (codes "marker") (marker r.marker) no_members))

-- a saved list
abbrev pub list_json : {M D : Type 0} → (M → Data) → (D → List Data) → List (EntityData M D) → Data
list_json marker places rs = array (items_of (map (record_json marker places) rs))

-- the item of an array of exactly one
abbrev pub only_of : Items → Option Data
only_of no_items = None
only_of (item d no_items) = Some d
only_of (item d (item e ds)) = None

abbrev pub only : Data → Option Data
only d = option_and_then only_of (as_array d)

-- what a place holds, if it is one
abbrev pub place_from : {D : Type 0} → (Data → Option D) → Data → Option (Option D)
place_from from d = if is_some (as_null d) then Some None else option_and_then (λ x. option_map Some (from x)) (only d)

-- an array of so many places
abbrev pub is_long : ℕ → Option Items → Bool
is_long n None = false
is_long n (Some ds) = items_len ds == n

abbrev pub has_places : ℕ → Data → Bool
has_places n d = is_long n (as_array d)

-- what the place of a number holds
abbrev pub place_at : {D : Type 0} → (Data → Option D) → ℕ → Data → Option (Option D)
place_at from n d = option_and_then (place_from from) (at n d)

abbrev pub two_of : Option Members → Bool
two_of None = false
two_of (Some ms) = members_len ms == 2

abbrev pub has_two_members : Data → Bool
has_two_members d = two_of (as_object d)

abbrev pub both_parts : {M D : Type 0} → Option D → Option M → Option (EntityData M D)
both_parts None m = None
both_parts (Some c) None = None
both_parts (Some c) (Some m) = Some (record { marker = m; components = c })

-- the record that a value is, if it has the form
abbrev pub record_from : {M D : Type 0} → (Data → Option M) → (Data → Option D) → Data → Option (EntityData M D)
record_from marker places d = if has_two_members d then both_parts (option_and_then places (get (codes "components") d)) (option_and_then marker (get (codes "marker") d)) else None

abbrev pub records_from : {M D : Type 0} → (Data → Option M) → (Data → Option D) → Items → Option (List (EntityData M D))
records_from marker places no_items = Some []
records_from marker places (item d ds) = option_and_then (λ r. option_map (λ rs. r ∷ rs) (records_from marker places ds)) (record_from marker places d)

-- the saved list that a value is, if it has the form
abbrev pub list_from : {M D : Type 0} → (Data → Option M) → (Data → Option D) → Data → Option (List (EntityData M D))
list_from marker places d = option_and_then (records_from marker places) (as_array d)

-- the tokens of a value are read as it: its numbers are in the ranges of those that are read
abbrev pub IsKept : Data → Type 0
IsKept d = HasNumbers (outline d) × (of_json (outline d) ≡ Some d)

-- what is written of x is read as x, wherever it stands in a text
abbrev pub IsRead : {D : Type 0} → (D → Data) → (Data → Option D) → D → Type 0
IsRead json from x = IsKept (json x) × (from (json x) ≡ Some x)

abbrev pub AllRead : {D : Type 0} → (D → Data) → (Data → Option D) → List D → Type 0
AllRead json from [] = ⊤
AllRead json from (x ∷ xs) = IsRead json from x × AllRead json from xs

-- a list still begins with what it was
abbrev pub Begins : {X : Type 0} → List X → List X → Type 0
Begins old new = take (length old) new ≡ old

-- the compact text of x is written behind a text
abbrev pub Writes : {D : Type 0} → (D → Data) → (Data → Option D) → D → List ℕ → List ℕ → Type 0
Writes json from x old new = (new ≡ old ++ compact_text (json x)) × IsRead json from x

-- the compact text of x stands at the front of a text, and a rest behind it
abbrev pub Takes : {D : Type 0} → (D → Data) → (Data → Option D) → List ℕ → D → List ℕ → Type 0
Takes json from text x rest = (text ≡ compact_text (json x) ++ rest) × IsRead json from x

-- the compact text of an array of a first place and of those behind it stands at the front of a text, and a rest behind it; what is said of those behind it holds
abbrev pub TakesRow : {X R : Type 0} → (X → Data) → (Data → Option X) → (R → List Data) → (R → Type 0) → List ℕ → X × R → List ℕ → Type 0
TakesRow json from places Back text x rest =
    (text ≡ compact_text (array (items_of (json x.0 ∷ places x.1))) ++ rest) × IsKept (array (items_of (json x.0 ∷ places x.1))) × (from (json x.0) ≡ Some x.0) × Back x.1

-- a text is that of a saved list, and is read as that list
pub record IsTextOf {M D : Type 0} (mj : M → Data) (mf : Data → Option M) (pj : D → List Data) (pf : Data → Option D) (IsSaved : List (EntityData M D) → Type 0) (text : List ℕ) : Type 0 where
  pub list : List (EntityData M D)
  pub saved : IsSaved list
  pub written : text ≡ compact_text (list_json mj pj list)
  pub reads_back : option_and_then (list_from mf pf) (read text) ≡ Some list

-- the compact text of a saved list is written behind a text
abbrev pub WritesSome : {M D : Type 0} → (M → Data) → (Data → Option M) → (D → List Data) → (Data → Option D) → (List (EntityData M D) → Type 0) → List ℕ → List ℕ → Type 0
WritesSome {M} {D} mj mf pj pf IsSaved old new = (list : List (EntityData M D)) × IsSaved list × Writes (list_json mj pj) (list_from mf pf) list old new
