-- Data as a row of plain values, one after another, with no array within another.
use Rattle.std.specs.Prelude.{◌≡◌, ℕ, zero, suc, List, [], ◌∷◌, ◌++◌, length, Bool, true, false, Option, Some, None, option_map, option_and_then, ⊤}
use Rattle.serde_json.specs.Data.{Data, boolean, array, Items, no_items, item}
use Rattle.serde_json.specs.Find.{as_array, as_bool}
use Rattle.serde_json.specs.View.{items_of}
use Rattle.saveload.specs.JsonNumbers.{id_json, id_from}

-- x, where nothing stands behind it
abbrev pub if_ended : {X : Type 0} → X → Items → Option X
if_ended x no_items = Some x
if_ended x (item d ds) = None

-- a row, as one array
abbrev pub row_json : {X : Type 0} → (X → List Data) → X → Data
row_json parts x = array (items_of (parts x))

-- what an array is read as, if it is one row and nothing more
abbrev pub row_from : {X : Type 0} → (Items → Option (X × Items)) → Data → Option X
row_from split d = option_and_then (λ ds. option_and_then (λ p. if_ended p.0 p.1) (split ds)) (as_array d)

-- the row of x is split off as x, whatever stands behind it
abbrev pub Splits : {X : Type 0} → (X → List Data) → (Items → Option (X × Items)) → X → Type 0
Splits parts split x = (rest : List Data) → split (items_of (parts x ++ rest)) ≡ Some (x, items_of rest)

-- ---- one value

abbrev pub one_parts : {X : Type 0} → (X → Data) → X → List Data
one_parts json x = json x ∷ []

abbrev pub one_split : {X : Type 0} → (Data → Option X) → Items → Option (X × Items)
one_split from no_items = None
one_split from (item d ds) = option_map (λ x. (x, ds)) (from d)

-- ---- nothing, or something: a flag, and what there is

abbrev pub option_parts : {X : Type 0} → (X → List Data) → Option X → List Data
option_parts parts None = boolean false ∷ []
option_parts parts (Some x) = boolean true ∷ parts x

abbrev pub by_flag : {X : Type 0} → (Items → Option (X × Items)) → Items → Option Bool → Option (Option X × Items)
by_flag split ds None = None
by_flag split ds (Some false) = Some (None, ds)
by_flag split ds (Some true) = option_map (λ p. (Some p.0, p.1)) (split ds)

abbrev pub option_split : {X : Type 0} → (Items → Option (X × Items)) → Items → Option (Option X × Items)
option_split split no_items = None
option_split split (item d ds) = by_flag split ds (as_bool d)

-- ---- tuples

abbrev pub pair_parts : {X Y : Type 0} → (X → List Data) → (Y → List Data) → X × Y → List Data
pair_parts p q x = p x.0 ++ q x.1

abbrev pub pair_split : {X Y : Type 0} → (Items → Option (X × Items)) → (Items → Option (Y × Items)) → Items → Option ((X × Y) × Items)
pair_split s t ds = option_and_then (λ a. option_map (λ b. ((a.0, b.0), b.1)) (t a.1)) (s ds)

abbrev pub three_parts : {X Y Z : Type 0} → (X → List Data) → (Y → List Data) → (Z → List Data) → X × Y × Z → List Data
three_parts p q r x = p x.0 ++ (q x.1 ++ r x.2)

abbrev pub three_split : {X Y Z : Type 0} → (Items → Option (X × Items)) → (Items → Option (Y × Items)) → (Items → Option (Z × Items)) → Items
    → Option ((X × Y × Z) × Items)
three_split s t u ds = option_and_then (λ a. option_and_then (λ b. option_map (λ c. ((a.0, b.0, c.0), c.1)) (u b.1)) (t a.1)) (s ds)

abbrev pub four_parts : {W X Y Z : Type 0} → (W → List Data) → (X → List Data) → (Y → List Data) → (Z → List Data) → W × X × Y × Z → List Data
four_parts o p q r x = o x.0 ++ (p x.1 ++ (q x.2 ++ r x.3))

abbrev pub four_split : {W X Y Z : Type 0} → (Items → Option (W × Items)) → (Items → Option (X × Items)) → (Items → Option (Y × Items))
    → (Items → Option (Z × Items)) → Items → Option ((W × X × Y × Z) × Items)
four_split s t u v ds =
    option_and_then (λ a. option_and_then (λ b. option_and_then (λ c. option_map (λ d. ((a.0, b.0, c.0, d.0), d.1)) (v c.1)) (u b.1)) (t a.1)) (s ds)

-- ---- lists: how many they are, and each of them

abbrev pub all_parts : {X : Type 0} → (X → List Data) → List X → List Data
all_parts parts [] = []
all_parts parts (x ∷ xs) = parts x ++ all_parts parts xs

abbrev pub list_parts : {X : Type 0} → (X → List Data) → List X → List Data
list_parts parts xs = id_json (length xs) ∷ all_parts parts xs

abbrev pub all_split : {X : Type 0} → (Items → Option (X × Items)) → ℕ → Items → Option (List X × Items)
all_split split zero ds = Some ([], ds)
all_split split (suc n) ds = option_and_then (λ p. option_map (λ q. (p.0 ∷ q.0, q.1)) (all_split split n p.1)) (split ds)

abbrev pub list_split : {X : Type 0} → (Items → Option (X × Items)) → Items → Option (List X × Items)
list_split split no_items = None
list_split split (item d ds) = option_and_then (λ n. all_split split n ds) (id_from d)

-- the row of each of a list is split off as it
abbrev pub AllSplit : {X : Type 0} → (X → List Data) → (Items → Option (X × Items)) → List X → Type 0
AllSplit parts split [] = ⊤
AllSplit parts split (x ∷ xs) = Splits parts split x × AllSplit parts split xs
