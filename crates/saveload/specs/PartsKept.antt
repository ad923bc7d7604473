-- Rows of plain values have no fraction, and hold no array.
use Rattle.std.specs.Prelude.{◌≡◌, ◌≤◌, ◌||◌, List, [], ◌∷◌, ◌++◌, Bool, true, false, Option, Some, None, refl}
use Rattle.std.proofs.Common.{arith}
use Rattle.serde_json.specs.Data.{Data, array, depth, items_depth}
use Rattle.serde_json.specs.View.{items_of}
use Rattle.serde_json.specs.Written.{has_float, items_have_float}
use Rattle.saveload.specs.JsonParts.{option_parts, pair_parts, three_parts, four_parts, all_parts, list_parts}

-- no number of a row has a fraction or an exponent
abbrev pub IsWhole : List Data → Type 0
IsWhole xs = items_have_float (items_of xs) ≡ false

-- no value of a row holds another
abbrev pub IsFlat : List Data → Type 0
IsFlat xs = items_depth (items_of xs) ≡ 0

both_false : (a b : Bool) → (a || b) ≡ false → (a ≡ false) × (b ≡ false)
both_false true b e = absurd (cc)
both_false false b e = (refl, e)

whole_append : (xs ys : List Data) → IsWhole xs → IsWhole ys → IsWhole (xs ++ ys)
whole_append [] ys p q = q
whole_append (x ∷ xs) ys p q =
    let s = both_false (has_float x) (items_have_float (items_of xs)) p in
    rw s.0 (whole_append xs ys s.1 q)

flat_append : (xs ys : List Data) → IsFlat xs → IsFlat ys → IsFlat (xs ++ ys)
flat_append [] ys p q = q
flat_append (x ∷ xs) ys p q = let r : IsFlat xs = omega (arith, p) in omega (arith, p, flat_append xs ys r q)

pub option_whole : {X : Type 0} (parts : X → List Data) → ((x : X) → IsWhole (parts x)) → (o : Option X) → IsWhole (option_parts parts o)
option_whole parts w None = refl
option_whole parts w (Some x) = w x

pub option_flat : {X : Type 0} (parts : X → List Data) → ((x : X) → IsFlat (parts x)) → (o : Option X) → IsFlat (option_parts parts o)
option_flat parts f None = refl
option_flat parts f (Some x) = omega (arith, f x)

pub pair_whole : {X Y : Type 0} (p : X → List Data) (q : Y → List Data) → ((x : X) → IsWhole (p x)) → ((y : Y) → IsWhole (q y)) → (x : X × Y)
    → IsWhole (pair_parts p q x)
pair_whole p q wp wq x = whole_append (p x.0) (q x.1) (wp x.0) (wq x.1)

pub pair_flat : {X Y : Type 0} (p : X → List Data) (q : Y → List Data) → ((x : X) → IsFlat (p x)) → ((y : Y) → IsFlat (q y)) → (x : X × Y)
    → IsFlat (pair_parts p q x)
pair_flat p q fp fq x = flat_append (p x.0) (q x.1) (fp x.0) (fq x.1)

pub three_parts_whole : {X Y Z : Type 0} (p : X → List Data) (q : Y → List Data) (r : Z → List Data) → ((x : X) → IsWhole (p x)) → ((y : Y) → IsWhole (q y))
    → ((z : Z) → IsWhole (r z)) → (x : X × Y × Z) → IsWhole (three_parts p q r x)
three_parts_whole p q r wp wq wr x = whole_append (p x.0) (q x.1 ++ r x.2) (wp x.0) (whole_append (q x.1) (r x.2) (wq x.1) (wr x.2))

pub three_parts_flat : {X Y Z : Type 0} (p : X → List Data) (q : Y → List Data) (r : Z → List Data) → ((x : X) → IsFlat (p x)) → ((y : Y) → IsFlat (q y))
    → ((z : Z) → IsFlat (r z)) → (x : X × Y × Z) → IsFlat (three_parts p q r x)
three_parts_flat p q r fp fq fr x = flat_append (p x.0) (q x.1 ++ r x.2) (fp x.0) (flat_append (q x.1) (r x.2) (fq x.1) (fr x.2))

pub four_parts_whole : {W X Y Z : Type 0} (o : W → List Data) (p : X → List Data) (q : Y → List Data) (r : Z → List Data) → ((w : W) → IsWhole (o w))
    → ((x : X) → IsWhole (p x)) → ((y : Y) → IsWhole (q y)) → ((z : Z) → IsWhole (r z)) → (x : W × X × Y × Z) → IsWhole (four_parts o p q r x)
four_parts_whole o p q r wo wp wq wr x =
    whole_append (o x.0) (p x.1 ++ (q x.2 ++ r x.3)) (wo x.0)
    (whole_append (p x.1) (q x.2 ++ r x.3) (wp x.1) (whole_append (q x.2) (r x.3) (wq x.2) (wr x.3)))

pub four_parts_flat : {W X Y Z : Type 0} (o : W → List Data) (p : X → List Data) (q : Y → List Data) (r : Z → List Data) → ((w : W) → IsFlat (o w))
    → ((x : X) → IsFlat (p x)) → ((y : Y) → IsFlat (q y)) → ((z : Z) → IsFlat (r z)) → (x : W × X × Y × Z) → IsFlat (four_parts o p q r x)
four_parts_flat o p q r fo fp fq fr x =
    flat_append (o x.0) (p x.1 ++ (q x.2 ++ r x.3)) (fo x.0)
    (flat_append (p x.1) (q x.2 ++ r x.3) (fp x.1) (flat_append (q x.2) (r x.3) (fq x.2) (fr x.3)))

all_whole : {X : Type 0} (parts : X → List Data) → ((x : X) → IsWhole (parts x)) → (xs : List X) → IsWhole (all_parts parts xs)
all_whole parts w [] = refl
all_whole parts w (x ∷ xs) = whole_append (parts x) (all_parts parts xs) (w x) (all_whole parts w xs)

all_flat : {X : Type 0} (parts : X → List Data) → ((x : X) → IsFlat (parts x)) → (xs : List X) → IsFlat (all_parts parts xs)
all_flat parts f [] = refl
all_flat parts f (x ∷ xs) = flat_append (parts x) (all_parts parts xs) (f x) (all_flat parts f xs)

pub list_whole : {X : Type 0} (parts : X → List Data) → ((x : X) → IsWhole (parts x)) → (xs : List X) → IsWhole (list_parts parts xs)
list_whole parts w xs = all_whole parts w xs

pub list_flat : {X : Type 0} (parts : X → List Data) → ((x : X) → IsFlat (parts x)) → (xs : List X) → IsFlat (list_parts parts xs)
list_flat parts f xs = omega (arith, all_flat parts f xs)

-- the array of a flat row
pub row_shallow : (xs : List Data) → IsFlat xs → depth (array (items_of xs)) ≤ 123
row_shallow xs f = omega (arith, f)

-- one value
pub one_whole_part : (d : Data) → has_float d ≡ false → IsWhole (d ∷ [])
one_whole_part d w = rw w refl
