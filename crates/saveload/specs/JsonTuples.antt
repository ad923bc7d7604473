-- Tuples of places as JSON: an array of their values, place by place.
use Rattle.std.specs.Prelude.{◌≡◌, ◌≤◌, List, [], ◌∷◌, false, Option, Some, None, option_map, if◌then◌else◌, refl}
use Rattle.std.specs.Option.{option_zip}
use Rattle.std.proofs.Common.{arith}
use Rattle.serde_json.specs.Data.{Data, array, depth, items_depth}
use Rattle.serde_json.specs.View.{items_of}
use Rattle.serde_json.specs.Written.{has_float, items_have_float}
use Rattle.saveload.specs.Json.{place_json, place_from, place_at, has_places}
use Rattle.saveload.specs.Tuples.{three, four, five, six}

place_whole : {D : Type 0} (json : D → Data) → ((x : D) → has_float (json x) ≡ false) → (o : Option D) → has_float (place_json json o) ≡ false
place_whole json w None = refl
place_whole json w (Some x) = rw (w x) refl

place_shallow : {D : Type 0} (json : D → Data) → ((x : D) → depth (json x) ≤ 123) → (o : Option D) → depth (place_json json o) ≤ 124
place_shallow json w None = omega arith
place_shallow json w (Some x) = omega (arith, w x)

abbrev pub one_json : {FirstData : Type 0} → (FirstData → Data) → (record { 0 : Option FirstData }) → List Data
one_json j1 x = place_json j1 x.0 ∷ []

abbrev pub one_from : {FirstData : Type 0} → (Data → Option FirstData) → Data → Option (record { 0 : Option FirstData })
one_from f1 d = if has_places 1 d then option_map (λ a. record { 0 = a }) (place_at f1 0 d) else None

pub one_back : {FirstData : Type 0} (j1 : FirstData → Data) (f1 : Data → Option FirstData) (x : record { 0 : Option FirstData })
    → place_from f1 (place_json j1 x.0) ≡ Some x.0 → one_from f1 (array (items_of (one_json j1 x))) ≡ Some x
one_back j1 f1 x e1 = rw e1 refl

pub one_whole : {FirstData : Type 0} (j1 : FirstData → Data) → ((x : FirstData) → has_float (j1 x) ≡ false) → (x : record { 0 : Option FirstData })
    → items_have_float (items_of (one_json j1 x)) ≡ false
one_whole j1 w1 x = rw (place_whole j1 w1 x.0) refl

pub one_shallow : {FirstData : Type 0} (j1 : FirstData → Data) → ((x : FirstData) → depth (j1 x) ≤ 123) → (x : record { 0 : Option FirstData })
    → items_depth (items_of (one_json j1 x)) ≤ 124
one_shallow j1 w1 x = omega (arith, place_shallow j1 w1 x.0)

abbrev pub two_json : {FirstData SecondData : Type 0} → (FirstData → Data) → (SecondData → Data) → (Option FirstData × Option SecondData) → List Data
two_json j1 j2 x = place_json j1 x.0 ∷ place_json j2 x.1 ∷ []

abbrev pub two_from : {FirstData SecondData : Type 0} → (Data → Option FirstData) → (Data → Option SecondData) → Data → Option (Option FirstData × Option SecondData)
two_from f1 f2 d = if has_places 2 d then option_zip (place_at f1 0 d) (place_at f2 1 d) else None

pub two_back : {FirstData SecondData : Type 0} (j1 : FirstData → Data) (f1 : Data → Option FirstData) (j2 : SecondData → Data)
    (f2 : Data → Option SecondData) (x : Option FirstData × Option SecondData) → place_from f1 (place_json j1 x.0) ≡ Some x.0
    → place_from f2 (place_json j2 x.1) ≡ Some x.1 → two_from f1 f2 (array (items_of (two_json j1 j2 x))) ≡ Some x
two_back j1 f1 j2 f2 x e1 e2 = rw (e1, e2) refl

pub two_whole : {FirstData SecondData : Type 0} (j1 : FirstData → Data) (j2 : SecondData → Data) → ((x : FirstData) → has_float (j1 x) ≡ false)
    → ((x : SecondData) → has_float (j2 x) ≡ false) → (x : Option FirstData × Option SecondData)
    → items_have_float (items_of (two_json j1 j2 x)) ≡ false
two_whole j1 j2 w1 w2 x = rw (place_whole j1 w1 x.0, place_whole j2 w2 x.1) refl

pub two_shallow : {FirstData SecondData : Type 0} (j1 : FirstData → Data) (j2 : SecondData → Data) → ((x : FirstData) → depth (j1 x) ≤ 123)
    → ((x : SecondData) → depth (j2 x) ≤ 123) → (x : Option FirstData × Option SecondData) → items_depth (items_of (two_json j1 j2 x)) ≤ 124
two_shallow j1 j2 w1 w2 x = omega (arith, place_shallow j1 w1 x.0, place_shallow j2 w2 x.1)

abbrev pub three_json : {FirstData SecondData ThirdData : Type 0} → (FirstData → Data) → (SecondData → Data) → (ThirdData → Data)
    → (Option FirstData × Option SecondData × Option ThirdData) → List Data
three_json j1 j2 j3 x = place_json j1 x.0 ∷ place_json j2 x.1 ∷ place_json j3 x.2 ∷ []

abbrev pub three_from : {FirstData SecondData ThirdData : Type 0} → (Data → Option FirstData) → (Data → Option SecondData) → (Data → Option ThirdData)
    → Data → Option (Option FirstData × Option SecondData × Option ThirdData)
three_from f1 f2 f3 d = if has_places 3 d then option_map three.flat (option_zip (place_at f1 0 d) (option_zip (place_at f2 1 d) (place_at f3 2 d))) else None

pub three_back : {FirstData SecondData ThirdData : Type 0} (j1 : FirstData → Data) (f1 : Data → Option FirstData) (j2 : SecondData → Data)
    (f2 : Data → Option SecondData) (j3 : ThirdData → Data) (f3 : Data → Option ThirdData)
    (x : Option FirstData × Option SecondData × Option ThirdData) → place_from f1 (place_json j1 x.0) ≡ Some x.0
    → place_from f2 (place_json j2 x.1) ≡ Some x.1 → place_from f3 (place_json j3 x.2) ≡ Some x.2
    → three_from f1 f2 f3 (array (items_of (three_json j1 j2 j3 x))) ≡ Some x
three_back j1 f1 j2 f2 j3 f3 x e1 e2 e3 = rw (e1, e2, e3) refl

pub three_whole : {FirstData SecondData ThirdData : Type 0} (j1 : FirstData → Data) (j2 : SecondData → Data) (j3 : ThirdData → Data)
    → ((x : FirstData) → has_float (j1 x) ≡ false) → ((x : SecondData) → has_float (j2 x) ≡ false) → ((x : ThirdData) → has_float (j3 x) ≡ false)
    → (x : Option FirstData × Option SecondData × Option ThirdData) → items_have_float (items_of (three_json j1 j2 j3 x)) ≡ false
three_whole j1 j2 j3 w1 w2 w3 x = rw (place_whole j1 w1 x.0, place_whole j2 w2 x.1, place_whole j3 w3 x.2) refl

pub three_shallow : {FirstData SecondData ThirdData : Type 0} (j1 : FirstData → Data) (j2 : SecondData → Data) (j3 : ThirdData → Data)
    → ((x : FirstData) → depth (j1 x) ≤ 123) → ((x : SecondData) → depth (j2 x) ≤ 123) → ((x : ThirdData) → depth (j3 x) ≤ 123)
    → (x : Option FirstData × Option SecondData × Option ThirdData) → items_depth (items_of (three_json j1 j2 j3 x)) ≤ 124
three_shallow j1 j2 j3 w1 w2 w3 x = omega (arith, place_shallow j1 w1 x.0, place_shallow j2 w2 x.1, place_shallow j3 w3 x.2)

abbrev pub four_json : {FirstData SecondData ThirdData FourthData : Type 0} → (FirstData → Data) → (SecondData → Data) → (ThirdData → Data)
    → (FourthData → Data) → (Option FirstData × Option SecondData × Option ThirdData × Option FourthData) → List Data
four_json j1 j2 j3 j4 x = place_json j1 x.0 ∷ place_json j2 x.1 ∷ place_json j3 x.2 ∷ place_json j4 x.3 ∷ []

abbrev pub four_from : {FirstData SecondData ThirdData FourthData : Type 0} → (Data → Option FirstData) → (Data → Option SecondData)
    → (Data → Option ThirdData) → (Data → Option FourthData) → Data
    → Option (Option FirstData × Option SecondData × Option ThirdData × Option FourthData)
four_from f1 f2 f3 f4 d =
    if has_places 4 d
    then option_map four.flat (option_zip (place_at f1 0 d) (option_map three.flat (option_zip (place_at f2 1 d) (option_zip (place_at f3 2 d) (place_at f4 3 d)))))
    else None

pub four_back : {FirstData SecondData ThirdData FourthData : Type 0} (j1 : FirstData → Data) (f1 : Data → Option FirstData) (j2 : SecondData → Data)
    (f2 : Data → Option SecondData) (j3 : ThirdData → Data) (f3 : Data → Option ThirdData) (j4 : FourthData → Data) (f4 : Data → Option FourthData)
    (x : Option FirstData × Option SecondData × Option ThirdData × Option FourthData) → place_from f1 (place_json j1 x.0) ≡ Some x.0
    → place_from f2 (place_json j2 x.1) ≡ Some x.1 → place_from f3 (place_json j3 x.2) ≡ Some x.2 → place_from f4 (place_json j4 x.3) ≡ Some x.3
    → four_from f1 f2 f3 f4 (array (items_of (four_json j1 j2 j3 j4 x))) ≡ Some x
four_back j1 f1 j2 f2 j3 f3 j4 f4 x e1 e2 e3 e4 = rw (e1, e2, e3, e4) refl

pub four_whole : {FirstData SecondData ThirdData FourthData : Type 0} (j1 : FirstData → Data) (j2 : SecondData → Data) (j3 : ThirdData → Data)
    (j4 : FourthData → Data) → ((x : FirstData) → has_float (j1 x) ≡ false) → ((x : SecondData) → has_float (j2 x) ≡ false)
    → ((x : ThirdData) → has_float (j3 x) ≡ false) → ((x : FourthData) → has_float (j4 x) ≡ false)
    → (x : Option FirstData × Option SecondData × Option ThirdData × Option FourthData)
    → items_have_float (items_of (four_json j1 j2 j3 j4 x)) ≡ false
four_whole j1 j2 j3 j4 w1 w2 w3 w4 x = rw (place_whole j1 w1 x.0, place_whole j2 w2 x.1, place_whole j3 w3 x.2, place_whole j4 w4 x.3) refl

pub four_shallow : {FirstData SecondData ThirdData FourthData : Type 0} (j1 : FirstData → Data) (j2 : SecondData → Data) (j3 : ThirdData → Data)
    (j4 : FourthData → Data) → ((x : FirstData) → depth (j1 x) ≤ 123) → ((x : SecondData) → depth (j2 x) ≤ 123)
    → ((x : ThirdData) → depth (j3 x) ≤ 123) → ((x : FourthData) → depth (j4 x) ≤ 123)
    → (x : Option FirstData × Option SecondData × Option ThirdData × Option FourthData) → items_depth (items_of (four_json j1 j2 j3 j4 x)) ≤ 124
four_shallow j1 j2 j3 j4 w1 w2 w3 w4 x = omega (arith, place_shallow j1 w1 x.0, place_shallow j2 w2 x.1, place_shallow j3 w3 x.2, place_shallow j4 w4 x.3)

abbrev pub five_json : {FirstData SecondData ThirdData FourthData FifthData : Type 0} → (FirstData → Data) → (SecondData → Data) → (ThirdData → Data)
    → (FourthData → Data) → (FifthData → Data) → (Option FirstData × Option SecondData × Option ThirdData × Option FourthData × Option FifthData)
    → List Data
five_json j1 j2 j3 j4 j5 x = place_json j1 x.0 ∷ place_json j2 x.1 ∷ place_json j3 x.2 ∷ place_json j4 x.3 ∷ place_json j5 x.4 ∷ []

abbrev pub five_from : {FirstData SecondData ThirdData FourthData FifthData : Type 0} → (Data → Option FirstData) → (Data → Option SecondData)
    → (Data → Option ThirdData) → (Data → Option FourthData) → (Data → Option FifthData) → Data
    → Option (Option FirstData × Option SecondData × Option ThirdData × Option FourthData × Option FifthData)
five_from f1 f2 f3 f4 f5 d =
    if has_places 5 d
    then option_map five.flat (option_zip (place_at f1 0 d)
    (option_map four.flat (option_zip (place_at f2 1 d)
    (option_map three.flat (option_zip (place_at f3 2 d) (option_zip (place_at f4 3 d) (place_at f5 4 d)))))))
    else None

pub five_back : {FirstData SecondData ThirdData FourthData FifthData : Type 0} (j1 : FirstData → Data) (f1 : Data → Option FirstData)
    (j2 : SecondData → Data) (f2 : Data → Option SecondData) (j3 : ThirdData → Data) (f3 : Data → Option ThirdData) (j4 : FourthData → Data)
    (f4 : Data → Option FourthData) (j5 : FifthData → Data) (f5 : Data → Option FifthData)
    (x : Option FirstData × Option SecondData × Option ThirdData × Option FourthData × Option FifthData)
    → place_from f1 (place_json j1 x.0) ≡ Some x.0 → place_from f2 (place_json j2 x.1) ≡ Some x.1 → place_from f3 (place_json j3 x.2) ≡ Some x.2
    → place_from f4 (place_json j4 x.3) ≡ Some x.3 → place_from f5 (place_json j5 x.4) ≡ Some x.4
    → five_from f1 f2 f3 f4 f5 (array (items_of (five_json j1 j2 j3 j4 j5 x))) ≡ Some x
five_back j1 f1 j2 f2 j3 f3 j4 f4 j5 f5 x e1 e2 e3 e4 e5 = rw (e1, e2, e3, e4, e5) refl

pub five_whole : {FirstData SecondData ThirdData FourthData FifthData : Type 0} (j1 : FirstData → Data) (j2 : SecondData → Data)
    (j3 : ThirdData → Data) (j4 : FourthData → Data) (j5 : FifthData → Data) → ((x : FirstData) → has_float (j1 x) ≡ false)
    → ((x : SecondData) → has_float (j2 x) ≡ false) → ((x : ThirdData) → has_float (j3 x) ≡ false) → ((x : FourthData) → has_float (j4 x) ≡ false)
    → ((x : FifthData) → has_float (j5 x) ≡ false)
    → (x : Option FirstData × Option SecondData × Option ThirdData × Option FourthData × Option FifthData)
    → items_have_float (items_of (five_json j1 j2 j3 j4 j5 x)) ≡ false
five_whole j1 j2 j3 j4 j5 w1 w2 w3 w4 w5 x = rw (place_whole j1 w1 x.0, place_whole j2 w2 x.1, place_whole j3 w3 x.2, place_whole j4 w4 x.3, place_whole j5 w5 x.4) refl

pub five_shallow : {FirstData SecondData ThirdData FourthData FifthData : Type 0} (j1 : FirstData → Data) (j2 : SecondData → Data)
    (j3 : ThirdData → Data) (j4 : FourthData → Data) (j5 : FifthData → Data) → ((x : FirstData) → depth (j1 x) ≤ 123)
    → ((x : SecondData) → depth (j2 x) ≤ 123) → ((x : ThirdData) → depth (j3 x) ≤ 123) → ((x : FourthData) → depth (j4 x) ≤ 123)
    → ((x : FifthData) → depth (j5 x) ≤ 123) → (x : Option FirstData × Option SecondData × Option ThirdData × Option FourthData × Option FifthData)
    → items_depth (items_of (five_json j1 j2 j3 j4 j5 x)) ≤ 124
five_shallow j1 j2 j3 j4 j5 w1 w2 w3 w4 w5 x =
    omega (arith, place_shallow j1 w1 x.0, place_shallow j2 w2 x.1, place_shallow j3 w3 x.2, place_shallow j4 w4 x.3, place_shallow j5 w5 x.4)

abbrev pub six_json : {FirstData SecondData ThirdData FourthData FifthData SixthData : Type 0} → (FirstData → Data) → (SecondData → Data)
    → (ThirdData → Data) → (FourthData → Data) → (FifthData → Data) → (SixthData → Data)
    → (Option FirstData × Option SecondData × Option ThirdData × Option FourthData × Option FifthData × Option SixthData) → List Data
six_json j1 j2 j3 j4 j5 j6 x = place_json j1 x.0 ∷ place_json j2 x.1 ∷ place_json j3 x.2 ∷ place_json j4 x.3 ∷ place_json j5 x.4 ∷ place_json j6 x.5 ∷ []

abbrev pub six_from : {FirstData SecondData ThirdData FourthData FifthData SixthData : Type 0} → (Data → Option FirstData)
    → (Data → Option SecondData) → (Data → Option ThirdData) → (Data → Option FourthData) → (Data → Option FifthData) → (Data → Option SixthData)
    → Data → Option (Option FirstData × Option SecondData × Option ThirdData × Option FourthData × Option FifthData × Option SixthData)
six_from f1 f2 f3 f4 f5 f6 d =
    if has_places 6 d
    then option_map six.flat (option_zip (place_at f1 0 d)
    (option_map five.flat (option_zip (place_at f2 1 d)
    (option_map four.flat (option_zip (place_at f3 2 d)
    (option_map three.flat (option_zip (place_at f4 3 d) (option_zip (place_at f5 4 d) (place_at f6 5 d)))))))))
    else None

pub six_back : {FirstData SecondData ThirdData FourthData FifthData SixthData : Type 0} (j1 : FirstData → Data) (f1 : Data → Option FirstData)
    (j2 : SecondData → Data) (f2 : Data → Option SecondData) (j3 : ThirdData → Data) (f3 : Data → Option ThirdData) (j4 : FourthData → Data)
    (f4 : Data → Option FourthData) (j5 : FifthData → Data) (f5 : Data → Option FifthData) (j6 : SixthData → Data) (f6 : Data → Option SixthData)
    (x : Option FirstData × Option SecondData × Option ThirdData × Option FourthData × Option FifthData × Option SixthData)
    → place_from f1 (place_json j1 x.0) ≡ Some x.0 → place_from f2 (place_json j2 x.1) ≡ Some x.1 → place_from f3 (place_json j3 x.2) ≡ Some x.2
    → place_from f4 (place_json j4 x.3) ≡ Some x.3 → place_from f5 (place_json j5 x.4) ≡ Some x.4 → place_from f6 (place_json j6 x.5) ≡ Some x.5
    → six_from f1 f2 f3 f4 f5 f6 (array (items_of (six_json j1 j2 j3 j4 j5 j6 x))) ≡ Some x
six_back j1 f1 j2 f2 j3 f3 j4 f4 j5 f5 j6 f6 x e1 e2 e3 e4 e5 e6 = rw (e1, e2, e3, e4, e5, e6) refl

pub six_whole : {FirstData SecondData ThirdData FourthData FifthData SixthData : Type 0} (j1 : FirstData → Data) (j2 : SecondData → Data)
    (j3 : ThirdData → Data) (j4 : FourthData → Data) (j5 : FifthData → Data) (j6 : SixthData → Data) → ((x : FirstData) → has_float (j1 x) ≡ false)
    → ((x : SecondData) → has_float (j2 x) ≡ false) → ((x : ThirdData) → has_float (j3 x) ≡ false) → ((x : FourthData) → has_float (j4 x) ≡ false)
    → ((x : FifthData) → has_float (j5 x) ≡ false) → ((x : SixthData) → has_float (j6 x) ≡ false)
    → (x : Option FirstData × Option SecondData × Option ThirdData × Option FourthData × Option FifthData × Option SixthData)
    → items_have_float (items_of (six_json j1 j2 j3 j4 j5 j6 x)) ≡ false
six_whole j1 j2 j3 j4 j5 j6 w1 w2 w3 w4 w5 w6 x =
    rw (place_whole j1 w1 x.0, place_whole j2 w2 x.1, place_whole j3 w3 x.2, place_whole j4 w4 x.3, place_whole j5 w5 x.4, place_whole j6 w6 x.5) refl

pub six_shallow : {FirstData SecondData ThirdData FourthData FifthData SixthData : Type 0} (j1 : FirstData → Data) (j2 : SecondData → Data)
    (j3 : ThirdData → Data) (j4 : FourthData → Data) (j5 : FifthData → Data) (j6 : SixthData → Data) → ((x : FirstData) → depth (j1 x) ≤ 123)
    → ((x : SecondData) → depth (j2 x) ≤ 123) → ((x : ThirdData) → depth (j3 x) ≤ 123) → ((x : FourthData) → depth (j4 x) ≤ 123)
    → ((x : FifthData) → depth (j5 x) ≤ 123) → ((x : SixthData) → depth (j6 x) ≤ 123)
    → (x : Option FirstData × Option SecondData × Option ThirdData × Option FourthData × Option FifthData × Option SixthData)
    → items_depth (items_of (six_json j1 j2 j3 j4 j5 j6 x)) ≤ 124
six_shallow j1 j2 j3 j4 j5 j6 w1 w2 w3 w4 w5 w6 x =
    omega (
      arith,
      place_shallow j1 w1 x.0,
      place_shallow j2 w2 x.1,
      place_shallow j3 w3 x.2,
      place_shallow j4 w4 x.3,
      place_shallow j5 w5 x.4,
      place_shallow j6 w6 x.5,
    )
