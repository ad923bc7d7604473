-- Conversions of tuples of places, each by the first place and the rest.
use Rattle.std.specs.Prelude.{Option, refl}
use Rattle.saveload.specs.Conversion.{Conversion, IsFaithful}
use Rattle.saveload.specs.Places.{place, place_faithful, both, both_faithful, alone, alone_faithful, Shape, along, along_faithful}

abbrev pub three : {X Y Z : Type 0} → Shape (X × Y × Z) (X × (Y × Z))
three = record { nest = λ x. (x.0, (x.1, x.2)); flat = λ y. (y.0, y.1.0, y.1.1); flat_nest = λ x. refl; nest_flat = λ y. refl }

abbrev pub four : {W X Y Z : Type 0} → Shape (W × X × Y × Z) (W × (X × Y × Z))
four = record { nest = λ x. (x.0, (x.1, x.2, x.3)); flat = λ y. (y.0, y.1.0, y.1.1, y.1.2); flat_nest = λ x. refl; nest_flat = λ y. refl }

abbrev pub five : {V W X Y Z : Type 0} → Shape (V × W × X × Y × Z) (V × (W × X × Y × Z))
five = record { nest = λ x. (x.0, (x.1, x.2, x.3, x.4)); flat = λ y. (y.0, y.1.0, y.1.1, y.1.2, y.1.3); flat_nest = λ x. refl; nest_flat = λ y. refl }

abbrev pub six : {U V W X Y Z : Type 0} → Shape (U × V × W × X × Y × Z) (U × (V × W × X × Y × Z))
six = record { nest = λ x. (x.0, (x.1, x.2, x.3, x.4, x.5)); flat = λ y. (y.0, y.1.0, y.1.1, y.1.2, y.1.3, y.1.4); flat_nest = λ x. refl; nest_flat = λ y. refl }

abbrev pub one_place : {M FirstValue FirstData : Type 0} → Conversion M FirstValue FirstData → Conversion M (record { 0 : Option FirstValue }) (record { 0 : Option FirstData })
one_place c1 = alone (place c1)

pub one_place_faithful : {M FirstValue FirstData : Type 0} (c1 : Conversion M FirstValue FirstData) → IsFaithful c1 → IsFaithful (one_place c1)
one_place_faithful c1 w1 = alone_faithful _ (place_faithful _ w1)

abbrev pub two_places : {M FirstValue FirstData SecondValue SecondData : Type 0} → Conversion M FirstValue FirstData
    → Conversion M SecondValue SecondData → Conversion M (Option FirstValue × Option SecondValue) (Option FirstData × Option SecondData)
two_places c1 c2 = both (place c1) (place c2)

pub two_places_faithful : {M FirstValue FirstData SecondValue SecondData : Type 0} (c1 : Conversion M FirstValue FirstData)
    (c2 : Conversion M SecondValue SecondData) → IsFaithful c1 → IsFaithful c2 → IsFaithful (two_places c1 c2)
two_places_faithful c1 c2 w1 w2 = both_faithful _ _ (place_faithful _ w1) (place_faithful _ w2)

abbrev pub three_places : {M FirstValue FirstData SecondValue SecondData ThirdValue ThirdData : Type 0} → Conversion M FirstValue FirstData
    → Conversion M SecondValue SecondData → Conversion M ThirdValue ThirdData
    → Conversion M (Option FirstValue × Option SecondValue × Option ThirdValue) (Option FirstData × Option SecondData × Option ThirdData)
three_places c1 c2 c3 = along three three (both (place c1) (two_places c2 c3))

pub three_places_faithful : {M FirstValue FirstData SecondValue SecondData ThirdValue ThirdData : Type 0} (c1 : Conversion M FirstValue FirstData)
    (c2 : Conversion M SecondValue SecondData) (c3 : Conversion M ThirdValue ThirdData) → IsFaithful c1 → IsFaithful c2 → IsFaithful c3
    → IsFaithful (three_places c1 c2 c3)
three_places_faithful c1 c2 c3 w1 w2 w3 = along_faithful three three _ (both_faithful _ _ (place_faithful _ w1) (two_places_faithful c2 c3 w2 w3))

abbrev pub four_places : {M FirstValue FirstData SecondValue SecondData ThirdValue ThirdData FourthValue FourthData : Type 0}
    → Conversion M FirstValue FirstData → Conversion M SecondValue SecondData → Conversion M ThirdValue ThirdData
    → Conversion M FourthValue FourthData → Conversion M (Option FirstValue × Option SecondValue × Option ThirdValue × Option FourthValue)
    (Option FirstData × Option SecondData × Option ThirdData × Option FourthData)
four_places c1 c2 c3 c4 = along four four (both (place c1) (three_places c2 c3 c4))

pub four_places_faithful : {M FirstValue FirstData SecondValue SecondData ThirdValue ThirdData FourthValue FourthData : Type 0} (c1 : Conversion M FirstValue FirstData)
    (c2 : Conversion M SecondValue SecondData) (c3 : Conversion M ThirdValue ThirdData) (c4 : Conversion M FourthValue FourthData) → IsFaithful c1
    → IsFaithful c2 → IsFaithful c3 → IsFaithful c4 → IsFaithful (four_places c1 c2 c3 c4)
four_places_faithful c1 c2 c3 c4 w1 w2 w3 w4 = along_faithful four four _ (both_faithful _ _ (place_faithful _ w1) (three_places_faithful c2 c3 c4 w2 w3 w4))

abbrev pub five_places : {M FirstValue FirstData SecondValue SecondData ThirdValue ThirdData FourthValue FourthData FifthValue FifthData : Type 0}
    → Conversion M FirstValue FirstData → Conversion M SecondValue SecondData → Conversion M ThirdValue ThirdData
    → Conversion M FourthValue FourthData → Conversion M FifthValue FifthData
    → Conversion M (Option FirstValue × Option SecondValue × Option ThirdValue × Option FourthValue × Option FifthValue)
    (Option FirstData × Option SecondData × Option ThirdData × Option FourthData × Option FifthData)
five_places c1 c2 c3 c4 c5 = along five five (both (place c1) (four_places c2 c3 c4 c5))

pub five_places_faithful : {M FirstValue FirstData SecondValue SecondData ThirdValue ThirdData FourthValue FourthData FifthValue FifthData : Type 0} (c1 : Conversion M FirstValue FirstData)
    (c2 : Conversion M SecondValue SecondData) (c3 : Conversion M ThirdValue ThirdData) (c4 : Conversion M FourthValue FourthData)
    (c5 : Conversion M FifthValue FifthData) → IsFaithful c1 → IsFaithful c2 → IsFaithful c3 → IsFaithful c4 → IsFaithful c5
    → IsFaithful (five_places c1 c2 c3 c4 c5)
five_places_faithful c1 c2 c3 c4 c5 w1 w2 w3 w4 w5 =
    along_faithful five five _ (both_faithful _ _ (place_faithful _ w1) (four_places_faithful c2 c3 c4 c5 w2 w3 w4 w5))

abbrev pub six_places : {M FirstValue FirstData SecondValue SecondData ThirdValue ThirdData FourthValue FourthData FifthValue FifthData SixthValue SixthData : Type 0}
    → Conversion M FirstValue FirstData → Conversion M SecondValue SecondData → Conversion M ThirdValue ThirdData
    → Conversion M FourthValue FourthData → Conversion M FifthValue FifthData → Conversion M SixthValue SixthData
    → Conversion M (Option FirstValue × Option SecondValue × Option ThirdValue × Option FourthValue × Option FifthValue × Option SixthValue)
    (Option FirstData × Option SecondData × Option ThirdData × Option FourthData × Option FifthData × Option SixthData)
six_places c1 c2 c3 c4 c5 c6 = along six six (both (place c1) (five_places c2 c3 c4 c5 c6))

pub six_places_faithful : {M FirstValue FirstData SecondValue SecondData ThirdValue ThirdData FourthValue FourthData FifthValue FifthData SixthValue SixthData : Type 0} (c1 : Conversion M FirstValue FirstData)
    (c2 : Conversion M SecondValue SecondData) (c3 : Conversion M ThirdValue ThirdData) (c4 : Conversion M FourthValue FourthData)
    (c5 : Conversion M FifthValue FifthData) (c6 : Conversion M SixthValue SixthData) → IsFaithful c1 → IsFaithful c2 → IsFaithful c3
    → IsFaithful c4 → IsFaithful c5 → IsFaithful c6 → IsFaithful (six_places c1 c2 c3 c4 c5 c6)
six_places_faithful c1 c2 c3 c4 c5 c6 w1 w2 w3 w4 w5 w6 =
    along_faithful six six _ (both_faithful _ _ (place_faithful _ w1) (five_places_faithful c2 c3 c4 c5 c6 w2 w3 w4 w5 w6))
