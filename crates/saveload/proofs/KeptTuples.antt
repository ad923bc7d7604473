-- Tuples of one to six places: the text of each, as it is written and as it is taken.
use Rattle.std.proofs.Common.{◌≡◌, List, ℕ, [], ◌∷◌, ◌++◌, Option, Some, None, true, option_map, refl, ◌∙◌, append_assoc}
use Rattle.std.specs.Option.{option_zip}
use Rattle.serde_json.specs.Data.{Data}
use Rattle.serde_json.specs.Written.{compact_text}
use Rattle.saveload.specs.Json.{IsRead, Writes, Takes, TakesRow, place_json, place_from, place_at, has_places, array_json}
use Rattle.saveload.specs.Tuples.{three, four, five, six}
use Rattle.saveload.specs.JsonTuples.{one_json, one_from, one_back, two_json, two_from, two_back, three_json, three_from, three_back, four_json, four_from, four_back, five_json, five_from, five_back, six_json, six_from, six_back}

-- ---- one

one_read : {FirstData : Type 0} (j1 : FirstData → Data) (f1 : Data → Option FirstData) (x : record { 0 : Option FirstData })
    → IsRead (place_json j1) (place_from f1) x.0
    → IsRead (array_json (one_json j1)) (one_from f1) x
one_read j1 f1 x r1 = (((r1.0.0, tt), rw r1.0.1 refl), one_back j1 f1 x r1.1)

one_parts : (old p0 : List ℕ) → ((old ++ 91 ∷ []) ++ p0) ++ 93 ∷ [] ≡ old ++ (91 ∷ (p0 ++ (93 ∷ [])))
one_parts old p0 = simp append_assoc

pub one_writes : {FirstData : Type 0} (j1 : FirstData → Data) (f1 : Data → Option FirstData) (x : record { 0 : Option FirstData }) (old t0 t1 new : List ℕ)
    → t0 ≡ old ++ 91 ∷ [] → Writes (place_json j1) (place_from f1) x.0 t0 t1 → new ≡ t1 ++ 93 ∷ []
    → Writes (array_json (one_json j1)) (one_from f1) x old new
one_writes j1 f1 x old t0 t1 new b w e =
    let whole : new ≡ ((old ++ 91 ∷ []) ++ (compact_text (place_json j1 x.0))) ++ 93 ∷ [] = e ∙ rw (w.0, b) refl in
    (whole ∙ one_parts old (compact_text (place_json j1 x.0)), one_read j1 f1 x w.1)

-- ---- two

two_read : {FirstData SecondData : Type 0} (j1 : FirstData → Data) (f1 : Data → Option FirstData) (j2 : SecondData → Data) (f2 : Data → Option SecondData) (x : Option FirstData × Option SecondData)
    → IsRead (place_json j1) (place_from f1) x.0 → IsRead (place_json j2) (place_from f2) x.1
    → IsRead (array_json (two_json j1 j2)) (two_from f1 f2) x
two_read j1 f1 j2 f2 x r1 r2 = (((r1.0.0, (r2.0.0, tt)), rw (r1.0.1, r2.0.1) refl), two_back j1 f1 j2 f2 x r1.1 r2.1)

two_parts : (old p0 p1 : List ℕ) → (((old ++ 91 ∷ []) ++ p0) ++ (44 ∷ p1)) ++ 93 ∷ [] ≡ old ++ (91 ∷ (p0 ++ (44 ∷ (p1 ++ (93 ∷ [])))))
two_parts old p0 p1 = simp append_assoc

pub two_writes : {FirstData SecondData : Type 0} (j1 : FirstData → Data) (f1 : Data → Option FirstData) (j2 : SecondData → Data) (f2 : Data → Option SecondData) (x : Option FirstData × Option SecondData) (old t0 t1 t2 new : List ℕ)
    → t0 ≡ old ++ 91 ∷ [] → Writes (place_json j1) (place_from f1) x.0 t0 t1 → t2 ≡ t1 ++ (44 ∷ compact_text (place_json j2 x.1)) → IsRead (place_json j2) (place_from f2) x.1 → new ≡ t2 ++ 93 ∷ []
    → Writes (array_json (two_json j1 j2)) (two_from f1 f2) x old new
two_writes j1 f1 j2 f2 x old t0 t1 t2 new b w e1 r2 e =
    let whole : new ≡ (((old ++ 91 ∷ []) ++ (compact_text (place_json j1 x.0))) ++ (44 ∷ (compact_text (place_json j2 x.1)))) ++ 93 ∷ [] = e ∙ rw (e1, w.0, b) refl in
    (whole ∙ two_parts old (compact_text (place_json j1 x.0)) (compact_text (place_json j2 x.1)), two_read j1 f1 j2 f2 x w.1 r2)

pub two_takes : {FirstData SecondData : Type 0} (j1 : FirstData → Data) (f1 : Data → Option FirstData) (j2 : SecondData → Data) (f2 : Data → Option SecondData) (m : Option FirstData × (Option SecondData × Unit {0})) (text rest : List ℕ)
    → TakesRow (place_json j1) (place_from f1) (λ (r : Option SecondData × Unit {0}). place_json j2 r.0 ∷ []) (λ r. (place_from f2 (place_json j2 r.0) ≡ Some r.0) × Unit {0}) text m rest
    → Takes (array_json (two_json j1 j2)) (two_from f1 f2) text (m.0, m.1.0) rest
two_takes j1 f1 j2 f2 m text rest h = (h.0, (h.1, two_back j1 f1 j2 f2 (m.0, m.1.0) h.2 h.3.0))

two_zipped : {FirstData SecondData : Type 0} (o1 : Option (Option FirstData)) (o2 : Option (Option SecondData))
    → option_map (λ (m : Option FirstData × (Option SecondData × Unit {0})). (m.0, m.1.0)) (option_zip o1 (option_zip o2 (Some tt))) ≡ option_zip o1 o2
two_zipped None o2 = refl
two_zipped (Some x1) None = refl
two_zipped (Some x1) (Some x2) = refl

pub two_reads : {FirstData SecondData : Type 0} (f1 : Data → Option FirstData) (f2 : Data → Option SecondData) (d : Data) (o : Option (Option FirstData × (Option SecondData × Unit {0}))) → has_places 2 d ≡ true
    → o ≡ option_zip (place_at f1 0 d) (option_zip (place_at f2 1 d) (Some tt))
    → option_map (λ m. (m.0, m.1.0)) o ≡ two_from f1 f2 d
two_reads f1 f2 d o h e = rw (h, e) (two_zipped (place_at f1 0 d) (place_at f2 1 d))

-- ---- three

three_read : {FirstData SecondData ThirdData : Type 0} (j1 : FirstData → Data) (f1 : Data → Option FirstData) (j2 : SecondData → Data) (f2 : Data → Option SecondData) (j3 : ThirdData → Data) (f3 : Data → Option ThirdData) (x : Option FirstData × Option SecondData × Option ThirdData)
    → IsRead (place_json j1) (place_from f1) x.0 → IsRead (place_json j2) (place_from f2) x.1 → IsRead (place_json j3) (place_from f3) x.2
    → IsRead (array_json (three_json j1 j2 j3)) (three_from f1 f2 f3) x
three_read j1 f1 j2 f2 j3 f3 x r1 r2 r3 = (((r1.0.0, (r2.0.0, (r3.0.0, tt))), rw (r1.0.1, r2.0.1, r3.0.1) refl), three_back j1 f1 j2 f2 j3 f3 x r1.1 r2.1 r3.1)

three_parts : (old p0 p1 p2 : List ℕ) → ((((old ++ 91 ∷ []) ++ p0) ++ (44 ∷ p1)) ++ (44 ∷ p2)) ++ 93 ∷ [] ≡ old ++ (91 ∷ (p0 ++ (44 ∷ (p1 ++ (44 ∷ (p2 ++ (93 ∷ [])))))))
three_parts old p0 p1 p2 = simp append_assoc

pub three_writes : {FirstData SecondData ThirdData : Type 0} (j1 : FirstData → Data) (f1 : Data → Option FirstData) (j2 : SecondData → Data) (f2 : Data → Option SecondData) (j3 : ThirdData → Data) (f3 : Data → Option ThirdData) (x : Option FirstData × Option SecondData × Option ThirdData) (old t0 t1 t2 t3 new : List ℕ)
    → t0 ≡ old ++ 91 ∷ [] → Writes (place_json j1) (place_from f1) x.0 t0 t1 → t2 ≡ t1 ++ (44 ∷ compact_text (place_json j2 x.1)) → IsRead (place_json j2) (place_from f2) x.1 → t3 ≡ t2 ++ (44 ∷ compact_text (place_json j3 x.2)) → IsRead (place_json j3) (place_from f3) x.2 → new ≡ t3 ++ 93 ∷ []
    → Writes (array_json (three_json j1 j2 j3)) (three_from f1 f2 f3) x old new
three_writes j1 f1 j2 f2 j3 f3 x old t0 t1 t2 t3 new b w e1 r2 e2 r3 e =
    let whole : new ≡ ((((old ++ 91 ∷ []) ++ (compact_text (place_json j1 x.0))) ++ (44 ∷ (compact_text (place_json j2 x.1)))) ++ (44 ∷ (compact_text (place_json j3 x.2)))) ++ 93 ∷ [] = e ∙ rw (e2, e1, w.0, b) refl in
    (whole ∙ three_parts old (compact_text (place_json j1 x.0)) (compact_text (place_json j2 x.1)) (compact_text (place_json j3 x.2)), three_read j1 f1 j2 f2 j3 f3 x w.1 r2 r3)

pub three_takes : {FirstData SecondData ThirdData : Type 0} (j1 : FirstData → Data) (f1 : Data → Option FirstData) (j2 : SecondData → Data) (f2 : Data → Option SecondData) (j3 : ThirdData → Data) (f3 : Data → Option ThirdData) (m : Option FirstData × (Option SecondData × (Option ThirdData × Unit {0}))) (text rest : List ℕ)
    → TakesRow (place_json j1) (place_from f1) (λ (r : Option SecondData × (Option ThirdData × Unit {0})). place_json j2 r.0 ∷ place_json j3 r.1.0 ∷ []) (λ r. (place_from f2 (place_json j2 r.0) ≡ Some r.0) × ((place_from f3 (place_json j3 r.1.0) ≡ Some r.1.0) × Unit {0})) text m rest
    → Takes (array_json (three_json j1 j2 j3)) (three_from f1 f2 f3) text (m.0, m.1.0, m.1.1.0) rest
three_takes j1 f1 j2 f2 j3 f3 m text rest h = (h.0, (h.1, three_back j1 f1 j2 f2 j3 f3 (m.0, m.1.0, m.1.1.0) h.2 h.3.0 h.3.1.0))

three_zipped : {FirstData SecondData ThirdData : Type 0} (o1 : Option (Option FirstData)) (o2 : Option (Option SecondData)) (o3 : Option (Option ThirdData))
    → option_map (λ (m : Option FirstData × (Option SecondData × (Option ThirdData × Unit {0}))). (m.0, m.1.0, m.1.1.0)) (option_zip o1 (option_zip o2 (option_zip o3 (Some tt)))) ≡ option_map three.flat (option_zip o1 (option_zip o2 o3))
three_zipped None o2 o3 = refl
three_zipped (Some x1) None o3 = refl
three_zipped (Some x1) (Some x2) None = refl
three_zipped (Some x1) (Some x2) (Some x3) = refl

pub three_reads : {FirstData SecondData ThirdData : Type 0} (f1 : Data → Option FirstData) (f2 : Data → Option SecondData) (f3 : Data → Option ThirdData) (d : Data) (o : Option (Option FirstData × (Option SecondData × (Option ThirdData × Unit {0})))) → has_places 3 d ≡ true
    → o ≡ option_zip (place_at f1 0 d) (option_zip (place_at f2 1 d) (option_zip (place_at f3 2 d) (Some tt)))
    → option_map (λ m. (m.0, m.1.0, m.1.1.0)) o ≡ three_from f1 f2 f3 d
three_reads f1 f2 f3 d o h e = rw (h, e) (three_zipped (place_at f1 0 d) (place_at f2 1 d) (place_at f3 2 d))

-- ---- four

four_read : {FirstData SecondData ThirdData FourthData : Type 0} (j1 : FirstData → Data) (f1 : Data → Option FirstData) (j2 : SecondData → Data) (f2 : Data → Option SecondData) (j3 : ThirdData → Data) (f3 : Data → Option ThirdData) (j4 : FourthData → Data) (f4 : Data → Option FourthData) (x : Option FirstData × Option SecondData × Option ThirdData × Option FourthData)
    → IsRead (place_json j1) (place_from f1) x.0 → IsRead (place_json j2) (place_from f2) x.1 → IsRead (place_json j3) (place_from f3) x.2 → IsRead (place_json j4) (place_from f4) x.3
    → IsRead (array_json (four_json j1 j2 j3 j4)) (four_from f1 f2 f3 f4) x
four_read j1 f1 j2 f2 j3 f3 j4 f4 x r1 r2 r3 r4 = (((r1.0.0, (r2.0.0, (r3.0.0, (r4.0.0, tt)))), rw (r1.0.1, r2.0.1, r3.0.1, r4.0.1) refl), four_back j1 f1 j2 f2 j3 f3 j4 f4 x r1.1 r2.1 r3.1 r4.1)

four_parts : (old p0 p1 p2 p3 : List ℕ) → (((((old ++ 91 ∷ []) ++ p0) ++ (44 ∷ p1)) ++ (44 ∷ p2)) ++ (44 ∷ p3)) ++ 93 ∷ [] ≡ old ++ (91 ∷ (p0 ++ (44 ∷ (p1 ++ (44 ∷ (p2 ++ (44 ∷ (p3 ++ (93 ∷ [])))))))))
four_parts old p0 p1 p2 p3 = simp append_assoc

pub four_writes : {FirstData SecondData ThirdData FourthData : Type 0} (j1 : FirstData → Data) (f1 : Data → Option FirstData) (j2 : SecondData → Data) (f2 : Data → Option SecondData) (j3 : ThirdData → Data) (f3 : Data → Option ThirdData) (j4 : FourthData → Data) (f4 : Data → Option FourthData) (x : Option FirstData × Option SecondData × Option ThirdData × Option FourthData) (old t0 t1 t2 t3 t4 new : List ℕ)
    → t0 ≡ old ++ 91 ∷ [] → Writes (place_json j1) (place_from f1) x.0 t0 t1 → t2 ≡ t1 ++ (44 ∷ compact_text (place_json j2 x.1)) → IsRead (place_json j2) (place_from f2) x.1 → t3 ≡ t2 ++ (44 ∷ compact_text (place_json j3 x.2)) → IsRead (place_json j3) (place_from f3) x.2 → t4 ≡ t3 ++ (44 ∷ compact_text (place_json j4 x.3)) → IsRead (place_json j4) (place_from f4) x.3 → new ≡ t4 ++ 93 ∷ []
    → Writes (array_json (four_json j1 j2 j3 j4)) (four_from f1 f2 f3 f4) x old new
four_writes j1 f1 j2 f2 j3 f3 j4 f4 x old t0 t1 t2 t3 t4 new b w e1 r2 e2 r3 e3 r4 e =
    let whole : new ≡ (((((old ++ 91 ∷ []) ++ (compact_text (place_json j1 x.0))) ++ (44 ∷ (compact_text (place_json j2 x.1)))) ++ (44 ∷ (compact_text (place_json j3 x.2)))) ++ (44 ∷ (compact_text (place_json j4 x.3)))) ++ 93 ∷ [] = e ∙ rw (e3, e2, e1, w.0, b) refl in
    (whole ∙ four_parts old (compact_text (place_json j1 x.0)) (compact_text (place_json j2 x.1)) (compact_text (place_json j3 x.2)) (compact_text (place_json j4 x.3)), four_read j1 f1 j2 f2 j3 f3 j4 f4 x w.1 r2 r3 r4)

pub four_takes : {FirstData SecondData ThirdData FourthData : Type 0} (j1 : FirstData → Data) (f1 : Data → Option FirstData) (j2 : SecondData → Data) (f2 : Data → Option SecondData) (j3 : ThirdData → Data) (f3 : Data → Option ThirdData) (j4 : FourthData → Data) (f4 : Data → Option FourthData) (m : Option FirstData × (Option SecondData × (Option ThirdData × (Option FourthData × Unit {0})))) (text rest : List ℕ)
    → TakesRow (place_json j1) (place_from f1) (λ (r : Option SecondData × (Option ThirdData × (Option FourthData × Unit {0}))). place_json j2 r.0 ∷ place_json j3 r.1.0 ∷ place_json j4 r.1.1.0 ∷ []) (λ r. (place_from f2 (place_json j2 r.0) ≡ Some r.0) × ((place_from f3 (place_json j3 r.1.0) ≡ Some r.1.0) × ((place_from f4 (place_json j4 r.1.1.0) ≡ Some r.1.1.0) × Unit {0}))) text m rest
    → Takes (array_json (four_json j1 j2 j3 j4)) (four_from f1 f2 f3 f4) text (m.0, m.1.0, m.1.1.0, m.1.1.1.0) rest
four_takes j1 f1 j2 f2 j3 f3 j4 f4 m text rest h = (h.0, (h.1, four_back j1 f1 j2 f2 j3 f3 j4 f4 (m.0, m.1.0, m.1.1.0, m.1.1.1.0) h.2 h.3.0 h.3.1.0 h.3.1.1.0))

four_zipped : {FirstData SecondData ThirdData FourthData : Type 0} (o1 : Option (Option FirstData)) (o2 : Option (Option SecondData)) (o3 : Option (Option ThirdData)) (o4 : Option (Option FourthData))
    → option_map (λ (m : Option FirstData × (Option SecondData × (Option ThirdData × (Option FourthData × Unit {0})))). (m.0, m.1.0, m.1.1.0, m.1.1.1.0)) (option_zip o1 (option_zip o2 (option_zip o3 (option_zip o4 (Some tt))))) ≡ option_map four.flat (option_zip o1 (option_map three.flat (option_zip o2 (option_zip o3 o4))))
four_zipped None o2 o3 o4 = refl
four_zipped (Some x1) None o3 o4 = refl
four_zipped (Some x1) (Some x2) None o4 = refl
four_zipped (Some x1) (Some x2) (Some x3) None = refl
four_zipped (Some x1) (Some x2) (Some x3) (Some x4) = refl

pub four_reads : {FirstData SecondData ThirdData FourthData : Type 0} (f1 : Data → Option FirstData) (f2 : Data → Option SecondData) (f3 : Data → Option ThirdData) (f4 : Data → Option FourthData) (d : Data) (o : Option (Option FirstData × (Option SecondData × (Option ThirdData × (Option FourthData × Unit {0}))))) → has_places 4 d ≡ true
    → o ≡ option_zip (place_at f1 0 d) (option_zip (place_at f2 1 d) (option_zip (place_at f3 2 d) (option_zip (place_at f4 3 d) (Some tt))))
    → option_map (λ m. (m.0, m.1.0, m.1.1.0, m.1.1.1.0)) o ≡ four_from f1 f2 f3 f4 d
four_reads f1 f2 f3 f4 d o h e = rw (h, e) (four_zipped (place_at f1 0 d) (place_at f2 1 d) (place_at f3 2 d) (place_at f4 3 d))

-- ---- five

five_read : {FirstData SecondData ThirdData FourthData FifthData : Type 0} (j1 : FirstData → Data) (f1 : Data → Option FirstData) (j2 : SecondData → Data) (f2 : Data → Option SecondData) (j3 : ThirdData → Data) (f3 : Data → Option ThirdData) (j4 : FourthData → Data) (f4 : Data → Option FourthData) (j5 : FifthData → Data) (f5 : Data → Option FifthData) (x : Option FirstData × Option SecondData × Option ThirdData × Option FourthData × Option FifthData)
    → IsRead (place_json j1) (place_from f1) x.0 → IsRead (place_json j2) (place_from f2) x.1 → IsRead (place_json j3) (place_from f3) x.2 → IsRead (place_json j4) (place_from f4) x.3 → IsRead (place_json j5) (place_from f5) x.4
    → IsRead (array_json (five_json j1 j2 j3 j4 j5)) (five_from f1 f2 f3 f4 f5) x
five_read j1 f1 j2 f2 j3 f3 j4 f4 j5 f5 x r1 r2 r3 r4 r5 = (((r1.0.0, (r2.0.0, (r3.0.0, (r4.0.0, (r5.0.0, tt))))), rw (r1.0.1, r2.0.1, r3.0.1, r4.0.1, r5.0.1) refl), five_back j1 f1 j2 f2 j3 f3 j4 f4 j5 f5 x r1.1 r2.1 r3.1 r4.1 r5.1)

four_tail : (old p0 p1 p2 p3 tail : List ℕ) → (((((old ++ 91 ∷ []) ++ p0) ++ (44 ∷ p1)) ++ (44 ∷ p2)) ++ (44 ∷ p3)) ++ tail ≡ old ++ (91 ∷ (p0 ++ (44 ∷ (p1 ++ (44 ∷ (p2 ++ (44 ∷ (p3 ++ tail))))))))
four_tail old p0 p1 p2 p3 tail = simp append_assoc

five_parts : (old p0 p1 p2 p3 p4 : List ℕ) → ((((((old ++ 91 ∷ []) ++ p0) ++ (44 ∷ p1)) ++ (44 ∷ p2)) ++ (44 ∷ p3)) ++ (44 ∷ p4)) ++ 93 ∷ [] ≡ old ++ (91 ∷ (p0 ++ (44 ∷ (p1 ++ (44 ∷ (p2 ++ (44 ∷ (p3 ++ (44 ∷ (p4 ++ (93 ∷ [])))))))))))
five_parts old p0 p1 p2 p3 p4 = append_assoc (((((old ++ 91 ∷ []) ++ p0) ++ (44 ∷ p1)) ++ (44 ∷ p2)) ++ (44 ∷ p3)) (44 ∷ p4) (93 ∷ []) ∙ four_tail old p0 p1 p2 p3 (44 ∷ (p4 ++ 93 ∷ []))

pub five_writes : {FirstData SecondData ThirdData FourthData FifthData : Type 0} (j1 : FirstData → Data) (f1 : Data → Option FirstData) (j2 : SecondData → Data) (f2 : Data → Option SecondData) (j3 : ThirdData → Data) (f3 : Data → Option ThirdData) (j4 : FourthData → Data) (f4 : Data → Option FourthData) (j5 : FifthData → Data) (f5 : Data → Option FifthData) (x : Option FirstData × Option SecondData × Option ThirdData × Option FourthData × Option FifthData) (old t0 t1 t2 t3 t4 t5 new : List ℕ)
    → t0 ≡ old ++ 91 ∷ [] → Writes (place_json j1) (place_from f1) x.0 t0 t1 → t2 ≡ t1 ++ (44 ∷ compact_text (place_json j2 x.1)) → IsRead (place_json j2) (place_from f2) x.1 → t3 ≡ t2 ++ (44 ∷ compact_text (place_json j3 x.2)) → IsRead (place_json j3) (place_from f3) x.2 → t4 ≡ t3 ++ (44 ∷ compact_text (place_json j4 x.3)) → IsRead (place_json j4) (place_from f4) x.3 → t5 ≡ t4 ++ (44 ∷ compact_text (place_json j5 x.4)) → IsRead (place_json j5) (place_from f5) x.4 → new ≡ t5 ++ 93 ∷ []
    → Writes (array_json (five_json j1 j2 j3 j4 j5)) (five_from f1 f2 f3 f4 f5) x old new
five_writes j1 f1 j2 f2 j3 f3 j4 f4 j5 f5 x old t0 t1 t2 t3 t4 t5 new b w e1 r2 e2 r3 e3 r4 e4 r5 e =
    let whole : new ≡ ((((((old ++ 91 ∷ []) ++ (compact_text (place_json j1 x.0))) ++ (44 ∷ (compact_text (place_json j2 x.1)))) ++ (44 ∷ (compact_text (place_json j3 x.2)))) ++ (44 ∷ (compact_text (place_json j4 x.3)))) ++ (44 ∷ (compact_text (place_json j5 x.4)))) ++ 93 ∷ [] = e ∙ rw (e4, e3, e2, e1, w.0, b) refl in
    (whole ∙ five_parts old (compact_text (place_json j1 x.0)) (compact_text (place_json j2 x.1)) (compact_text (place_json j3 x.2)) (compact_text (place_json j4 x.3)) (compact_text (place_json j5 x.4)), five_read j1 f1 j2 f2 j3 f3 j4 f4 j5 f5 x w.1 r2 r3 r4 r5)

pub five_takes : {FirstData SecondData ThirdData FourthData FifthData : Type 0} (j1 : FirstData → Data) (f1 : Data → Option FirstData) (j2 : SecondData → Data) (f2 : Data → Option SecondData) (j3 : ThirdData → Data) (f3 : Data → Option ThirdData) (j4 : FourthData → Data) (f4 : Data → Option FourthData) (j5 : FifthData → Data) (f5 : Data → Option FifthData) (m : Option FirstData × (Option SecondData × (Option ThirdData × (Option FourthData × (Option FifthData × Unit {0}))))) (text rest : List ℕ)
    → TakesRow (place_json j1) (place_from f1) (λ (r : Option SecondData × (Option ThirdData × (Option FourthData × (Option FifthData × Unit {0})))). place_json j2 r.0 ∷ place_json j3 r.1.0 ∷ place_json j4 r.1.1.0 ∷ place_json j5 r.1.1.1.0 ∷ []) (λ r. (place_from f2 (place_json j2 r.0) ≡ Some r.0) × ((place_from f3 (place_json j3 r.1.0) ≡ Some r.1.0) × ((place_from f4 (place_json j4 r.1.1.0) ≡ Some r.1.1.0) × ((place_from f5 (place_json j5 r.1.1.1.0) ≡ Some r.1.1.1.0) × Unit {0})))) text m rest
    → Takes (array_json (five_json j1 j2 j3 j4 j5)) (five_from f1 f2 f3 f4 f5) text (m.0, m.1.0, m.1.1.0, m.1.1.1.0, m.1.1.1.1.0) rest
five_takes j1 f1 j2 f2 j3 f3 j4 f4 j5 f5 m text rest h = (h.0, (h.1, five_back j1 f1 j2 f2 j3 f3 j4 f4 j5 f5 (m.0, m.1.0, m.1.1.0, m.1.1.1.0, m.1.1.1.1.0) h.2 h.3.0 h.3.1.0 h.3.1.1.0 h.3.1.1.1.0))

five_zipped : {FirstData SecondData ThirdData FourthData FifthData : Type 0} (o1 : Option (Option FirstData)) (o2 : Option (Option SecondData)) (o3 : Option (Option ThirdData)) (o4 : Option (Option FourthData)) (o5 : Option (Option FifthData))
    → option_map (λ (m : Option FirstData × (Option SecondData × (Option ThirdData × (Option FourthData × (Option FifthData × Unit {0}))))). (m.0, m.1.0, m.1.1.0, m.1.1.1.0, m.1.1.1.1.0)) (option_zip o1 (option_zip o2 (option_zip o3 (option_zip o4 (option_zip o5 (Some tt)))))) ≡ option_map five.flat (option_zip o1 (option_map four.flat (option_zip o2 (option_map three.flat (option_zip o3 (option_zip o4 o5))))))
five_zipped None o2 o3 o4 o5 = refl
five_zipped (Some x1) None o3 o4 o5 = refl
five_zipped (Some x1) (Some x2) None o4 o5 = refl
five_zipped (Some x1) (Some x2) (Some x3) None o5 = refl
five_zipped (Some x1) (Some x2) (Some x3) (Some x4) None = refl
five_zipped (Some x1) (Some x2) (Some x3) (Some x4) (Some x5) = refl

pub five_reads : {FirstData SecondData ThirdData FourthData FifthData : Type 0} (f1 : Data → Option FirstData) (f2 : Data → Option SecondData) (f3 : Data → Option ThirdData) (f4 : Data → Option FourthData) (f5 : Data → Option FifthData) (d : Data) (o : Option (Option FirstData × (Option SecondData × (Option ThirdData × (Option FourthData × (Option FifthData × Unit {0})))))) → has_places 5 d ≡ true
    → o ≡ option_zip (place_at f1 0 d) (option_zip (place_at f2 1 d) (option_zip (place_at f3 2 d) (option_zip (place_at f4 3 d) (option_zip (place_at f5 4 d) (Some tt)))))
    → option_map (λ m. (m.0, m.1.0, m.1.1.0, m.1.1.1.0, m.1.1.1.1.0)) o ≡ five_from f1 f2 f3 f4 f5 d
five_reads f1 f2 f3 f4 f5 d o h e = rw (h, e) (five_zipped (place_at f1 0 d) (place_at f2 1 d) (place_at f3 2 d) (place_at f4 3 d) (place_at f5 4 d))

-- ---- six

six_read : {FirstData SecondData ThirdData FourthData FifthData SixthData : Type 0} (j1 : FirstData → Data) (f1 : Data → Option FirstData) (j2 : SecondData → Data) (f2 : Data → Option SecondData) (j3 : ThirdData → Data) (f3 : Data → Option ThirdData) (j4 : FourthData → Data) (f4 : Data → Option FourthData) (j5 : FifthData → Data) (f5 : Data → Option FifthData) (j6 : SixthData → Data) (f6 : Data → Option SixthData) (x : Option FirstData × Option SecondData × Option ThirdData × Option FourthData × Option FifthData × Option SixthData)
    → IsRead (place_json j1) (place_from f1) x.0 → IsRead (place_json j2) (place_from f2) x.1 → IsRead (place_json j3) (place_from f3) x.2 → IsRead (place_json j4) (place_from f4) x.3 → IsRead (place_json j5) (place_from f5) x.4 → IsRead (place_json j6) (place_from f6) x.5
    → IsRead (array_json (six_json j1 j2 j3 j4 j5 j6)) (six_from f1 f2 f3 f4 f5 f6) x
six_read j1 f1 j2 f2 j3 f3 j4 f4 j5 f5 j6 f6 x r1 r2 r3 r4 r5 r6 = (((r1.0.0, (r2.0.0, (r3.0.0, (r4.0.0, (r5.0.0, (r6.0.0, tt)))))), rw (r1.0.1, r2.0.1, r3.0.1, r4.0.1, r5.0.1, r6.0.1) refl), six_back j1 f1 j2 f2 j3 f3 j4 f4 j5 f5 j6 f6 x r1.1 r2.1 r3.1 r4.1 r5.1 r6.1)

six_parts : (old p0 p1 p2 p3 p4 p5 : List ℕ) → (((((((old ++ 91 ∷ []) ++ p0) ++ (44 ∷ p1)) ++ (44 ∷ p2)) ++ (44 ∷ p3)) ++ (44 ∷ p4)) ++ (44 ∷ p5)) ++ 93 ∷ [] ≡ old ++ (91 ∷ (p0 ++ (44 ∷ (p1 ++ (44 ∷ (p2 ++ (44 ∷ (p3 ++ (44 ∷ (p4 ++ (44 ∷ (p5 ++ (93 ∷ [])))))))))))))
six_parts old p0 p1 p2 p3 p4 p5 =
    append_assoc ((((((old ++ 91 ∷ []) ++ p0) ++ (44 ∷ p1)) ++ (44 ∷ p2)) ++ (44 ∷ p3)) ++ (44 ∷ p4)) (44 ∷ p5) (93 ∷ []) ∙ append_assoc (((((old ++ 91 ∷ []) ++ p0) ++ (44 ∷ p1)) ++ (44 ∷ p2)) ++ (44 ∷ p3)) (44 ∷ p4) (44 ∷ (p5 ++ 93 ∷ []))
    ∙ four_tail old p0 p1 p2 p3 (44 ∷ (p4 ++ (44 ∷ (p5 ++ 93 ∷ []))))

pub six_writes : {FirstData SecondData ThirdData FourthData FifthData SixthData : Type 0} (j1 : FirstData → Data) (f1 : Data → Option FirstData) (j2 : SecondData → Data) (f2 : Data → Option SecondData) (j3 : ThirdData → Data) (f3 : Data → Option ThirdData) (j4 : FourthData → Data) (f4 : Data → Option FourthData) (j5 : FifthData → Data) (f5 : Data → Option FifthData) (j6 : SixthData → Data) (f6 : Data → Option SixthData) (x : Option FirstData × Option SecondData × Option ThirdData × Option FourthData × Option FifthData × Option SixthData) (old t0 t1 t2 t3 t4 t5 t6 new : List ℕ)
    → t0 ≡ old ++ 91 ∷ [] → Writes (place_json j1) (place_from f1) x.0 t0 t1 → t2 ≡ t1 ++ (44 ∷ compact_text (place_json j2 x.1)) → IsRead (place_json j2) (place_from f2) x.1 → t3 ≡ t2 ++ (44 ∷ compact_text (place_json j3 x.2)) → IsRead (place_json j3) (place_from f3) x.2 → t4 ≡ t3 ++ (44 ∷ compact_text (place_json j4 x.3)) → IsRead (place_json j4) (place_from f4) x.3 → t5 ≡ t4 ++ (44 ∷ compact_text (place_json j5 x.4)) → IsRead (place_json j5) (place_from f5) x.4 → t6 ≡ t5 ++ (44 ∷ compact_text (place_json j6 x.5)) → IsRead (place_json j6) (place_from f6) x.5 → new ≡ t6 ++ 93 ∷ []
    → Writes (array_json (six_json j1 j2 j3 j4 j5 j6)) (six_from f1 f2 f3 f4 f5 f6) x old new
six_writes j1 f1 j2 f2 j3 f3 j4 f4 j5 f5 j6 f6 x old t0 t1 t2 t3 t4 t5 t6 new b w e1 r2 e2 r3 e3 r4 e4 r5 e5 r6 e =
    let whole : new ≡ (((((((old ++ 91 ∷ []) ++ (compact_text (place_json j1 x.0))) ++ (44 ∷ (compact_text (place_json j2 x.1)))) ++ (44 ∷ (compact_text (place_json j3 x.2)))) ++ (44 ∷ (compact_text (place_json j4 x.3)))) ++ (44 ∷ (compact_text (place_json j5 x.4)))) ++ (44 ∷ (compact_text (place_json j6 x.5)))) ++ 93 ∷ [] = e ∙ rw (e5, e4, e3, e2, e1, w.0, b) refl in
    (whole ∙ six_parts old (compact_text (place_json j1 x.0)) (compact_text (place_json j2 x.1)) (compact_text (place_json j3 x.2)) (compact_text (place_json j4 x.3)) (compact_text (place_json j5 x.4)) (compact_text (place_json j6 x.5)), six_read j1 f1 j2 f2 j3 f3 j4 f4 j5 f5 j6 f6 x w.1 r2 r3 r4 r5 r6)

pub six_takes : {FirstData SecondData ThirdData FourthData FifthData SixthData : Type 0} (j1 : FirstData → Data) (f1 : Data → Option FirstData) (j2 : SecondData → Data) (f2 : Data → Option SecondData) (j3 : ThirdData → Data) (f3 : Data → Option ThirdData) (j4 : FourthData → Data) (f4 : Data → Option FourthData) (j5 : FifthData → Data) (f5 : Data → Option FifthData) (j6 : SixthData → Data) (f6 : Data → Option SixthData) (m : Option FirstData × (Option SecondData × (Option ThirdData × (Option FourthData × (Option FifthData × (Option SixthData × Unit {0})))))) (text rest : List ℕ)
    → TakesRow (place_json j1) (place_from f1) (λ (r : Option SecondData × (Option ThirdData × (Option FourthData × (Option FifthData × (Option SixthData × Unit {0}))))). place_json j2 r.0 ∷ place_json j3 r.1.0 ∷ place_json j4 r.1.1.0 ∷ place_json j5 r.1.1.1.0 ∷ place_json j6 r.1.1.1.1.0 ∷ []) (λ r. (place_from f2 (place_json j2 r.0) ≡ Some r.0) × ((place_from f3 (place_json j3 r.1.0) ≡ Some r.1.0) × ((place_from f4 (place_json j4 r.1.1.0) ≡ Some r.1.1.0) × ((place_from f5 (place_json j5 r.1.1.1.0) ≡ Some r.1.1.1.0) × ((place_from f6 (place_json j6 r.1.1.1.1.0) ≡ Some r.1.1.1.1.0) × Unit {0}))))) text m rest
    → Takes (array_json (six_json j1 j2 j3 j4 j5 j6)) (six_from f1 f2 f3 f4 f5 f6) text (m.0, m.1.0, m.1.1.0, m.1.1.1.0, m.1.1.1.1.0, m.1.1.1.1.1.0) rest
six_takes j1 f1 j2 f2 j3 f3 j4 f4 j5 f5 j6 f6 m text rest h = (h.0, (h.1, six_back j1 f1 j2 f2 j3 f3 j4 f4 j5 f5 j6 f6 (m.0, m.1.0, m.1.1.0, m.1.1.1.0, m.1.1.1.1.0, m.1.1.1.1.1.0) h.2 h.3.0 h.3.1.0 h.3.1.1.0 h.3.1.1.1.0 h.3.1.1.1.1.0))

six_zipped : {FirstData SecondData ThirdData FourthData FifthData SixthData : Type 0} (o1 : Option (Option FirstData)) (o2 : Option (Option SecondData)) (o3 : Option (Option ThirdData)) (o4 : Option (Option FourthData)) (o5 : Option (Option FifthData)) (o6 : Option (Option SixthData))
    → option_map (λ (m : Option FirstData × (Option SecondData × (Option ThirdData × (Option FourthData × (Option FifthData × (Option SixthData × Unit {0})))))). (m.0, m.1.0, m.1.1.0, m.1.1.1.0, m.1.1.1.1.0, m.1.1.1.1.1.0)) (option_zip o1 (option_zip o2 (option_zip o3 (option_zip o4 (option_zip o5 (option_zip o6 (Some tt))))))) ≡ option_map six.flat (option_zip o1 (option_map five.flat (option_zip o2 (option_map four.flat (option_zip o3 (option_map three.flat (option_zip o4 (option_zip o5 o6))))))))
six_zipped None o2 o3 o4 o5 o6 = refl
six_zipped (Some x1) None o3 o4 o5 o6 = refl
six_zipped (Some x1) (Some x2) None o4 o5 o6 = refl
six_zipped (Some x1) (Some x2) (Some x3) None o5 o6 = refl
six_zipped (Some x1) (Some x2) (Some x3) (Some x4) None o6 = refl
six_zipped (Some x1) (Some x2) (Some x3) (Some x4) (Some x5) None = refl
six_zipped (Some x1) (Some x2) (Some x3) (Some x4) (Some x5) (Some x6) = refl

pub six_reads : {FirstData SecondData ThirdData FourthData FifthData SixthData : Type 0} (f1 : Data → Option FirstData) (f2 : Data → Option SecondData) (f3 : Data → Option ThirdData) (f4 : Data → Option FourthData) (f5 : Data → Option FifthData) (f6 : Data → Option SixthData) (d : Data) (o : Option (Option FirstData × (Option SecondData × (Option ThirdData × (Option FourthData × (Option FifthData × (Option SixthData × Unit {0}))))))) → has_places 6 d ≡ true
    → o ≡ option_zip (place_at f1 0 d) (option_zip (place_at f2 1 d) (option_zip (place_at f3 2 d) (option_zip (place_at f4 3 d) (option_zip (place_at f5 4 d) (option_zip (place_at f6 5 d) (Some tt))))))
    → option_map (λ m. (m.0, m.1.0, m.1.1.0, m.1.1.1.0, m.1.1.1.1.0, m.1.1.1.1.1.0)) o ≡ six_from f1 f2 f3 f4 f5 f6 d
six_reads f1 f2 f3 f4 f5 f6 d o h e = rw (h, e) (six_zipped (place_at f1 0 d) (place_at f2 1 d) (place_at f3 2 d) (place_at f4 3 d) (place_at f5 4 d) (place_at f6 5 d))
