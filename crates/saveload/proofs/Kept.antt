-- What is written of a value is read as it.
use Rattle.std.proofs.Common.{◌≡◌, ℕ, ◌+◌, ◌<◌, ◌≤◌, ◌^◌, pos, negsuc, ℤ, List, [], ◌∷◌, ◌++◌, length, map, take, drop, get_or, eqb, not, Bool, true, false, IfSome, MatchOption, Option, Some, None, option_map, option_and_then, decimal, SFits, w64, refl, sym, ap, ◌∙◌, subst, arith, append_assoc, append-nil}
use Rattle.std.proofs.lemmas.List.{take_all, take_more, take-append-drop, map-append}
use Rattle.std.proofs.lemmas.Bool.{false≢true, lt-ltb}
use Rattle.std.proofs.lemmas.Bool.Decides.{Decides-eqb}
use Rattle.std.proofs.lemmas.Slice.Eq.{slice_eq-Decides}
use Rattle.std.specs.Cmp.Lexicographic.{pointwise}
use Rattle.std.specs.Fmt.{signed_decimal}
use Rattle.std.specs.Prelude.{codes}
use Rattle.json.specs.Token.{Token}
use Rattle.json.specs.Lex.{tokens}
use Rattle.json.specs.Json as json
use Rattle.json.specs.Print.{escape_byte}
use Rattle.json.specs.Tree.{json_tokens, depth as nesting, items_depth as items_nesting, members_depth as members_nesting}
use Rattle.json.proofs.Numbered.{value-HasNumbers, ArePrintableOrBad-tokens}
use Rattle.json.proofs.Printed.Tokens.{tokens-print}
use Rattle.json.proofs.Printed.Trees.{value-json_tokens, ArePrintable-json_tokens}
use Rattle.json.proofs.Printed.Decimals.{IsNumber-decimal, IsNumber-signed_decimal}
use Rattle.serde_json.specs.Data.{Data, null, boolean, number, string, array, object, Items, no_items, item, Members, no_members, member, depth, items_depth, members_depth}
use Rattle.serde_json.specs.Read.{read, of_json, of_items}
use Rattle.serde_json.specs.View.{items_of}
use Rattle.serde_json.specs.Written.{outline, items_outline, members_outline, has_float, compact_text, items_text, comma_if, IsInOrder}
use Rattle.serde_json.proofs.Numbers.{number_of-decimal, number_of-negative}
use Rattle.serde_json.proofs.Texts.{tokens_from_order, print-outline}
use Rattle.saveload.specs.declared.entity_data.EntityData.{EntityData}
use Rattle.saveload.specs.Json.{IsKept, IsRead, AllRead, Writes, Takes, place_json, place_from, array_json, record_json, record_from, list_json, list_from, records_from}
use Rattle.saveload.proofs.JsonLists.{list_shallow}
use Rattle.saveload.specs.JsonNumbers.{id_json, id_from, whole_json, whole_from}

-- ---- a text and its value

mutual
  depth-outline : (d : Data) → nesting (outline d) ≤ depth d
  depth-outline null = omega arith
  depth-outline (boolean b) = omega arith
  depth-outline (number n) = omega arith
  depth-outline (string s) = omega arith
  depth-outline (array ds) = omega (arith, depth-items ds)
  depth-outline (object ms) = omega (arith, depth-members ms)

  depth-items : (ds : Items) → items_nesting (items_outline ds) ≤ items_depth ds
  depth-items no_items = omega arith
  depth-items (item d ds) = omega (arith, depth-outline d, depth-items ds)

  depth-members : (ms : Members) → members_nesting (members_outline ms) ≤ members_depth ms
  depth-members no_members = omega arith
  depth-members (member k d ms) = omega (arith, depth-outline d, depth-members ms)

abbrev whole : Option (json.Json × List Token) → Option Data
whole r = option_and_then of_json (option_and_then (λ p. json.if_last p.0 p.1) r)

parsed : (d : Data) (text : List ℕ) → depth d ≤ 127 → tokens text ≡ json_tokens (outline d) → json.value 127 (tokens text) ≡ Some (outline d, [])
parsed d text shallow same =
    ap (json.value 127) (same ∙ sym (append-nil (json_tokens (outline d)))) ∙ value-json_tokens (outline d) 127 [] (omega (arith, shallow, depth-outline d))

-- the compact text of a value that is kept is read as it
pub kept_read : (d : Data) → depth d ≤ 127 → IsKept d → read (compact_text d) ≡ Some d
kept_read d shallow k =
    let same : tokens (compact_text d) ≡ json_tokens (outline d) = ap tokens (sym (print-outline d)) ∙ tokens-print (json_tokens (outline d)) (ArePrintable-json_tokens (outline d) k.0) in
    ap whole (parsed d (compact_text d) shallow same) ∙ k.1

-- a value whose text was read as it is kept
pub read_kept : (d : Data) (text : List ℕ) → has_float d ≡ false → depth d ≤ 127 → IsInOrder text d → read text ≡ Some d → IsKept d
read_kept d text plain shallow order same =
    let p : json.value 127 (tokens text) ≡ Some (outline d, []) = parsed d text shallow (tokens_from_order text d order plain) in
    (value-HasNumbers 127 (tokens text) [] (outline d) (ArePrintableOrBad-tokens text) p, sym (ap whole p) ∙ same)

-- the text of a value that is read as x
pub value_writes : {D : Type 0} (j : D → Data) (f : Data → Option D) (x : D) (v : Data) (old text new : List ℕ) → v ≡ j x → f (j x) ≡ Some x → has_float (j x) ≡ false → depth (j x) ≤ 123
    → (has_float v ≡ false → text ≡ compact_text v) → IsInOrder text v → (depth v ≤ 127 → read text ≡ Some v) → new ≡ old ++ text → Writes j f x old new
value_writes j f x v old text new e back plain shallow t order r w =
    let q : has_float v ≡ false = ap has_float e ∙ plain in
    let d : depth v ≤ 127 = rw e (omega (arith, shallow)) in
    (w ∙ ap (λ s. old ++ s) (t q ∙ ap compact_text e), (subst IsKept e (read_kept v text q d order (r d)), back))

-- ---- fronts

pub each : {A : Type 0} (o : Option A) {P Q : A → Type 0} → IfSome o P → ((x : A) → P x → Q x) → IfSome o Q
each None p f = tt
each (Some x) p f = f x p

not_not : (b : Bool) → false ≡ not b → b ≡ true
not_not true h = refl
not_not false h = absurd (false≢true h)

-- a text that is not another than a front is that front
pub same_text : (text front as_bytes : List ℕ) → as_bytes ≡ front → false ≡ not (pointwise eqb text as_bytes) → text ≡ front
same_text text front as_bytes e h = (slice_eq-Decides Decides-eqb text as_bytes (pointwise eqb text as_bytes) refl).0 (not_not (pointwise eqb text as_bytes) h) ∙ e

pub took : {A : Type 0} (P : A → Type 0) (o : Option A) (a : A) → IfSome o P → o ≡ Some a → P a
took P o a h e = subst (λ x. IfSome x P) e h

pub front_is : {N : Type 0} (text front : List ℕ) (r : Option N) (now : N → List ℕ)
    → MatchOption r (pointwise eqb (take (length front) text) front ≡ false) (λ x. (pointwise eqb (take (length front) text) front ≡ true) × (now x ≡ drop (length front) text) × (length (now x) + length front ≡ length text))
    → IfSome r (λ x. text ≡ front ++ now x)
front_is text front None now h = tt
front_is text front (Some x) now h =
    let same : take (length front) text ≡ front = (slice_eq-Decides Decides-eqb (take (length front) text) front (pointwise eqb (take (length front) text) front) refl).0 h.0 in
    sym (take-append-drop (length front) text) ∙ ap (λ s. s ++ drop (length front) text) same ∙ ap (λ s. front ++ s) (sym h.1)

-- ---- numbers

pub id_kept : (n : ℕ) → n < 2 ^ 64 → IsKept (id_json n)
id_kept n h = (IsNumber-decimal n h, ap (option_map number) (number_of-decimal n h))

whole_kept : (z : ℤ) → SFits w64 z → IsKept (whole_json z)
whole_kept (pos n) h = id_kept n (grind arith)
whole_kept (negsuc n) h = (IsNumber-signed_decimal (negsuc n) h.sfits, ap (option_map number) (number_of-negative n (grind arith)))

whole_back : (z : ℤ) → SFits w64 z → whole_from (whole_json z) ≡ Some z
whole_back (pos n) h = rw (lt-ltb n (2 ^ 63) (grind arith)) refl
whole_back (negsuc n) h = refl

whole_text : (z : ℤ) → compact_text (whole_json z) ≡ signed_decimal z
whole_text (pos n) = refl
whole_text (negsuc n) = refl

pub id_writes : (n : ℕ) (old text new : List ℕ) → n < 2 ^ 64 → text ≡ decimal n → new ≡ old ++ text → Writes id_json id_from n old new
id_writes n old text new h e w = (w ∙ ap (λ s. old ++ s) e, (id_kept n h, refl))

pub id_takes : (n : ℕ) (front text rest : List ℕ) → n < 2 ^ 64 → front ≡ decimal n → text ≡ front ++ rest → Takes id_json id_from text n rest
id_takes n front text rest h e w = (w ∙ ap (λ s. s ++ rest) e, (id_kept n h, refl))

pub whole_writes : (z : ℤ) (old text new : List ℕ) → SFits w64 z → text ≡ signed_decimal z → new ≡ old ++ text → Writes whole_json whole_from z old new
whole_writes z old text new h e w = (w ∙ ap (λ s. old ++ s) (e ∙ sym (whole_text z)), (whole_kept z h, whole_back z h))

pub whole_takes : (z : ℤ) (front text rest : List ℕ) → SFits w64 z → front ≡ signed_decimal z → text ≡ front ++ rest → Takes whole_json whole_from text z rest
whole_takes z front text rest h e w = (w ∙ ap (λ s. s ++ rest) (e ∙ sym (whole_text z)), (whole_kept z h, whole_back z h))

-- ---- places

pub none_read : {D : Type 0} (j : D → Data) (f : Data → Option D) → IsRead (place_json j) (place_from f) None
none_read j f = ((tt, refl), refl)

pub some_read : {D : Type 0} (j : D → Data) (f : Data → Option D) (x : D) → IsRead j f x → IsRead (place_json j) (place_from f) (Some x)
some_read j f x r = (((r.0.0, tt), rw r.0.1 refl), rw r.1 refl)

-- ---- records

five_parts : (old a b c d e : List ℕ) → ((((old ++ a) ++ b) ++ c) ++ d) ++ e ≡ old ++ (a ++ (b ++ (c ++ (d ++ e))))
five_parts old a b c d e = simp append_assoc

five_ends : (a b c d e rest : List ℕ) → (a ++ (b ++ (c ++ (d ++ e)))) ++ rest ≡ a ++ (b ++ (c ++ (d ++ (e ++ rest))))
five_ends a b c d e rest = simp append_assoc

record_kept : {M D : Type 0} (mj : M → Data) (pj : D → List Data) (r : EntityData M D) → IsKept (array_json pj r.components) → IsKept (mj r.marker) → IsKept (record_json mj pj r)
record_kept mj pj r c m = ((c.0, (m.0, tt)), rw (c.1, m.1) refl)

pub record_read : {M D : Type 0} (mj : M → Data) (mf : Data → Option M) (pj : D → List Data) (pf : Data → Option D) (r : EntityData M D)
    → IsRead (array_json pj) pf r.components → IsRead mj mf r.marker → IsRead (record_json mj pj) (record_from mf pf) r
record_read mj mf pj pf r c m = (record_kept mj pj r c.0 m.0, rw (c.1, m.1) refl)

pub record_text : {M D : Type 0} (mj : M → Data) (pj : D → List Data) (r : EntityData M D)
    → compact_text (record_json mj pj r) ≡ codes "{\"components\":" ++ (compact_text (array_json pj r.components) ++ (codes ",\"marker\":" ++ (compact_text (mj r.marker) ++ 125 ∷ [])))
unfolding escape_byte
record_text mj pj r = refl

pub record_writes : {M D : Type 0} (mj : M → Data) (mf : Data → Option M) (pj : D → List Data) (pf : Data → Option D) (r : EntityData M D) (old t1 t2 t3 t4 new : List ℕ)
    → t1 ≡ old ++ codes "{\"components\":" → Writes (array_json pj) pf r.components t1 t2 → t3 ≡ t2 ++ codes ",\"marker\":" → Writes mj mf r.marker t3 t4 → new ≡ t4 ++ 125 ∷ []
    → Writes (record_json mj pj) (record_from mf pf) r old new
record_writes mj mf pj pf r old t1 t2 t3 t4 new a c b m e =
    let p : List ℕ = compact_text (array_json pj r.components) in
    let q : List ℕ = compact_text (mj r.marker) in
    let parts : new ≡ ((((old ++ codes "{\"components\":") ++ p) ++ codes ",\"marker\":") ++ q) ++ 125 ∷ [] = e ∙ rw (m.0, b, c.0, a) refl in
    (parts ∙ five_parts old (codes "{\"components\":") p (codes ",\"marker\":") q (125 ∷ []) ∙ ap (λ s. old ++ s) (sym (record_text mj pj r)), record_read mj mf pj pf r c.1 m.1)

pub record_takes : {M D : Type 0} (mj : M → Data) (mf : Data → Option M) (pj : D → List Data) (pf : Data → Option D) (r : EntityData M D) (text first behind second end rest : List ℕ)
    → text ≡ codes "{\"components\":" ++ first → Takes (array_json pj) pf first r.components behind → behind ≡ codes ",\"marker\":" ++ second → Takes mj mf second r.marker end → end ≡ 125 ∷ rest
    → Takes (record_json mj pj) (record_from mf pf) text r rest
record_takes mj mf pj pf r text first behind second end rest a c b m e =
    let p : List ℕ = compact_text (array_json pj r.components) in
    let q : List ℕ = compact_text (mj r.marker) in
    let parts : text ≡ codes "{\"components\":" ++ (p ++ (codes ",\"marker\":" ++ (q ++ (125 ∷ rest)))) = a ∙ rw (c.0, b, m.0, e) refl in
    (parts ∙ sym (five_ends (codes "{\"components\":") p (codes ",\"marker\":") q (125 ∷ []) rest) ∙ ap (λ s. s ++ rest) (sym (record_text mj pj r)), record_read mj mf pj pf r c.1 m.1)

-- ---- lists

pub all_read_more : {D : Type 0} (j : D → Data) (f : Data → Option D) (xs : List D) (x : D) → AllRead j f xs → IsRead j f x → AllRead j f (xs ++ x ∷ [])
all_read_more j f [] x a r = (r, tt)
all_read_more j f (y ∷ xs) x a r = (a.0, all_read_more j f xs x a.1 r)

abbrev items_in : Option Data → Items
items_in None = no_items
items_in (Some null) = no_items
items_in (Some (boolean b)) = no_items
items_in (Some (number n)) = no_items
items_in (Some (string s)) = no_items
items_in (Some (array ds)) = ds
items_in (Some (object ms)) = no_items

array_injective : (es ds : Items) → Some (array es) ≡ Some (array ds) → es ≡ ds
array_injective es ds e = ap items_in e

-- the items within an array
inner : (ds : Items) (o : Option Items) → option_map array o ≡ Some (array ds) → o ≡ Some ds
inner ds None e = absurd (cc)
inner ds (Some es) e = ap Some (array_injective es ds e)

list_step : (d : Data) (ds : Items) → of_json (outline d) ≡ Some d → of_json (outline (array ds)) ≡ Some (array ds) → of_json (outline (array (item d ds))) ≡ Some (array (item d ds))
list_step d ds e f = rw (e, inner ds (of_items (items_outline ds)) f) refl

pub list_read : {M D : Type 0} (mj : M → Data) (mf : Data → Option M) (pj : D → List Data) (pf : Data → Option D) (rs : List (EntityData M D))
    → AllRead (record_json mj pj) (record_from mf pf) rs → IsRead (list_json mj pj) (list_from mf pf) rs
list_read mj mf pj pf [] a = ((tt, refl), refl)
list_read {M} {D} mj mf pj pf (r ∷ rs) a =
    let rest = list_read mj mf pj pf rs a.1 in
    let back : records_from mf pf (items_of (map (record_json mj pj) rs)) ≡ Some rs = rest.1 in
    (((a.0.0.0, rest.0.0), list_step (record_json mj pj r) (items_of (map (record_json mj pj) rs)) a.0.0.1 rest.0.1), rw (a.0.1, back) refl)

-- whether something stands in a list
abbrev pub something : {X : Type 0} → List X → Bool
something [] = false
something (x ∷ xs) = true

-- the text of values, with a comma before each but the first
abbrev pub front_text : Bool → List Data → List ℕ
front_text later [] = []
front_text later (d ∷ ds) = comma_if later ++ (compact_text d ++ front_text true ds)

front_after : (ds : List Data) (d : Data) → front_text true (ds ++ d ∷ []) ≡ front_text true ds ++ (44 ∷ compact_text d)
front_after [] d = ap (λ s. 44 ∷ s) (append-nil (compact_text d))
front_after (e ∷ ds) d = ap (λ s. 44 ∷ (compact_text e ++ s)) (front_after ds d) ∙ ap (λ s. 44 ∷ s) (sym (append_assoc (compact_text e) (front_text true ds) (44 ∷ compact_text d)))

pub front_more : (ds : List Data) (d : Data) → front_text false (ds ++ d ∷ []) ≡ front_text false ds ++ (comma_if (something ds) ++ compact_text d)
front_more [] d = append-nil (compact_text d)
front_more (e ∷ ds) d = ap (λ s. compact_text e ++ s) (front_after ds d) ∙ sym (append_assoc (compact_text e) (front_text true ds) (44 ∷ compact_text d))

pub front_end : (later : Bool) (ds : List Data) → items_text later (items_of ds) ≡ front_text later ds ++ 93 ∷ []
front_end later [] = refl
front_end later (d ∷ ds) =
    ap (λ s. comma_if later ++ (compact_text d ++ s)) (front_end true ds) ∙ ap (λ s. comma_if later ++ s) (sym (append_assoc (compact_text d) (front_text true ds) (93 ∷ [])))
    ∙ sym (append_assoc (comma_if later) (compact_text d ++ front_text true ds) (93 ∷ []))

something_map : {X Y : Type 0} (f : X → Y) (xs : List X) → something (map f xs) ≡ something xs
something_map f [] = refl
something_map f (x ∷ xs) = refl

-- the front of a list of records
abbrev pub records_text : {M D : Type 0} → (M → Data) → (D → List Data) → List (EntityData M D) → List ℕ
records_text mj pj rs = front_text false (map (record_json mj pj) rs)

pub records_more : {M D : Type 0} (mj : M → Data) (pj : D → List Data) (rs : List (EntityData M D)) (r : EntityData M D)
    → records_text mj pj (rs ++ r ∷ []) ≡ records_text mj pj rs ++ (comma_if (something rs) ++ compact_text (record_json mj pj r))
records_more mj pj rs r =
    ap (front_text false) (map-append (record_json mj pj) rs (r ∷ [])) ∙ front_more (map (record_json mj pj) rs) (record_json mj pj r)
    ∙ ap (λ b. records_text mj pj rs ++ (comma_if b ++ compact_text (record_json mj pj r))) (something_map (record_json mj pj) rs)

pub list_text : {M D : Type 0} (mj : M → Data) (pj : D → List Data) (rs : List (EntityData M D)) → compact_text (list_json mj pj rs) ≡ 91 ∷ (records_text mj pj rs ++ 93 ∷ [])
list_text mj pj rs = ap (λ s. 91 ∷ s) (front_end false (map (record_json mj pj) rs))

something_more : {X : Type 0} (xs : List X) (x : X) → something (xs ++ x ∷ []) ≡ true
something_more [] x = refl
something_more (y ∷ xs) x = refl

written_more : (old f s t : List ℕ) → ((old ++ (91 ∷ f)) ++ s) ++ t ≡ old ++ (91 ∷ (f ++ (s ++ t)))
written_more old f s t = simp append_assoc

-- one more record is written
pub write_more : {M D : Type 0} (mj : M → Data) (mf : Data → Option M) (pj : D → List Data) (pf : Data → Option D) (rs : List (EntityData M D)) (r : EntityData M D) (old text next new separator : List ℕ)
    → text ≡ old ++ (91 ∷ records_text mj pj rs) → separator ≡ comma_if (something rs) → AllRead (record_json mj pj) (record_from mf pf) rs
    → next ≡ text ++ separator → Writes (record_json mj pj) (record_from mf pf) r next new
    → (new ≡ old ++ (91 ∷ records_text mj pj (rs ++ r ∷ []))) × ((44 ∷ []) ≡ comma_if (something (rs ++ r ∷ []))) × AllRead (record_json mj pj) (record_from mf pf) (rs ++ r ∷ [])
write_more mj mf pj pf rs r old text next new separator e s a n w =
    let f : List ℕ = records_text mj pj rs in
    let c : List ℕ = comma_if (something rs) in
    let t : List ℕ = compact_text (record_json mj pj r) in
    let whole_new : new ≡ ((old ++ (91 ∷ f)) ++ c) ++ t = w.0 ∙ ap (λ u. u ++ t) (n ∙ rw (e, s) refl) in (
      whole_new ∙ written_more old f c t ∙ ap (λ u. old ++ (91 ∷ u)) (sym (records_more mj pj rs r)),
      ap comma_if (sym (something_more rs r)),
      all_read_more (record_json mj pj) (record_from mf pf) rs r a w.1,
    )

-- one more of a list is written
pub write_step : {M D : Type 0} (mj : M → Data) (mf : Data → Option M) (pj : D → List Data) (pf : Data → Option D) (rs : List (EntityData M D)) (i : ℕ) (r : EntityData M D) (old text next new separator : List ℕ)
    → i < length rs → text ≡ old ++ (91 ∷ records_text mj pj (take i rs)) → separator ≡ comma_if (something (take i rs)) → AllRead (record_json mj pj) (record_from mf pf) (take i rs)
    → next ≡ text ++ separator → Writes (record_json mj pj) (record_from mf pf) (get_or rs i r) next new
    → (new ≡ old ++ (91 ∷ records_text mj pj (take (i + 1) rs))) × ((44 ∷ []) ≡ comma_if (something (take (i + 1) rs))) × AllRead (record_json mj pj) (record_from mf pf) (take (i + 1) rs)
write_step mj mf pj pf rs i r old text next new separator lt e s a n w =
    rw (take_more rs i r lt) (write_more mj mf pj pf (take i rs) (get_or rs i r) old text next new separator e s a n w)

-- all records are written
pub write_all : {M D : Type 0} (mj : M → Data) (mf : Data → Option M) (pj : D → List Data) (pf : Data → Option D) (rs : List (EntityData M D)) (old text new : List ℕ)
    → text ≡ old ++ (91 ∷ records_text mj pj rs) → AllRead (record_json mj pj) (record_from mf pf) rs → new ≡ text ++ 93 ∷ []
    → Writes (list_json mj pj) (list_from mf pf) rs old new
write_all mj mf pj pf rs old text new e a n =
    let f : List ℕ = records_text mj pj rs in
    let whole_new : new ≡ (old ++ (91 ∷ f)) ++ 93 ∷ [] = n ∙ ap (λ u. u ++ 93 ∷ []) e in
    (whole_new ∙ append_assoc old (91 ∷ f) (93 ∷ []) ∙ ap (λ u. old ++ u) (sym (list_text mj pj rs)), list_read mj mf pj pf rs a)

pub write_end : {M D : Type 0} (mj : M → Data) (mf : Data → Option M) (pj : D → List Data) (pf : Data → Option D) (rs : List (EntityData M D)) (i : ℕ) (old text new : List ℕ)
    → length rs ≤ i → text ≡ old ++ (91 ∷ records_text mj pj (take i rs)) → AllRead (record_json mj pj) (record_from mf pf) (take i rs) → new ≡ text ++ 93 ∷ []
    → Writes (list_json mj pj) (list_from mf pf) rs old new
write_end mj mf pj pf rs i old text new le e a n =
    let all : take i rs ≡ rs = take_all i rs le in
    write_all mj mf pj pf rs old text new (e ∙ ap (λ u. old ++ (91 ∷ records_text mj pj u)) all) (subst (AllRead (record_json mj pj) (record_from mf pf)) all a) n

taken_more : (f c t rest : List ℕ) → f ++ (c ++ (t ++ rest)) ≡ (f ++ (c ++ t)) ++ rest
taken_more f c t rest = simp append_assoc

-- one more record is taken
pub take_step : {M D : Type 0} (mj : M → Data) (mf : Data → Option M) (pj : D → List Data) (pf : Data → Option D) (rs new : List (EntityData M D)) (r : EntityData M D) (text rest next behind separator : List ℕ)
    → text ≡ 91 ∷ (records_text mj pj rs ++ rest) → AllRead (record_json mj pj) (record_from mf pf) rs → separator ≡ comma_if (something rs) → rest ≡ separator ++ next
    → Takes (record_json mj pj) (record_from mf pf) next r behind → new ≡ rs ++ r ∷ []
    → (text ≡ 91 ∷ (records_text mj pj new ++ behind)) × ((44 ∷ []) ≡ comma_if (something new)) × AllRead (record_json mj pj) (record_from mf pf) new
take_step mj mf pj pf rs new r text rest next behind separator e a s n t more =
    let f : List ℕ = records_text mj pj rs in
    let c : List ℕ = comma_if (something rs) in
    let u : List ℕ = compact_text (record_json mj pj r) in
    let was : rest ≡ c ++ (u ++ behind) = n ∙ rw (s, t.0) refl in
    rw more (
      e ∙ ap (λ v. 91 ∷ (f ++ v)) was ∙ ap (λ v. 91 ∷ v) (taken_more f c u behind) ∙ ap (λ v. 91 ∷ (v ++ behind)) (sym (records_more mj pj rs r)),
      ap comma_if (sym (something_more rs r)),
      all_read_more (record_json mj pj) (record_from mf pf) rs r a t.1,
    )

-- all records are taken
pub take_end : {M D : Type 0} (mj : M → Data) (mf : Data → Option M) (pj : D → List Data) (pf : Data → Option D) (rs : List (EntityData M D)) (text rest : List ℕ)
    → text ≡ 91 ∷ (records_text mj pj rs ++ rest) → AllRead (record_json mj pj) (record_from mf pf) rs → rest ≡ 93 ∷ []
    → Takes (list_json mj pj) (list_from mf pf) text rs []
take_end mj mf pj pf rs text rest e a end =
    (e ∙ ap (λ v. 91 ∷ (records_text mj pj rs ++ v)) end ∙ sym (append-nil (91 ∷ (records_text mj pj rs ++ 93 ∷ []))) ∙ ap (λ v. v ++ []) (sym (list_text mj pj rs)), list_read mj mf pj pf rs a)

-- the text of a list is read as it
pub text_read : {M D : Type 0} (mj : M → Data) (mf : Data → Option M) (pj : D → List Data) (pf : Data → Option D) → ((x : M) → depth (mj x) ≤ 123) → ((x : D) → items_depth (items_of (pj x)) ≤ 124)
    → (rs : List (EntityData M D)) (text : List ℕ) → text ≡ compact_text (list_json mj pj rs) → IsRead (list_json mj pj) (list_from mf pf) rs → read text ≡ Some (list_json mj pj rs)
text_read mj mf pj pf m p rs text e r = ap read e ∙ kept_read (list_json mj pj rs) (omega (arith, list_shallow mj pj m p rs)) r.0
