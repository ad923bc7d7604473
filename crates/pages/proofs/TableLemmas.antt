-- What the items and the set of pages become as the table and the items change.
use Rattle.std.proofs.Common.{◌≡◌, ◌≢◌, ℕ, zero, suc, ◌+◌, ◌-◌, ◌*◌, ◌/◌, ◌%◌, ◌<◌, ◌≤◌, true, false, cond, not, max, ◌||◌, ◌==◌, List, [], ◌++◌, map, length, get_or, take, drop, replicate, set as list_set, length-set, get_or-set_same, get_or-set_other, refl, sym, ap, ◌∙◌, inl, inr, arith, eq-eqb}
use Rattle.std.specs.List.{range_with_len}
use Rattle.std.specs.Ordering.{nat_cmp}
use Rattle.std.specs.Cmp.{nat_cmp_total, unsigned_tied}
use Rattle.std.specs.FinSet as set
use Rattle.std.proofs.Math.Nat.{suc-mul, div-lt_iff_lt-mul, mul-le-mul_right}
use Rattle.std.proofs.lemmas.Bool.{cases_eq, cases_lt, ne_eqb, true≢false}
use Rattle.std.proofs.lemmas.Bool.Decides.{eqb_tells}
use Rattle.std.proofs.lemmas.List.{get_or_past, get_or_append_left, get_or-append_right, get_or-replicate, length-append, length-replicate, ext_get_or, get_or-take, get_or-drop, get_or_read, take_all, length-take, length-drop}
use Rattle.std.proofs.lemmas.List.FromFn.{length-map-range_with_len, get_or-map-range_with_len}
use Rattle.std.proofs.lemmas.Nat.{div-mul-add, mod-mul-add, le-div, mod_below, div-add-mod'}
use Rattle.pages.specs.Listed.{list_below, list_below-none, list_below-any}
use Rattle.pages.specs.Paged.{Paged}
use Rattle.pages.specs.Table.{item_in, item_at, flat, is_there, pages_of, IsSound, SameEntries}

-- ---- the pages that are there
pub there_past : (table : List ℕ) (k : ℕ) → length table ≤ k → is_there table k ≡ false
there_past table k le = ap (λ n. not (n == 0)) (get_or_past table k 0 le)

pub contains-pages_of : (table : List ℕ) (k : ℕ) → set.contains (pages_of table) k ≡ is_there table k
unfolding pages_of
contains-pages_of table k =
    set.contains-from_list_nat (list_below (is_there table) (length table)) k
    ∙ elim (cases_lt k (length table)) [
      | inl lt ↦ list_below-any (is_there table) k (length table) lt
      | inr ge ↦ list_below-none (is_there table) k (length table) ge ∙ sym (there_past table k ge)
    ]

pub there : (table : List ℕ) (k : ℕ) → set.contains (pages_of table) k ≡ true → 0 < get_or table k 0
there table k e =
    elim (eqb_tells (get_or table k 0) 0) [
      | inl z ↦ absurd (true≢false (sym e ∙ contains-pages_of table k ∙ ap not z.0))
      | inr nz ↦ omega (arith, nz.1)
    ]

pub missing : (table : List ℕ) (k : ℕ) → set.contains (pages_of table) k ≡ false → get_or table k 0 ≡ 0
missing table k e =
    elim (eqb_tells (get_or table k 0) 0) [
      | inl z ↦ z.1
      | inr nz ↦ absurd (true≢false (sym (sym e ∙ contains-pages_of table k ∙ ap not nz.0)))
    ]

-- an entry stands in the table
pub entry_within : (table : List ℕ) (k : ℕ) → 0 < get_or table k 0 → k < length table
entry_within table k pos =
    elim (cases_lt k (length table)) [
      | inl lt ↦ lt
      | inr ge ↦ let z = get_or_past table k 0 ge in absurd (omega arith)
    ]

pub there_within : (table : List ℕ) (k : ℕ) → set.contains (pages_of table) k ≡ true → k < length table
there_within table k e = entry_within table k (there table k e)

pub no_pages : (table : List ℕ) → table ≡ [] → pages_of table ≡ set.empty
unfolding pages_of
no_pages table e = ap (λ (t : List ℕ). set.from_list {R = nat_cmp} (list_below (is_there t) (length t))) e

-- a page that is there already
pub insert_there : (s : set.FinSet nat_cmp) (k : ℕ) → set.contains s k ≡ true → s ≡ set.insert s k
insert_there s k has =
    set.same_set nat_cmp_total set.nat_cmp-IsAntisymmetric _ _ (λ q.
    sym (set.contains-insert nat_cmp_total s k q
    ∙ elim (cases_eq q k) [
      | inl same ↦ ap (λ b. b || set.contains s q) (unsigned_tied q k ∙ eq-eqb q k same) ∙ sym (ap (set.contains s) same ∙ has)
      | inr other ↦ ap (λ b. b || set.contains s q) (unsigned_tied q k ∙ ne_eqb q k other)
    ]))

-- ---- the items by their places
module _ {T : Type 0} (len : ℕ) (d : T) where
  pub length-flat : (table : List ℕ) (items : List T) → length (flat len d table items) ≡ length table * len
  unfolding flat
  length-flat table items = length-map-range_with_len (item_at len d table items) 0 (length table * len)

  pub none_there : (table : List ℕ) (items : List T) (i : ℕ) → get_or table (i / len) 0 ≡ 0 → item_at len d table items i ≡ d
  none_there table items i e = ap (item_in len d items (i % len)) e

  pub get_or-flat : 0 < len → (table : List ℕ) (items : List T) (i : ℕ) → get_or (flat len d table items) i d ≡ item_at len d table items i
  unfolding flat
  get_or-flat some table items i =
      elim (cases_lt i (length table * len)) [
        | inl lt ↦ get_or-map-range_with_len (item_at len d table items) 0 (length table * len) i i d lt (omega arith)
        | inr ge ↦
            let n = length-flat table items in
            get_or_past (flat len d table items) i d (omega (arith, n)) ∙ sym (none_there table items i (get_or_past table (i / len) 0 (le-div (length table) i len some ge)))
      ]

  -- two lists of items that read alike
  pub flat_is : 0 < len → (table : List ℕ) (items xs : List T) → length xs ≡ length table * len → ((i : ℕ) → get_or xs i d ≡ item_at len d table items i) → flat len d table items ≡ xs
  flat_is some table items xs n e = ext_get_or d _ _ (length-flat table items ∙ sym n) (λ i lt. get_or-flat some table items i ∙ sym (e i))

  pub no_items : (table : List ℕ) (items : List T) → table ≡ [] → flat len d table items ≡ []
  unfolding flat
  no_items table items e = ap (λ (n : ℕ). map (item_at len d table items) (range_with_len 0 (n * len))) (ap length e) ∙ ap (λ (n : ℕ). map (item_at len d table items) (range_with_len 0 n)) (let z : 0 * len ≡ 0 = omega arith in z)

  -- where an entry's part lies
  pub in_part : (e r n : ℕ) → 0 < e → r < len → e * len ≤ n → (e - 1) * len + r < n
  in_part zero r n pos lt le = absurd (omega arith)
  in_part (suc e) r n pos lt le =
      let m = suc-mul e len in
      let p : suc e - 1 ≡ e = omega arith in
      rw p (omega (arith, m))

  pub read_there : (items : List T) (e r : ℕ) → 0 < e → item_in len d items r e ≡ get_or items ((e - 1) * len + r) d
  read_there items zero r pos = absurd (omega arith)
  read_there items (suc e) r pos = ap (λ (n : ℕ). get_or items (n * len + r) d) (let p : e ≡ suc e - 1 = omega arith in p)

pub sound_empty : {T : Type 0} (len : ℕ) (table : List ℕ) (items : List T) → 0 < len → table ≡ [] → items ≡ [] → IsSound len table items
sound_empty len table items some t i =
    let none = λ (k : ℕ). get_or_past table k 0 (let n = ap length t in omega (arith, n)) in
    record {
      some = some;
      within = λ k. let z = none k in let n : get_or table k 0 * len ≡ 0 = ap (λ m. m * len) z ∙ (let o : 0 * len ≡ 0 = omega arith in o) in omega (arith, n);
      apart = λ k l pos e. let z = none k in absurd (omega arith);
      all = ap length i ∙ sym (ap (λ s. set.len s * len) (no_pages table t) ∙ ap (λ n. n * len) (set.len-empty nat_cmp) ∙ (let o : 0 * len ≡ 0 = omega arith in o));
    }

-- so many whole pages
pub times_le : (k n len : ℕ) → k < n → (k + 1) * len ≤ n * len
times_le k n len lt = mul-le-mul_right len (omega arith)

pub max-mul : (a b c : ℕ) → max a b * c ≡ max (a * c) (b * c)
max-mul a b c =
    elim (cases_lt a b) [
      | inl lt ↦ let m = mul-le-mul_right {m = a} {n = b} c (omega arith) in ap (λ n. n * c) (let e : max a b ≡ b = omega arith in e) ∙ (let e : b * c ≡ max (a * c) (b * c) = omega (arith, m) in e)
      | inr ge ↦ let m = mul-le-mul_right {m = b} {n = a} c ge in ap (λ n. n * c) (let e : max a b ≡ a = omega arith in e) ∙ (let e : a * c ≡ max (a * c) (b * c) = omega (arith, m) in e)
    ]

-- ---- what the view of a table and items says
module _ {T : Type 0} (len : ℕ) (d : T) (table : List ℕ) (items : List T) where
  abbrev view_of : Paged T
  view_of = record { items = flat len d table items; pages = pages_of table }

  pub seen_item : 0 < len → (s : Paged T) → view_of ≡ s → (i : ℕ) → get_or s.items i d ≡ item_at len d table items i
  seen_item some s e i = sym (ap (λ (t : Paged T). get_or t.items i d) e) ∙ get_or-flat len d some table items i

  pub seen_page : (s : Paged T) → view_of ≡ s → (k : ℕ) → set.contains s.pages k ≡ is_there table k
  seen_page s e k = sym (ap (λ (t : Paged T). set.contains t.pages k) e) ∙ contains-pages_of table k

  pub seen_there : (s : Paged T) → view_of ≡ s → (k : ℕ) → set.contains s.pages k ≡ true → 0 < get_or table k 0
  seen_there s e k h = there table k (ap (λ (t : Paged T). set.contains t.pages k) e ∙ h)

  pub seen_within : (s : Paged T) → view_of ≡ s → (k : ℕ) → set.contains s.pages k ≡ true → k < length table
  seen_within s e k h = there_within table k (ap (λ (t : Paged T). set.contains t.pages k) e ∙ h)

  pub seen_missing : (s : Paged T) → view_of ≡ s → (k : ℕ) → set.contains s.pages k ≡ false → get_or table k 0 ≡ 0
  seen_missing s e k h = missing table k (ap (λ (t : Paged T). set.contains t.pages k) e ∙ h)

  pub seen_length : (s : Paged T) → view_of ≡ s → length s.items ≡ length table * len
  seen_length s e = sym (ap (λ (t : Paged T). length t.items) e) ∙ length-flat len d table items

-- ---- a write
module _ {T : Type 0} (len : ℕ) (d : T) where
  other_in : (items : List T) (e e' r r' : ℕ) (x : T) → 0 < e → r < len → r' < len → (e ≡ e' → r ≡ r' → ⊥) → item_in len d (list_set items ((e - 1) * len + r) x) r' e' ≡ item_in len d items r' e'
  other_in items e zero r r' x pos lt lt' ne = refl
  other_in items e (suc k) r r' x pos lt lt' ne =
      get_or-set_other items ((e - 1) * len + r) (k * len + r') x d (λ same.
      let q : k ≡ e - 1 = sym (div-mul-add k len r' lt') ∙ ap (λ n. n / len) same ∙ div-mul-add (e - 1) len r lt in
      let m : r' ≡ r = sym (mod-mul-add k len r' lt') ∙ ap (λ n. n % len) same ∙ mod-mul-add (e - 1) len r lt in
      ne (omega (arith, q)) (sym m))

  same_place : (i j : ℕ) → i / len ≡ j / len → i % len ≡ j % len → i ≡ j
  same_place i j q m = sym (div-add-mod' i len) ∙ ap (λ n. n * len + i % len) q ∙ ap (λ n. j / len * len + n) m ∙ div-add-mod' j len

  pub item_set : (table : List ℕ) (items : List T) → IsSound len table items → (at : ℕ) (x : T) → 0 < get_or table (at / len) 0 → (i : ℕ) → item_at len d table (list_set items ((get_or table (at / len) 0 - 1) * len + at % len) x) i ≡ get_or (list_set (flat len d table items) at x) i d
  item_set table items sound at x pos i =
      let e = get_or table (at / len) 0 in
      let lt = mod_below at len sound.some in
      elim (cases_eq i at) [
        | inl same ↦
            let n = length-flat len d table items in
            let within = entry_within table (at / len) pos in
            let before = (div-lt_iff_lt-mul {k = len} {x = at} {y = length table} sound.some).0 within in
            ap (item_at len d table (list_set items ((e - 1) * len + at % len) x)) same
            ∙ read_there len d (list_set items ((e - 1) * len + at % len) x) e (at % len) pos
            ∙ get_or-set_same items ((e - 1) * len + at % len) x d (in_part len d e (at % len) (length items) pos lt (sound.within (at / len)))
            ∙ sym (ap (λ j. get_or (list_set (flat len d table items) at x) j d) same ∙ get_or-set_same (flat len d table items) at x d (omega (arith, n)))
        | inr other ↦
            other_in items e (get_or table (i / len) 0) (at % len) (i % len) x pos lt (mod_below i len sound.some) (λ q m. other (sym (same_place at i (sound.apart (at / len) (i / len) pos q) m)))
            ∙ sym (get_or-set_other (flat len d table items) at i x d other ∙ get_or-flat len d sound.some table items i)
      ]

  pub flat_set : (table : List ℕ) (items : List T) → IsSound len table items → (at : ℕ) (x : T) → 0 < get_or table (at / len) 0 → flat len d table (list_set items ((get_or table (at / len) 0 - 1) * len + at % len) x) ≡ list_set (flat len d table items) at x
  flat_set table items sound at x pos =
      flat_is len d sound.some table _ _ (length-set (flat len d table items) at x ∙ length-flat len d table items) (λ i. sym (item_set table items sound at x pos i))

  -- ---- every item becomes the filler
  pub filled : (n i : ℕ) → get_or (replicate n d) i d ≡ d
  filled n i =
      elim (cases_lt i n) [
        | inl lt ↦ get_or-replicate n i d d lt
        | inr ge ↦ let m = length-replicate n d in get_or_past (replicate n d) i d (omega (arith, m))
      ]

  item_filled : (n r e : ℕ) → item_in len d (replicate n d) r e ≡ d
  item_filled n r zero = refl
  item_filled n r (suc e) = filled n (e * len + r)

  pub flat_filled : 0 < len → (table : List ℕ) (n : ℕ) → flat len d table (replicate n d) ≡ replicate (length table * len) d
  flat_filled some table n =
      flat_is len d some table _ _ (length-replicate (length table * len) d) (λ i. filled (length table * len) i ∙ sym (item_filled n (i % len) (get_or table (i / len) 0)))

  -- ---- a page more
  new_in : (items : List T) (c r : ℕ) → length items ≡ c * len → r < len → item_in len d (items ++ replicate len d) r (suc c) ≡ d
  new_in items c r n lt = get_or-append_right items (replicate len d) (c * len) (c * len + r) d n (omega arith) ∙ filled len (c * len + r - c * len)

  old_in : (items ys : List T) (r e : ℕ) → e * len ≤ length items → r < len → item_in len d (items ++ ys) r e ≡ item_in len d items r e
  old_in items ys r zero le lt = refl
  old_in items ys r (suc k) le lt = let m = suc-mul k len in get_or_append_left items ys d (k * len + r) (omega (arith, m))

-- ---- a read where the page is there
module _ {T : Type 0} (len : ℕ) (d : T) (table : List ℕ) (items : List T) (sound : IsSound len table items) (at spot : ℕ) (pos : 0 < get_or table (at / len) 0) (is : spot ≡ (get_or table (at / len) 0 - 1) * len + at % len) where
  pub spot_within : spot < length items
  spot_within = let i = in_part len d (get_or table (at / len) 0) (at % len) (length items) pos (mod_below at len sound.some) (sound.within (at / len)) in omega (arith, is, i)

  pub read_spot : (x : T) → x ≡ get_or items spot x → x ≡ item_at len d table items at
  read_spot x e =
      get_or_read items spot x spot_within e d
      ∙ ap (λ n. get_or items n d) is
      ∙ sym (read_there len d items (get_or table (at / len) 0) (at % len) pos)

  pub flat_written : (x : T) → flat len d table (list_set items spot x) ≡ list_set (flat len d table items) at x
  flat_written x = ap (λ n. flat len d table (list_set items n x)) is ∙ flat_set len d table items sound at x pos

-- the table and the items with one page more
pub record IsGrown {T : Type 0} (len : ℕ) (d : T) (table table' : List ℕ) (items items' : List T) (page : ℕ) : Type 0 where
  pub sound : IsSound len table' items'
  pub item : (i : ℕ) → item_at len d table' items' i ≡ item_at len d table items i
  pub pages : pages_of table' ≡ set.insert (pages_of table) page

module _ {T : Type 0} (len : ℕ) (d : T) (table table1 : List ℕ) (items : List T) (page c : ℕ) (sound : IsSound len table items) (same : SameEntries table table1) (reached : page < length table1) (none : get_or table page 0 ≡ 0) (count : set.len (pages_of table) ≡ c) where
  abbrev made : List ℕ
  made = list_set table1 page (suc c)

  abbrev longer : List T
  longer = items ++ replicate len d

  here : (k : ℕ) → k ≡ page → get_or made k 0 ≡ suc c
  here k e = ap (λ j. get_or made j 0) e ∙ get_or-set_same table1 page (suc c) 0 reached

  elsewhere : (k : ℕ) → k ≢ page → get_or made k 0 ≡ get_or table k 0
  elsewhere k ne = get_or-set_other table1 page k (suc c) 0 ne ∙ same.at k

  pages : length items ≡ c * len
  pages = sound.all ∙ ap (λ n. n * len) count

  -- an entry of before is not the new one
  before : (k : ℕ) → get_or table k 0 ≡ suc c → ⊥
  before k e =
      let w = sound.within k in
      let m = ap (λ n. n * len) e ∙ suc-mul c len in
      let p = pages in
      let some = sound.some in
      omega (arith, w, m, p, some)

  item_made : (i : ℕ) → item_at len d made longer i ≡ item_at len d table items i
  item_made i =
      let lt = mod_below i len sound.some in
      elim (cases_eq (i / len) page) [
        | inl at_page ↦
            ap (item_in len d longer (i % len)) (here (i / len) at_page)
            ∙ new_in len d items c (i % len) pages lt
            ∙ sym (none_there len d table items i (ap (λ j. get_or table j 0) at_page ∙ none))
        | inr other ↦
            ap (item_in len d longer (i % len)) (elsewhere (i / len) other)
            ∙ old_in len d items (replicate len d) (i % len) (get_or table (i / len) 0) (sound.within (i / len)) lt
      ]

  pages_made : pages_of made ≡ set.insert (pages_of table) page
  pages_made =
      set.same_set nat_cmp_total set.nat_cmp-IsAntisymmetric _ _ (λ q.
      contains-pages_of made q
      ∙ elim (cases_eq q page) [
        | inl at_page ↦ ap (λ n. not (n == 0)) (here q at_page) ∙ ap not (ne_eqb (suc c) 0 (λ e. omega (arith, e))) ∙ sym (ap (λ b. b || set.contains (pages_of table) q) (unsigned_tied q page ∙ eq-eqb q page at_page))
        | inr other ↦
            ap (λ n. not (n == 0)) (elsewhere q other)
            ∙ sym (ap (λ b. b || set.contains (pages_of table) q) (unsigned_tied q page ∙ ne_eqb q page other) ∙ contains-pages_of table q)
      ]
      ∙ sym (set.contains-insert nat_cmp_total (pages_of table) page q))

  more_pages : set.len (pages_of made) ≡ suc c
  more_pages =
      ap set.len pages_made
      ∙ set.len-insert nat_cmp_total (pages_of table) page
      ∙ ap (λ b. cond b (set.len (pages_of table)) (set.len (pages_of table) + 1)) (contains-pages_of table page ∙ ap (λ n. not (n == 0)) none)
      ∙ ap (λ n. n + 1) count
      ∙ (let e : c + 1 ≡ suc c = omega arith in e)

  length-longer : length longer ≡ suc c * len
  length-longer =
      let n = length-append items (replicate len d) in
      let m = length-replicate len d in
      let p = pages in
      let q = suc-mul c len in
      omega (arith, n, m, p, q)

  made_within : (k : ℕ) → get_or made k 0 * len ≤ length longer
  made_within k =
      let n = length-longer in
      elim (cases_eq k page) [
        | inl at_page ↦ let m = ap (λ j. j * len) (here k at_page) in omega (arith, n, m)
        | inr other ↦
            let m = ap (λ j. j * len) (elsewhere k other) in
            let w = sound.within k in
            let p = pages in
            let q = suc-mul c len in
            omega (arith, n, m, w, p, q)
      ]

  made_apart : (k l : ℕ) → 0 < get_or made k 0 → get_or made k 0 ≡ get_or made l 0 → k ≡ l
  made_apart k l pos e =
      elim (cases_eq k page) [
        | inl k_is ↦ elim (cases_eq l page) [ inl l_is ↦ k_is ∙ sym l_is | inr l_not ↦ absurd (before l (sym (elsewhere l l_not) ∙ sym e ∙ here k k_is)) ]
        | inr k_not ↦
            elim (cases_eq l page) [
              | inl l_is ↦ absurd (before k (sym (elsewhere k k_not) ∙ e ∙ here l l_is))
              | inr l_not ↦ sound.apart k l (let s = elsewhere k k_not in omega (arith, s)) (sym (elsewhere k k_not) ∙ e ∙ elsewhere l l_not)
            ]
      ]

  sound_made : IsSound len made longer
  sound_made = record { some = sound.some; within = made_within; apart = made_apart; all = length-longer ∙ ap (λ n. n * len) (sym more_pages) }

  -- by the entry and the items as the code has them
  pub grown : (entry : ℕ) (items' : List T) → entry ≡ suc c → items' ≡ longer → IsGrown len d table (list_set table1 page entry) items items' page
  grown entry items' entry_is items_are = rw (entry_is, items_are) (record { sound = sound_made; item = item_made; pages = pages_made })

-- the entry of the next page
pub next_entry : (len c n e : ℕ) → 0 < len → n ≡ c * len → e ≡ n / len + 1 → e ≡ suc c
next_entry len c n e some n_is e_is =
    let q : n / len ≡ c = ap (λ m. m / len) (n_is ∙ (let z : c * len ≡ c * len + 0 = omega arith in z)) ∙ div-mul-add c len 0 some in
    omega (arith, q, e_is)

-- a list that was made longer by one item
pub resized : {T : Type 0} (len n k : ℕ) (xs ys zs : List T) (x d : T) → zs ≡ take n ys ++ replicate (n - k) x → ys ≡ xs → k ≡ length xs → n ≡ length xs + len → x ≡ d → zs ≡ xs ++ replicate len d
resized len n k xs ys zs x d made same k_is n_is x_is =
    made
    ∙ ap (λ ws. take n ws ++ replicate (n - k) x) same
    ∙ ap (λ ws. ws ++ replicate (n - k) x) (take_all n xs (omega (arith, n_is)))
    ∙ ap (λ m. xs ++ replicate m x) (let e : n - k ≡ len = omega (arith, k_is, n_is) in e)
    ∙ ap (λ y. xs ++ replicate len y) x_is

-- ---- a page as a part of the items
pub part_within : (len e n : ℕ) → 0 < e → e * len ≤ n → (e - 1) * len + len ≤ n
part_within len zero n pos le = absurd (omega arith)
part_within len (suc e) n pos le =
    let m = suc-mul e len in
    let p : suc e - 1 ≡ e = omega arith in
    rw p (omega (arith, m))

module _ {T : Type 0} (len : ℕ) (d : T) where
  pub length_part : (xs : List T) (s : ℕ) → s + len ≤ length xs → length (take (s + len - s) (drop s xs)) ≡ len
  length_part xs s le =
      let n = length-take (s + len - s) (drop s xs) in
      let m = length-drop s xs in
      omega (arith, n, m)

  pub item_part : (xs : List T) (s j : ℕ) → j < len → get_or (take (s + len - s) (drop s xs)) j d ≡ get_or xs (s + j) d
  item_part xs s j lt = get_or-take (s + len - s) (drop s xs) j d (omega arith) ∙ get_or-drop s xs j d

  -- the item at place j of a page
  pub item_of_page : (table : List ℕ) (items : List T) (page j : ℕ) → j < len → item_at len d table items (page * len + j) ≡ item_in len d items j (get_or table page 0)
  item_of_page table items page j lt =
      ap (λ r. item_in len d items r (get_or table ((page * len + j) / len) 0)) (mod-mul-add page len j lt)
      ∙ ap (λ k. item_in len d items j (get_or table k 0)) (div-mul-add page len j lt)
