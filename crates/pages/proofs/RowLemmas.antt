-- What a row and the pages behind it are as one.
use Rattle.std.proofs.Common.{◌≡◌, ◌≢◌, ℕ, zero, suc, ◌+◌, ◌-◌, ◌*◌, ◌/◌, ◌%◌, ◌<◌, ◌≤◌, Bool, true, false, max, ◌||◌, List, [], ◌++◌, length, get_or, drop, replicate, set as list_set, length-set, get_or-set_same, get_or-set_other, refl, sym, ap, ◌∙◌, inl, inr, arith, eq-eqb}
use Rattle.std.specs.Ordering.{nat_cmp}
use Rattle.std.specs.Cmp.{nat_cmp_total, unsigned_tied}
use Rattle.std.specs.FinSet as set
use Rattle.std.proofs.Math.Nat.{suc-mul, div-lt_iff_lt-mul, mul-le-mul_right}
use Rattle.std.proofs.lemmas.Bool.{cases_eq, cases_lt, ne_eqb, true≢false}
use Rattle.std.proofs.lemmas.List.{get_or_past, get_or_append_left, get_or-append_right, length-append, length-replicate, ext_get_or, get_or-drop, get_or_read, length-drop}
use Rattle.std.proofs.lemmas.Nat.{div-mul-add, mod-mul-add, le-div, div-add-mod'}
use Rattle.std.specs.Bool.{if◌then◌else◌}
use Rattle.pages.specs.Paged.{Paged}
use Rattle.pages.specs.Joined.{joined, with_first, IsJoined}
use Rattle.pages.proofs.TableLemmas.{times_le, max-mul, filled, insert_there}

-- ---- the set of pages
pub has_inserted : (s : set.FinSet nat_cmp) (k q : ℕ) → q ≡ k → set.contains (set.insert s k) q ≡ true
has_inserted s k q e = set.contains-insert nat_cmp_total s k q ∙ ap (λ b. b || set.contains s q) (unsigned_tied q k ∙ eq-eqb q k e)

pub insert_other : (s : set.FinSet nat_cmp) (k q : ℕ) → q ≢ k → set.contains (set.insert s k) q ≡ set.contains s q
insert_other s k q ne = set.contains-insert nat_cmp_total s k q ∙ ap (λ b. b || set.contains s q) (unsigned_tied q k ∙ ne_eqb q k ne)

pub first_there : (s : set.FinSet nat_cmp) (n q : ℕ) → q < n → set.contains (with_first s n) q ≡ true
first_there s zero q lt = absurd (omega arith)
first_there s (suc n) q lt =
    elim (cases_eq q n) [
      | inl same ↦ has_inserted (with_first s n) n q same
      | inr other ↦ insert_other (with_first s n) n q other ∙ first_there s n q (omega (arith, other))
    ]

pub first_other : (s : set.FinSet nat_cmp) (n q : ℕ) → n ≤ q → set.contains (with_first s n) q ≡ set.contains s q
first_other s zero q le = refl
first_other s (suc n) q le = insert_other (with_first s n) n q (λ e. omega (arith, e)) ∙ first_other s n q (omega arith)

pub first_insert : (s : set.FinSet nat_cmp) (n k : ℕ) → with_first (set.insert s k) n ≡ set.insert (with_first s n) k
first_insert s n k =
    set.same_set nat_cmp_total set.nat_cmp-IsAntisymmetric _ _ (λ q.
    elim (cases_lt q n) [
      | inl lt ↦
          first_there (set.insert s k) n q lt
          ∙ sym (elim (cases_eq q k) [
            | inl same ↦ has_inserted (with_first s n) k q same
            | inr other ↦ insert_other (with_first s n) k q other ∙ first_there s n q lt
          ])
      | inr ge ↦
          first_other (set.insert s k) n q ge
          ∙ elim (cases_eq q k) [
            | inl same ↦ has_inserted s k q same ∙ sym (has_inserted (with_first s n) k q same)
            | inr other ↦ insert_other s k q other ∙ sym (insert_other (with_first s n) k q other ∙ first_other s n q ge)
          ]
    ])

-- ---- the items
module _ {T : Type 0} where
  pub length-joined : (row behind : List T) → length (joined row behind) ≡ max (length row) (length behind)
  unfolding joined
  length-joined row behind =
      let n = length-append row (drop (length row) behind) in
      let m = length-drop (length row) behind in
      omega (arith, n, m)

  pub in_row : (row behind : List T) (i : ℕ) (d : T) → i < length row → get_or (joined row behind) i d ≡ get_or row i d
  unfolding joined
  in_row row behind i d lt = get_or_append_left row (drop (length row) behind) d i lt

  pub past_row : (row behind : List T) (i : ℕ) (d : T) → length row ≤ i → get_or (joined row behind) i d ≡ get_or behind i d
  unfolding joined
  past_row row behind i d le =
      get_or-append_right row (drop (length row) behind) (length row) i d refl le
      ∙ get_or-drop (length row) behind (i - length row) d
      ∙ ap (λ k. get_or behind k d) (let e : length row + (i - length row) ≡ i = omega arith in e)

  -- two lists that read alike as one
  pub joined_is : (d : T) (row behind xs : List T) → length xs ≡ max (length row) (length behind) → ((i : ℕ) → i < length row → get_or xs i d ≡ get_or row i d) → ((i : ℕ) → length row ≤ i → get_or xs i d ≡ get_or behind i d) → joined row behind ≡ xs
  joined_is d row behind xs n r b =
      ext_get_or d _ _ (length-joined row behind ∙ sym n) (λ i _.
      elim (cases_lt i (length row)) [
        | inl lt ↦ in_row row behind i d lt ∙ sym (r i lt)
        | inr ge ↦ past_row row behind i d ge ∙ sym (b i ge)
      ])

  pub set_in_row : (row behind : List T) (at : ℕ) (x : T) → at < length row → joined (list_set row at x) behind ≡ list_set (joined row behind) at x
  set_in_row row behind at x lt =
      let n = length-joined row behind in
      let m = length-set row at x in
      joined_is x _ _ _ (length-set (joined row behind) at x ∙ n ∙ sym (ap (λ k. max k (length behind)) m))
      (λ i r. elim (cases_eq i at) [
        | inl same ↦
            ap (λ j. get_or (list_set (joined row behind) at x) j x) same
            ∙ get_or-set_same (joined row behind) at x x (omega (arith, n))
            ∙ sym (ap (λ j. get_or (list_set row at x) j x) same ∙ get_or-set_same row at x x lt)
        | inr other ↦
            get_or-set_other (joined row behind) at i x x other
            ∙ in_row row behind i x (omega (arith, m, r))
            ∙ sym (get_or-set_other row at i x x other)
      ])
      (λ i r. get_or-set_other (joined row behind) at i x x (λ e. omega (arith, e, m, r)) ∙ past_row row behind i x (omega (arith, m, r)))

  pub set_past_row : (row behind : List T) (at : ℕ) (x : T) → length row ≤ at → joined row (list_set behind at x) ≡ list_set (joined row behind) at x
  set_past_row row behind at x le =
      let n = length-joined row behind in
      let m = length-set behind at x in
      joined_is x _ _ _ (length-set (joined row behind) at x ∙ n ∙ sym (ap (λ k. max (length row) k) m))
      (λ i r. get_or-set_other (joined row behind) at i x x (λ e. omega (arith, e, r)) ∙ in_row row behind i x r)
      (λ i r. elim (cases_eq i at) [
        | inl same ↦
            ap (λ j. get_or (list_set (joined row behind) at x) j x) same
            ∙ elim (cases_lt at (length behind)) [
              | inl lt ↦ get_or-set_same (joined row behind) at x x (omega (arith, n)) ∙ sym (get_or-set_same behind at x x lt)
              | inr ge ↦
                  get_or_past (list_set (joined row behind) at x) at x (let k = length-set (joined row behind) at x in omega (arith, n, k)) ∙ sym (get_or_past (list_set behind at x) at x (omega (arith, m)))
            ]
            ∙ sym (ap (λ j. get_or (list_set behind at x) j x) same)
        | inr other ↦
            get_or-set_other (joined row behind) at i x x other
            ∙ past_row row behind i x r
            ∙ sym (get_or-set_other behind at i x x other)
      ])

  pub joined_filled : (d : T) (n m : ℕ) → joined (replicate n d) (replicate m d) ≡ replicate (max n m) d
  joined_filled d n m =
      joined_is d _ _ _ (length-replicate (max n m) d ∙ sym (ap (λ k. max k (length (replicate m d))) (length-replicate n d) ∙ ap (λ k. max n k) (length-replicate m d)))
      (λ i _. filled n d (max n m) i ∙ sym (filled n d n i))
      (λ i _. filled n d (max n m) i ∙ sym (filled n d m i))

-- ---- a row of whole pages
module _ {T : Type 0} (len : ℕ) (d : T) (row : List T) (behind : Paged T) (j : IsJoined len d row behind) where
  abbrev pages_in_row : ℕ
  pages_in_row = length row / len

  pub whole_row : pages_in_row * len ≡ length row
  whole_row = let e = div-add-mod' (length row) len in let w = j.whole in omega (arith, e, w)

  pub page_in_row : (i : ℕ) → i < length row → i / len < pages_in_row
  page_in_row i lt = (div-lt_iff_lt-mul {k = len} {x = i} {y = pages_in_row} j.some).1 (let w = whole_row in omega (arith, w))

  pub place_in_row : (i : ℕ) → i / len < pages_in_row → i < length row
  place_in_row i lt = let b = (div-lt_iff_lt-mul {k = len} {x = i} {y = pages_in_row} j.some).0 lt in let w = whole_row in omega (arith, b, w)

  pub page_past_row : (i : ℕ) → length row ≤ i → pages_in_row ≤ i / len
  page_past_row i le = le-div pages_in_row i len j.some (let w = whole_row in omega (arith, w))

  pub start_in_row : (page : ℕ) → page * len < length row → page < pages_in_row
  start_in_row page lt =
      elim (cases_lt page pages_in_row) [
        | inl lt ↦ lt
        | inr ge ↦ let m = mul-le-mul_right {m = pages_in_row} {n = page} len ge in let w = whole_row in absurd (omega (arith, m, w))
      ]

  pub part_in_row : (page : ℕ) → page * len < length row → page * len + len ≤ length row
  part_in_row page lt =
      let t = times_le page pages_in_row len (start_in_row page lt) in
      let w = whole_row in
      let m = suc-mul page len in
      let e : (page + 1) * len ≡ suc page * len = ap (λ k. k * len) (let e : page + 1 ≡ suc page = omega arith in e) in
      omega (arith, t, w, m, e)

  pub start_past_row : (page : ℕ) → length row ≤ page * len → pages_in_row ≤ page
  start_past_row page le =
      elim (cases_lt page pages_in_row) [
        | inl lt ↦
            let t = times_le page pages_in_row len lt in
            let w = whole_row in
            let m = suc-mul page len in
            let e : (page + 1) * len ≡ suc page * len = ap (λ k. k * len) (let e : page + 1 ≡ suc page = omega arith in e) in
            let some = j.some in
            absurd (omega (arith, t, w, m, e, some))
        | inr ge ↦ ge
      ]

  abbrev one : Paged T
  one = record { items = joined row behind.items; pages = with_first behind.pages pages_in_row }

  module _ (s : Paged T) (e : one ≡ s) where
    pub row_item : (i : ℕ) → i < length row → get_or s.items i d ≡ get_or row i d
    row_item i lt = sym (ap (λ (t : Paged T). get_or t.items i d) e) ∙ in_row row behind.items i d lt

    pub behind_item : (i : ℕ) → length row ≤ i → get_or s.items i d ≡ get_or behind.items i d
    behind_item i le = sym (ap (λ (t : Paged T). get_or t.items i d) e) ∙ past_row row behind.items i d le

    pub read_row : (i : ℕ) (x : T) → i < length row → x ≡ get_or row i x → x ≡ get_or s.items i d
    read_row i x lt is = get_or_read row i x lt is d ∙ sym (row_item i lt)

    pub one_length : length s.items ≡ max (length row) (length behind.items)
    one_length = sym (ap (λ (t : Paged T). length t.items) e) ∙ length-joined row behind.items

    pub row_has : (k : ℕ) → k < pages_in_row → set.contains s.pages k ≡ true
    row_has k lt = sym (ap (λ (t : Paged T). set.contains t.pages k) e) ∙ first_there behind.pages pages_in_row k lt

    pub behind_has : (k : ℕ) → pages_in_row ≤ k → set.contains s.pages k ≡ set.contains behind.pages k
    behind_has k le = sym (ap (λ (t : Paged T). set.contains t.pages k) e) ∙ first_other behind.pages pages_in_row k le

    -- a page that is there is so as a whole
    pub one_within : (k : ℕ) → set.contains s.pages k ≡ true → (k + 1) * len ≤ length s.items
    one_within k has =
        let n = one_length in
        elim (cases_lt k pages_in_row) [
          | inl lt ↦ let t = times_le k pages_in_row len lt in let w = whole_row in omega (arith, n, t, w)
          | inr ge ↦ let t = j.within k (sym (behind_has k ge) ∙ has) in omega (arith, n, t)
        ]

    pub one_missing : (i : ℕ) → set.contains s.pages (i / len) ≡ false → get_or s.items i d ≡ d
    one_missing i none =
        elim (cases_lt (i / len) pages_in_row) [
          | inl lt ↦ absurd (true≢false (sym (row_has (i / len) lt) ∙ none))
          | inr ge ↦
              let le : length row ≤ i = elim (cases_lt i (length row)) [ inl lt ↦ let p = page_in_row i lt in absurd (omega (arith, p)) | inr le ↦ le ] in
              behind_item i le ∙ j.missing i (sym (behind_has (i / len) ge) ∙ none)
        ]

    -- a page that is not there lies past the row, and is not behind it
    pub page_not_there : (k : ℕ) → set.contains s.pages k ≡ false → pages_in_row ≤ k
    page_not_there k none = elim (cases_lt k pages_in_row) [ inl lt ↦ absurd (true≢false (sym (row_has k lt) ∙ none)) | inr ge ↦ ge ]

    pub not_behind : (k : ℕ) → set.contains s.pages k ≡ false → set.contains behind.pages k ≡ false
    not_behind k none = sym (behind_has k (page_not_there k none)) ∙ none

    pub reach_length : (r m : ℕ) → r * len ≡ length behind.items → m ≡ max pages_in_row r → m * len ≡ length s.items
    reach_length r m r_is m_is =
        let n = one_length in
        let w = whole_row in
        ap (λ k. k * len) m_is ∙ max-mul pages_in_row r len ∙ (let e : max (pages_in_row * len) (r * len) ≡ length s.items = omega (arith, n, w, r_is) in e)

    pub reach_pages : (r m : ℕ) → ((k : ℕ) → set.contains behind.pages k ≡ true → k < r) → m ≡ max pages_in_row r → (k : ℕ) → set.contains s.pages k ≡ true → k < m
    reach_pages r m below m_is k h = elim (cases_lt k pages_in_row) [ inl lt ↦ omega (arith, m_is) | inr ge ↦ let b = below k (sym (behind_has k ge) ∙ h) in omega (arith, b, m_is) ]

    -- a page that is there already
    pub one_length_there : (k : ℕ) → set.contains s.pages k ≡ true → length s.items ≡ max (length s.items) ((k + 1) * len)
    one_length_there k has = let w = one_within k has in omega (arith, w)

-- ---- nothing yet
module _ {T : Type 0} (len : ℕ) (d : T) (row : List T) (behind : Paged T) (some : 0 < len) (none : row ≡ []) (no_items : behind.items ≡ []) (no_pages : behind.pages ≡ set.empty) where
  no_length : length row ≡ 0
  no_length = ap length none

  none_first : length row / len ≡ 0
  none_first = ap (λ n. n / len) (no_length ∙ (let z : 0 ≡ 0 * len + 0 = omega arith in z)) ∙ div-mul-add 0 len 0 some

  pub joined_empty : IsJoined len d row behind
  joined_empty =
      let has_none = λ (k : ℕ) (h : set.contains behind.pages k ≡ true). true≢false (sym h ∙ ap (λ s. set.contains s k) no_pages ∙ set.contains-empty nat_cmp k) in
      record {
        some = some;
        whole = ap (λ n. n % len) (no_length ∙ (let z : 0 ≡ 0 * len + 0 = omega arith in z)) ∙ mod-mul-add 0 len 0 some;
        within = λ k h. absurd (has_none k h);
        missing = λ i _. get_or_past behind.items i d (let n = ap length no_items in omega (arith, n));
      }

  pub empty_items : joined row behind.items ≡ []
  empty_items = joined_is d row behind.items [] (let n = no_length in let m = ap length no_items in omega (arith, n, m)) (λ i _. sym (get_or_past row i d (let n = no_length in omega (arith, n)))) (λ i _. sym (get_or_past behind.items i d (let n = ap length no_items in omega (arith, n))))

  pub empty_pages : with_first behind.pages (length row / len) ≡ set.empty
  empty_pages = ap (with_first behind.pages) none_first ∙ no_pages

-- ---- a row of the same length
pub joined_written : {T : Type 0} (len : ℕ) (d : T) (row row' : List T) (behind : Paged T) → IsJoined len d row behind → length row' ≡ length row → IsJoined len d row' behind
joined_written len d row row' behind j n =
    record {
      some = j.some;
      whole = ap (λ m. m % len) n ∙ j.whole;
      within = j.within;
      missing = j.missing;
    }

-- ---- a page more in the row
module _ {T : Type 0} (len : ℕ) (d : T) (row row' : List T) (behind : Paged T) (j : IsJoined len d row behind) (is : row' ≡ row ++ replicate len d) (none : set.contains behind.pages (length row / len) ≡ false) where
  length_grown : length row' ≡ length row + len
  length_grown = ap length is ∙ length-append row (replicate len d) ∙ ap (λ n. length row + n) (length-replicate len d)

  length_pages : length row' ≡ suc (length row / len) * len + 0
  length_pages = let n = length_grown in let w = whole_row len d row behind j in let m = suc-mul (length row / len) len in omega (arith, n, w, m)

  pages_grown : length row' / len ≡ suc (length row / len)
  pages_grown = ap (λ n. n / len) length_pages ∙ div-mul-add (suc (length row / len)) len 0 j.some

  pub joined_grown : IsJoined len d row' behind
  joined_grown =
      record {
        some = j.some;
        whole = ap (λ n. n % len) length_pages ∙ mod-mul-add (suc (length row / len)) len 0 j.some;
        within = j.within;
        missing = j.missing;
      }

  grown_filler : (i : ℕ) → length row ≤ i → get_or row' i d ≡ d
  grown_filler i le = ap (λ xs. get_or xs i d) is ∙ get_or-append_right row (replicate len d) (length row) i d refl le ∙ filled len d len (i - length row)

  none_behind : (i : ℕ) → length row ≤ i → i < length row' → get_or behind.items i d ≡ d
  none_behind i le lt =
      let p = page_past_row len d row behind j i le in
      let q = page_in_row len d row' behind joined_grown i lt in
      let e = pages_grown in
      let same : i / len ≡ length row / len = omega (arith, p, q, e) in
      j.missing i (ap (set.contains behind.pages) same ∙ none)

  pub grown_item : (i : ℕ) → get_or (joined row' behind.items) i d ≡ get_or (joined row behind.items) i d
  grown_item i =
      let n = length_grown in
      elim (cases_lt i (length row)) [
        | inl lt ↦
            in_row row' behind.items i d (omega (arith, n))
            ∙ ap (λ xs. get_or xs i d) is
            ∙ get_or_append_left row (replicate len d) d i lt
            ∙ sym (in_row row behind.items i d lt)
        | inr ge ↦
            elim (cases_lt i (length row')) [
              | inl lt ↦ in_row row' behind.items i d lt ∙ grown_filler i ge ∙ sym (past_row row behind.items i d ge ∙ none_behind i ge lt)
              | inr past ↦ past_row row' behind.items i d past ∙ sym (past_row row behind.items i d ge)
            ]
      ]

  pub grown_pages : with_first behind.pages (length row' / len) ≡ set.insert (with_first behind.pages (length row / len)) (length row / len)
  grown_pages = ap (with_first behind.pages) pages_grown

  pub grown_length : length (joined row' behind.items) ≡ max (length (joined row behind.items)) ((length row / len + 1) * len)
  grown_length =
      let n = length-joined row' behind.items in
      let m = length-joined row behind.items in
      let w = whole_row len d row behind j in
      let l = length_pages in
      let g = length_grown in
      let e = ap (λ k. k * len) (let e : suc (length row / len) ≡ length row / len + 1 = omega arith in e) in
      omega (arith, n, m, w, l, g, e)

-- ---- a page more behind the row
module _ {T : Type 0} (len : ℕ) (d : T) (row : List T) (behind behind' : Paged T) (j : IsJoined len d row behind) (page : ℕ) (items : (i : ℕ) → get_or behind'.items i d ≡ get_or behind.items i d) (pages : behind'.pages ≡ set.insert behind.pages page) (n : length behind'.items ≡ max (length behind.items) ((page + 1) * len)) (past : length row / len ≤ page) where
  kept_page : (k : ℕ) → k ≢ page → set.contains behind'.pages k ≡ set.contains behind.pages k
  kept_page k ne = ap (λ s. set.contains s k) pages ∙ insert_other behind.pages page k ne

  new_page : (k : ℕ) → k ≡ page → set.contains behind'.pages k ≡ true
  new_page k e = ap (λ s. set.contains s k) pages ∙ has_inserted behind.pages page k e

  pub joined_reserved : IsJoined len d row behind'
  joined_reserved =
      record {
        some = j.some;
        whole = j.whole;
        within = λ k h.
            elim (cases_eq k page) [
              | inl same ↦ let e = ap (λ m. (m + 1) * len) same in omega (arith, e, n)
              | inr other ↦ let w = j.within k (sym (kept_page k other) ∙ h) in omega (arith, w, n)
            ];
        missing = λ i h. items i ∙ elim (cases_eq (i / len) page) [ inl same ↦ absurd (true≢false (sym (new_page (i / len) same) ∙ h)) | inr other ↦ j.missing i (sym (kept_page (i / len) other) ∙ h) ];
      }

  pub reserved_item : (i : ℕ) → get_or (joined row behind'.items) i d ≡ get_or (joined row behind.items) i d
  reserved_item i =
      elim (cases_lt i (length row)) [
        | inl lt ↦ in_row row behind'.items i d lt ∙ sym (in_row row behind.items i d lt)
        | inr ge ↦ past_row row behind'.items i d ge ∙ items i ∙ sym (past_row row behind.items i d ge)
      ]

  pub reserved_pages : with_first behind'.pages (length row / len) ≡ set.insert (with_first behind.pages (length row / len)) page
  reserved_pages = ap (λ s. with_first s (length row / len)) pages ∙ first_insert behind.pages (length row / len) page

  pub reserved_length : length (joined row behind'.items) ≡ max (length (joined row behind.items)) ((page + 1) * len)
  reserved_length = let a = length-joined row behind'.items in let b = length-joined row behind.items in omega (arith, a, b, n)

-- one page more, in the row or behind it, than s has
pub record IsOneMore {T : Type 0} (len : ℕ) (d : T) (row : List T) (behind s : Paged T) (page : ℕ) : Type 0 where
  pub sound : IsJoined len d row behind
  pub item : (i : ℕ) → get_or (joined row behind.items) i d ≡ get_or s.items i d
  pub pages : with_first behind.pages (length row / len) ≡ set.insert s.pages page
  pub size : length (joined row behind.items) ≡ max (length s.items) ((page + 1) * len)

module _ {T : Type 0} (len : ℕ) (d : T) (row : List T) (behind : Paged T) (j : IsJoined len d row behind) (s : Paged T) (e : one len d row behind j ≡ s) (page : ℕ) (none : set.contains s.pages page ≡ false) where
  pub more_in_row : (row' : List T) → page * len ≡ length row → row' ≡ row ++ replicate len d → IsOneMore len d row' behind s page
  more_in_row row' ends is =
      let p : length row / len ≡ page = ap (λ n. n / len) (let z : length row ≡ page * len + 0 = omega (arith, ends) in z) ∙ div-mul-add page len 0 j.some in
      let free = ap (set.contains behind.pages) p ∙ not_behind len d row behind j s e page none in
      rw (← e)
      (record {
        sound = joined_grown len d row row' behind j is free;
        item = grown_item len d row row' behind j is free;
        pages = grown_pages len d row row' behind j is free ∙ ap (set.insert (with_first behind.pages (length row / len))) p;
        size = grown_length len d row row' behind j is free ∙ ap (λ k. max (length (joined row behind.items)) ((k + 1) * len)) p;
      })

  pub more_behind : (behind' : Paged T) → ((i : ℕ) → get_or behind'.items i d ≡ get_or behind.items i d) → behind'.pages ≡ set.insert behind.pages page → length behind'.items ≡ max (length behind.items) ((page + 1) * len) → IsOneMore len d row behind' s page
  more_behind behind' items pages n =
      let past = page_not_there len d row behind j s e page none in
      rw (← e)
      (record {
        sound = joined_reserved len d row behind behind' j page items pages n past;
        item = reserved_item len d row behind behind' j page items pages n past;
        pages = reserved_pages len d row behind behind' j page items pages n past;
        size = reserved_length len d row behind behind' j page items pages n past;
      })

-- ---- other items behind the row
module _ {T : Type 0} (len : ℕ) (d : T) (row : List T) (behind behind' : Paged T) (j : IsJoined len d row behind) (pages : behind'.pages ≡ behind.pages) (n : length behind'.items ≡ length behind.items) where
  same_page : (k : ℕ) (b : Bool) → set.contains behind'.pages k ≡ b → set.contains behind.pages k ≡ b
  same_page k b h = sym (ap (λ s. set.contains s k) pages) ∙ h

  pub joined_others : ((i : ℕ) → set.contains behind.pages (i / len) ≡ false → get_or behind'.items i d ≡ d) → IsJoined len d row behind'
  joined_others missing =
      record {
        some = j.some;
        whole = j.whole;
        within = λ k h. let w = j.within k (same_page k true h) in omega (arith, w, n);
        missing = λ i h. missing i (same_page (i / len) false h);
      }

-- what a write behind the row leaves
pub joined_set : {T : Type 0} (len : ℕ) (d : T) (row : List T) (behind behind' : Paged T) → IsJoined len d row behind → (at : ℕ) (x : T) → set.contains behind.pages (at / len) ≡ true → behind'.items ≡ list_set behind.items at x → behind'.pages ≡ behind.pages → IsJoined len d row behind'
joined_set len d row behind behind' j at x has items pages =
    joined_others len d row behind behind' j pages (ap length items ∙ length-set behind.items at x) (λ i none.
    ap (λ xs. get_or xs i d) items
    ∙ get_or-set_other behind.items at i x d (λ e. true≢false (sym has ∙ ap (λ k. set.contains behind.pages (k / len)) (sym e) ∙ none))
    ∙ j.missing i none)

-- all items are the filler
pub joined_fill : {T : Type 0} (len : ℕ) (d : T) (row row' : List T) (behind behind' : Paged T) → IsJoined len d row behind → row' ≡ replicate (length row) d → behind'.items ≡ replicate (length behind.items) d → behind'.pages ≡ behind.pages → IsJoined len d row' behind'
joined_fill len d row row' behind behind' j row_is items pages =
    joined_written len d row row' behind' (joined_others len d row behind behind' j pages (ap length items ∙ length-replicate (length behind.items) d) (λ i _. ap (λ xs. get_or xs i d) items ∙ filled (length behind.items) d (length behind.items) i)) (ap length row_is ∙ length-replicate (length row) d)

-- ---- the page behind the row that comes next
module _ {T : Type 0} (len : ℕ) (d : T) (row row' page : List T) (behind : Paged T) (j : IsJoined len d row behind) (is : row' ≡ row ++ page) (there : set.contains behind.pages (length row / len) ≡ true) (n : length page ≡ len) (same : (i : ℕ) → i < len → get_or page i d ≡ get_or behind.items (length row / len * len + i) d) where
  length_taken : length row' ≡ length row + len
  length_taken = ap length is ∙ length-append row page ∙ ap (λ m. length row + m) n

  taken_pages : length row' ≡ suc (length row / len) * len + 0
  taken_pages = let n = length_taken in let w = whole_row len d row behind j in let m = suc-mul (length row / len) len in omega (arith, n, w, m)

  pub joined_taken : IsJoined len d row' behind
  joined_taken = record {
    some = j.some;
    whole = ap (λ m. m % len) taken_pages ∙ mod-mul-add (suc (length row / len)) len 0 j.some;
    within = j.within;
    missing = j.missing;
  }

  taken_item : (i : ℕ) → length row ≤ i → i < length row' → get_or row' i d ≡ get_or behind.items i d
  taken_item i le lt =
      let l = length_taken in
      let w = whole_row len d row behind j in
      ap (λ xs. get_or xs i d) is
      ∙ get_or-append_right row page (length row) i d refl le
      ∙ same (i - length row) (omega (arith, le, lt, l))
      ∙ ap (λ k. get_or behind.items k d) (let e : length row / len * len + (i - length row) ≡ i = omega (arith, w, le) in e)

  pub taken_items : joined row' behind.items ≡ joined row behind.items
  taken_items =
      let l = length_taken in
      let w = whole_row len d row behind j in
      let b = j.within (length row / len) there in
      let e = ap (λ k. k * len) (let e : length row / len + 1 ≡ suc (length row / len) = omega arith in e) in
      let m = suc-mul (length row / len) len in
      let size = length-joined row behind.items in
      joined_is d row' behind.items (joined row behind.items) (omega (arith, l, w, b, e, m, size))
      (λ i lt.
      elim (cases_lt i (length row)) [
        | inl old ↦ in_row row behind.items i d old ∙ sym (ap (λ xs. get_or xs i d) is ∙ get_or_append_left row page d i old)
        | inr new ↦ past_row row behind.items i d new ∙ sym (taken_item i new lt)
      ])
      (λ i ge. past_row row behind.items i d (omega (arith, l, ge)))

  pub taken_set : with_first behind.pages (length row' / len) ≡ with_first behind.pages (length row / len)
  taken_set =
      ap (with_first behind.pages) (ap (λ m. m / len) taken_pages ∙ div-mul-add (suc (length row / len)) len 0 j.some)
      ∙ sym (insert_there _ _ (first_other behind.pages (length row / len) (length row / len) (omega arith) ∙ there))

-- a page that has items is there as a whole
pub page_is_there : (b : Bool) (n len : ℕ) → n ≡ (if b then len else 0) → 0 < n → (b ≡ true) × (n ≡ len)
page_is_there true n len is some = (refl, is)
page_is_there false n len is some = absurd (let e : n ≡ 0 = is in omega (arith, e))

-- whether it was taken or not, the whole is the same
pub taken_or_not : {T : Type 0} (len : ℕ) (d : T) (row row' page : List T) (behind : Paged T) → IsJoined len d row behind → (ok : Bool) → row' ≡ (if ok then row ++ page else row) → set.contains behind.pages (length row / len) ≡ true → length page ≡ len → ((i : ℕ) → i < len → get_or page i d ≡ get_or behind.items (length row / len * len + i) d) → (IsJoined len d row' behind) × (joined row' behind.items ≡ joined row behind.items) × (with_first behind.pages (length row' / len) ≡ with_first behind.pages (length row / len))
taken_or_not len d row row' page behind j true is there n same =
    (joined_taken len d row row' page behind j is there n same, taken_items len d row row' page behind j is there n same, taken_set len d row row' page behind j is there n same)
taken_or_not len d row row' page behind j false is there n same =
    (joined_written len d row row' behind j (ap length is), ap (λ r. joined r behind.items) is, ap (λ r. with_first behind.pages (length r / len)) is)
