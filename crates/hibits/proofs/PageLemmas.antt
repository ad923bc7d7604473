-- How a row that is kept in pages follows its set.
use Rattle.std.proofs.Common.{◌≡◌, ◌≢◌, ℕ, ◌+◌, ◌*◌, ◌/◌, ◌%◌, ◌<◌, ◌≤◌, max, Bool, true, false, ◌||◌, ◌==◌, List, [], ◌∷◌, length, get_or, replicate, refl, sym, ap, ◌∙◌, inl, inr, arith, eq-eqb}
use Rattle.std.specs.Int.{bit_at}
use Rattle.std.specs.Bool.{if◌then◌else◌}
use Rattle.std.specs.Ordering.{nat_cmp}
use Rattle.std.specs.Cmp.{nat_cmp_total, unsigned_tied}
use Rattle.std.specs.FinSet as set
use Rattle.std.proofs.lemmas.Bool.{cases_eq, cases_lt, ne_eqb, or_right, true≢false}
use Rattle.std.proofs.lemmas.List.{length-replicate, get_or-replicate, get_or_past}
use Rattle.hibits.specs.declared.limits.TheConstants.{INDEX_LIMIT}
use Rattle.hibits.specs.Counts.{count_below, count_same, count_add, count_past}
use Rattle.hibits.specs.Rows.{row_bit, members_of, IsPaged, IsKept, SameWords}
use Rattle.hibits.proofs.RowLemmas.{contains-members_of, past_row, no_bit, sound_empty}

-- the page of an index is its block
pub page_is : (i : ℕ) → i / 64 / 64 ≡ i / 4096
page_is i = omega arith

module _ (w0 : List ℕ) (pages : set.FinSet nat_cmp) (w1 w2 w3 w4 : List ℕ) (ok : IsKept w0 pages w1 w2 w3 w4) where
  pub room_word : (i : ℕ) → set.contains pages (i / 4096) ≡ true → i / 64 < length w0
  room_word i e = let w = ok.paged.within (i / 4096) e in omega arith

  pub room_below : (i : ℕ) → set.contains pages (i / 4096) ≡ true → i < INDEX_LIMIT
  room_below i e =
      let w = room_word i e in
      let a = ok.rows.size0 in
      let b = ok.rows.size1 in
      let c = ok.rows.size2 in
      let d = ok.rows.size3 in
      let f = ok.rows.size4 in
      omega arith

  pub member_has_room : (i : ℕ) → set.contains (members_of w0) i ≡ true → set.contains pages (i / 4096) ≡ true
  member_has_room i e =
      elim (set.contains pages (i / 4096)) as (λ b. set.contains pages (i / 4096) ≡ b → b ≡ true) [
        | true ↦ λ _. refl
        | false ↦ λ none.
            let zero_is : get_or w0 (i / 64) 0 ≡ 0 = ok.paged.missing (i / 64) (ap (set.contains pages) (page_is i) ∙ none) in
            absurd (true≢false (sym e ∙ contains-members_of w0 i ∙ zero_bit w0 i zero_is))
      ] refl
    where
      zero_bit : (ws : List ℕ) (i : ℕ) → get_or ws (i / 64) 0 ≡ 0 → row_bit ws i ≡ false
      zero_bit ws i z = ap (λ w. (bit_at w (i % 64) == 1)) z ∙ no_bit [] (λ k. refl) i

-- a word of a page that is there
pub page_there : (s : set.FinSet nat_cmp) (i : ℕ) → set.contains s (i / 4096) ≡ true → set.contains s (i / 64 / 64) ≡ true
page_there s i e = ap (set.contains s) (page_is i) ∙ e

-- ---- pages that are made, and words that are put
in_insert : (s : set.FinSet nat_cmp) (p k : ℕ) → set.contains (set.insert s p) k ≡ (k == p || set.contains s k)
in_insert s p k = set.contains-insert nat_cmp_total s p k ∙ ap (λ b. b || set.contains s k) (unsigned_tied k p)

module _ (s s' : set.FinSet nat_cmp) (p : ℕ) (is : s' ≡ set.insert s p) where
  in_it : (k : ℕ) → set.contains s' k ≡ (k == p || set.contains s k)
  in_it k = ap (λ t. set.contains t k) is ∙ in_insert s p k

  pub in_grown : set.contains s' p ≡ true
  in_grown = in_it p ∙ ap (λ b. b || set.contains s p) (eq-eqb p p refl)

  pub kept_in_grown : (k : ℕ) → set.contains s k ≡ true → set.contains s' k ≡ true
  kept_in_grown k e = in_it k ∙ or_right (k == p) _ e

  pub not_grown : (k : ℕ) → k ≢ p → set.contains s' k ≡ true → set.contains s k ≡ true
  not_grown k ne e = sym (in_it k ∙ ap (λ b. b || set.contains s k) (ne_eqb k p ne)) ∙ e

-- a page that is there is made by nothing
pub grown_already : (s : set.FinSet nat_cmp) (p : ℕ) → set.contains s p ≡ true → s ≡ set.insert s p
grown_already s p has =
    set.same_set nat_cmp_total set.nat_cmp-IsAntisymmetric _ _ (λ k.
    elim (cases_eq k p) [
      | inl at ↦ ap (set.contains s) at ∙ has ∙ sym (ap (set.contains (set.insert s p)) at ∙ in_grown s _ p refl)
      | inr other ↦ sym (in_insert s p k ∙ ap (λ b. b || set.contains s k) (ne_eqb k p other))
    ])

module _ (ws vs : List ℕ) (pages : set.FinSet nat_cmp) (ok : IsPaged ws pages) where
  pub paged_grown : (p : ℕ) (pages' : set.FinSet nat_cmp) → pages' ≡ set.insert pages p → SameWords ws vs → length vs ≡ max (length ws) ((p + 1) * 64) → IsPaged vs pages'
  paged_grown p pages' is same len = record {
    within = λ k has.
        elim (cases_eq k p) [
          | inl at ↦ omega (arith, len, at)
          | inr other ↦
              let w = ok.within k (not_grown pages pages' p is k other has) in
              omega (arith, len)
        ];
    missing = λ k none.
        same.at k
        ∙ elim (set.contains pages (k / 64)) as (λ b. set.contains pages (k / 64) ≡ b → get_or ws k 0 ≡ 0) [
          | true ↦ λ e. absurd (true≢false (sym (kept_in_grown pages pages' p is (k / 64) e) ∙ none))
          | false ↦ λ e. ok.missing k e
        ] refl;
  }

  -- a word of a page that is there
  pub paged_put : (at : ℕ) → set.contains pages (at / 64) ≡ true → length vs ≡ length ws → ((k : ℕ) → k ≢ at → get_or vs k 0 ≡ get_or ws k 0) → IsPaged vs pages
  paged_put at has len others = record {
    within = λ k e. let w = ok.within k e in omega arith;
    missing = λ k none. others k (λ e. true≢false (sym (ap (λ n. set.contains pages (n / 64)) e ∙ has) ∙ none)) ∙ ok.missing k none;
  }

  -- zeros alone
  pub paged_zeros : length vs ≡ length ws → ((k : ℕ) → get_or vs k 0 ≡ 0) → IsPaged vs pages
  paged_zeros len zeros = record { within = λ k e. let w = ok.within k e in omega arith; missing = λ k _. zeros k }

pub kept_empty : IsKept [] set.empty [] [] [] (0 ∷ [])
kept_empty = record {
  rows = sound_empty;
  paged = record {
    within = λ k e. absurd (true≢false (sym e ∙ set.contains-empty nat_cmp k));
    missing = λ k _. refl;
  };
}

-- a row of zeros
module _ (ws : List ℕ) (n : ℕ) (is : ws ≡ replicate n 0) where
  pub zeros_len : length ws ≡ n
  zeros_len = ap length is ∙ length-replicate n 0

  pub zeros : (k : ℕ) → get_or ws k 0 ≡ 0
  zeros k =
      elim (cases_lt k n) [
        | inl lt ↦ ap (λ xs. get_or xs k 0) is ∙ get_or-replicate n k 0 0 lt
        | inr ge ↦ get_or_past ws k 0 (let l = zeros_len in omega (arith, l))
      ]

-- ---- a page as a row of its own
bits_of_page : (n : ℕ) → n ≤ 64 → 64 * n ≤ 4096
bits_of_page n le = omega arith

more_pages : (k : ℕ) → 4096 * (k + 1) ≡ 4096 * k + 4096
more_pages k = omega arith

module _ (ws page : List ℕ) (k : ℕ) (same : (j : ℕ) → j < 64 → get_or page j 0 ≡ get_or ws (k * 64 + j) 0) where
  pub page_bit : (i : ℕ) → i < 4096 → row_bit page i ≡ row_bit ws (4096 * k + i)
  page_bit i lt =
      let a : (4096 * k + i) / 64 ≡ k * 64 + i / 64 = omega arith in
      let b : (4096 * k + i) % 64 ≡ i % 64 = omega arith in
      ap (λ w. (bit_at w (i % 64) == 1)) (same (i / 64) (omega arith) ∙ ap (λ n. get_or ws n 0) (sym a)) ∙ ap (λ n. bit_at (get_or ws ((4096 * k + i) / 64) 0) n == 1) (sym b)

  pub page_ones : length page ≤ 64 → count_below (row_bit ws) (4096 * (k + 1)) ≡ count_below (row_bit ws) (4096 * k) + count_below (row_bit page) (64 * length page)
  page_ones le =
      let e : 4096 * (k + 1) ≡ 4096 * k + 4096 = more_pages k in
      let own = count_same (λ j. row_bit ws (4096 * k + j)) (row_bit page) 4096 (λ j lt. sym (page_bit j lt)) in
      let past = count_past (row_bit page) (64 * length page) 4096 (bits_of_page (length page) le) (λ i ge _ is. true≢false (sym is ∙ past_row page i ge)) in
      ap (count_below (row_bit ws)) e ∙ count_add (row_bit ws) (4096 * k) 4096 ∙ ap (λ n. count_below (row_bit ws) (4096 * k) + n) (own ∙ past)

pub page_len : (there : Bool) (n : ℕ) → n ≡ (if there then 64 else 0) → n ≤ 64
page_len true n e = omega (arith, e)
page_len false n e = omega (arith, e)
