-- How a walk goes on, over plain numbers and lists.
use Rattle.std.proofs.Common.{◌≡◌, ◌≢◌, ℕ, zero, suc, ◌+◌, ◌-◌, ◌*◌, ◌/◌, ◌%◌, ◌^◌, ◌<◌, ◌≤◌, min, Bool, true, false, cond, List, length, get_or, set, bit_and, w64, refl, sym, ap, ◌∙◌, inl, inr, arith, length-set, get_or-set_same, get_or-set_other, add-one, ◌⊎◌, ⊎_elim}
use Rattle.std.specs.Int.{bit_at, trailing_zeros}
use Rattle.std.proofs.lemmas.Bool.{cases_eq, cases_lt}
use Rattle.std.proofs.lemmas.Nat.Bits.{bit_at-zero, bit_at-trailing_zeros, bit_at_and, bit_at_cat_low, bit_at_cat_high, bit_at_ones_above}
use Rattle.std.proofs.lemmas.Nat.{and_le_l, mod-pow-add, pow_pos, pow_below, div-add-mod'}
use Rattle.std.proofs.Math.Nat.{pow-succ', mul-le-mul_left}
use Rattle.hibits.specs.declared.limits.TheConstants.{LAYERS}
use Rattle.hibits.specs.Counts.{count_below, count_more, count_past}
use Rattle.hibits.specs.Walks.{IsLevel, IsWalk, walked, left_in}

-- the word without its lowest bit, as the code clears it
abbrev pub rest_of : ℕ → ℕ
rest_of w = bit_and w (w - 1)

low_bits : (w k : ℕ) → ((i : ℕ) → i < k → bit_at w i ≡ 0) → w % 2 ^ k ≡ 0
low_bits w zero lower = let h : w % 1 ≡ 0 = omega arith in h
low_bits w (suc k) lower =
    let rest = low_bits w k (λ i lt. lower i (omega arith)) in
    let split : w % 2 ^ (1 + k) ≡ (w / 2 ^ k % 2 ^ 1) * 2 ^ k + w % 2 ^ k = mod-pow-add w 1 k in
    let bit : w / 2 ^ k % 2 ^ 1 ≡ 0 = lower k (omega arith) in
    let e : suc k ≡ 1 + k = omega arith in
    let none : (w / 2 ^ k % 2 ^ 1) * 2 ^ k ≡ 0 * 2 ^ k = ap (λ b. b * 2 ^ k) bit in
    rw e (omega (arith, split, none, rest))

-- where the lowest bit of w is at k
module _ (w k : ℕ) (at : bit_at w k ≡ 1) (lower : (i : ℕ) → i < k → bit_at w i ≡ 0) where
  whole : w ≡ w / 2 ^ (k + 1) * 2 ^ (k + 1) + 2 ^ k
  whole =
      let low = low_bits w k lower in
      let split : w % 2 ^ (1 + k) ≡ (w / 2 ^ k % 2 ^ 1) * 2 ^ k + w % 2 ^ k = mod-pow-add w 1 k in
      let bit : (w / 2 ^ k % 2 ^ 1) * 2 ^ k ≡ 1 * 2 ^ k = ap (λ b. b * 2 ^ k) at in
      let e : 1 + k ≡ k + 1 = omega arith in
      let part' : w % 2 ^ (1 + k) ≡ 2 ^ k = omega (arith, split, bit, low) in
      let part = rw e at part' in
      let all = div-add-mod' w (2 ^ (k + 1)) in
      omega (arith, all, part)

  -- w - 1 has the higher bits of w, and ones below k
  one_less : w - 1 ≡ w / 2 ^ (k + 1) * 2 ^ (k + 1) + (2 ^ k - 1)
  one_less = let h = whole in let pos = pow_pos k in omega arith

  pub rest_same : bit_at (rest_of w) k ≡ 0
  rest_same =
      let lt : k < k + 1 = omega arith in
      let cut = bit_at_cat_low (w / 2 ^ (k + 1)) (k + 1) (2 ^ k - 1) k lt in
      let ones = bit_at_ones_above k k (omega arith) in
      let less : bit_at (w - 1) k ≡ 0 = ap (λ n. bit_at n k) one_less ∙ cut ∙ ones in
      bit_at_and w (w - 1) k ∙ omega (arith, less)

  above : (b i : ℕ) → b < 2 ^ (k + 1) → k < i → bit_at (w / 2 ^ (k + 1) * 2 ^ (k + 1) + b) i ≡ bit_at (w / 2 ^ (k + 1)) (i - (k + 1))
  above b i small lt = bit_at_cat_high (w / 2 ^ (k + 1)) (k + 1) b i small (omega arith)

  pub rest_other : (i : ℕ) → i ≢ k → bit_at (rest_of w) i ≡ bit_at w i
  rest_other i ne =
      let grows = pow_below k (k + 1) (omega arith) in
      bit_at_and w (w - 1) i
      ∙ elim (cases_lt i k) [
        | inl lt ↦ let z = lower i lt in omega (arith, z)
        | inr ge ↦
            let gt : k < i = omega (arith, ne) in
            let x : bit_at (w - 1) i ≡ bit_at (w / 2 ^ (k + 1)) (i - (k + 1)) = ap (λ n. bit_at n i) one_less ∙ above (2 ^ k - 1) i (omega arith) gt in
            let y : bit_at w i ≡ bit_at (w / 2 ^ (k + 1)) (i - (k + 1)) = ap (λ n. bit_at n i) whole ∙ above (2 ^ k) i (omega arith) gt in
            omega (arith, x, y)
      ]

-- ---- one layer
module _ (p : ℕ → Bool) (w f u : ℕ) (ok : IsLevel p w f u) where
  -- nothing is left where the word is 0
  pub nothing_left : w ≡ 0 → (k : ℕ) → f ≤ k → k < 64 * u → p k ≡ true → ⊥
  nothing_left none k ge lt is =
      let b = (ok.left k ge lt is).1 in
      let z : bit_at w (k % 64) ≡ 0 = rw none (bit_at-zero (k % 64)) in
      omega arith

  module _ (some : 0 < w) where
    pub lowest_below : trailing_zeros w64 w < 64
    lowest_below = (bit_at-trailing_zeros w64 w some ok.fits).0

    pub lowest_right : (0 < u) × (f ≤ 64 * (u - 1) + trailing_zeros w64 w) × (p (64 * (u - 1) + trailing_zeros w64 w) ≡ true)
    lowest_right = let b = bit_at-trailing_zeros w64 w some ok.fits in ok.right _ b.0 b.1

    pub none_before : (k : ℕ) → f ≤ k → k < 64 * (u - 1) + trailing_zeros w64 w → p k ≡ true → ⊥
    none_before k ge lt is =
        let b = bit_at-trailing_zeros w64 w some ok.fits in
        let small = b.0 in
        let right = lowest_right in
        let l = ok.left k ge (omega arith) is in
        let z = b.2 (k % 64) (omega arith) in
        omega arith

    pub taken : IsLevel p (rest_of w) (64 * (u - 1) + trailing_zeros w64 w + 1) u
    taken =
        let b = bit_at-trailing_zeros w64 w some ok.fits in
        let small = b.0 in
        let right = lowest_right in
        record {
          fits = let le = and_le_l w (w - 1) in let fit = ok.fits in omega arith;
          below = omega arith;
          left = λ i ge lt is.
              let l = ok.left i (omega arith) lt is in
              (l.0, rest_other w (trailing_zeros w64 w) b.1 b.2 (i % 64) (λ e. omega (arith, e)) ∙ l.1);
          right = λ j lt is.
              elim (cases_eq j (trailing_zeros w64 w)) [
                | inl same ↦ let z = rest_same w (trailing_zeros w64 w) b.1 b.2 in absurd (omega (arith, rw same at is, z))
                | inr other ↦
                    let keeps = sym (rest_other w (trailing_zeros w64 w) b.1 b.2 j other) ∙ is in
                    let r = ok.right j lt keeps in
                    elim (cases_lt j (trailing_zeros w64 w)) [
                      | inl lower ↦ let z = b.2 j lower in absurd (omega arith)
                      | inr higher ↦ (r.0, omega arith, r.2)
                    ]
              ];
        }

    pub one_more : count_below p (64 * (u - 1) + trailing_zeros w64 w + 1) ≡ suc (count_below p f)
    one_more =
        let right = lowest_right in
        let i = 64 * (u - 1) + trailing_zeros w64 w in
        let s : count_below p i ≡ count_below p f = count_past p f i right.1 none_before in
        let one : cond {A = ℕ} (p i) 1 0 ≡ 1 = ap (λ b. cond b 1 0) right.2 in
        count_more p i ∙ omega (arith, s, one)

-- a bit of a word that is 1 is set in its layer
pub one_is_set : (x : ℕ) (b : Bool) → x ≡ cond b 1 0 → x ≡ 1 → b ≡ true
one_is_set x true is one = refl
one_is_set x false is one = absurd (omega (arith, is, one))

-- the layer below gets the word of the index i that was taken
pub loaded : (p q : ℕ → Bool) (f u i w : ℕ) → IsLevel q 0 f u → u ≤ i → ((k : ℕ) → u ≤ k → k < i → p k ≡ true → ⊥) → ((k : ℕ) → q k ≡ true → p (k / 64) ≡ true) → w < 2 ^ 64 → ((j : ℕ) → j < 64 → bit_at w j ≡ cond (q (64 * i + j)) 1 0) → IsLevel q w f (i + 1)
loaded p q f u i w ok le none covers fit bits = record {
  fits = fit;
  below = let b = ok.below in omega arith;
  left = λ k ge lt is.
      elim (cases_lt k (64 * u)) [
        | inl old ↦ absurd (nothing_left q 0 f u ok refl k ge old is)
        | inr new ↦
            elim (cases_lt (k / 64) i) [
              | inl before ↦ absurd (none (k / 64) (omega arith) before (covers k is))
              | inr at ↦
                  let same : 64 * i + k % 64 ≡ k = omega arith in
                  (omega arith, bits (k % 64) (omega arith) ∙ ap (λ x. cond (q x) 1 0) same ∙ ap (λ b. cond b 1 0) is)
            ]
      ];
  right = λ j lt is.
      let b = ok.below in
      let eq : i + 1 - 1 ≡ i = omega arith in
      rw eq (
        omega arith,
        omega arith,
        one_is_set (bit_at w j) (q (64 * i + j)) (bits j lt) is,
      );
}

-- ---- the whole walk
walked_other : (has : ℕ → ℕ → Bool) (from : List ℕ) (l x n : ℕ) → (l ≡ 0) ⊎ (n < l) → walked has (set from l x) n ≡ walked has from n
walked_other has from l x zero out = refl
walked_other has from l x (suc n) out =
    let ne : suc n ≢ l = ⊎_elim (λ z e. omega (arith, z, e)) (λ z e. omega (arith, z, e)) out in
    let here : get_or (set from l x) (suc n) 0 ≡ get_or from (suc n) 0 = get_or-set_other from l (suc n) x 0 ne in
    let rest = walked_other has from l x n (⊎_elim (λ z. inl z) (λ z. inr (omega (arith, z))) out) in
    let first : count_below (has (suc n)) (get_or (set from l x) (suc n) 0) ≡ count_below (has (suc n)) (get_or from (suc n) 0) = ap (count_below (has (suc n))) here in
    omega (arith, first, rest)

walked_more : (has : ℕ → ℕ → Bool) (from : List ℕ) (l x n : ℕ) → 0 < l → l ≤ n → l < length from → count_below (has l) x ≡ suc (count_below (has l) (get_or from l 0)) → walked has (set from l x) n ≡ suc (walked has from n)
walked_more has from l x zero pos le within more = absurd (omega arith)
walked_more has from l x (suc n) pos le within more =
    elim (cases_eq (suc n) l) [
      | inl same ↦
          let here : get_or (set from l x) (suc n) 0 ≡ x = ap (λ k. get_or (set from l x) k 0) same ∙ get_or-set_same from l x 0 within in
          let m : count_below (has (suc n)) x ≡ suc (count_below (has (suc n)) (get_or from (suc n) 0)) = ap (λ k. count_below (has k) x) same ∙ more ∙ ap (λ k. suc (count_below (has k) (get_or from k 0))) (sym same) in
          let rest = walked_other has from l x n (inr (omega arith)) in
          let first : count_below (has (suc n)) (get_or (set from l x) (suc n) 0) ≡ count_below (has (suc n)) x = ap (count_below (has (suc n))) here in
          omega (arith, first, rest, m)
      | inr other ↦
          let here : get_or (set from l x) (suc n) 0 ≡ get_or from (suc n) 0 = get_or-set_other from l (suc n) x 0 other in
          let le' : l ≤ n = omega (arith, other) in
          let rest = walked_more has from l x n pos le' within more in
          let first : count_below (has (suc n)) (get_or (set from l x) (suc n) 0) ≡ count_below (has (suc n)) (get_or from (suc n) 0) = ap (count_below (has (suc n))) here in
          omega (arith, first, rest)
    ]

counted : (cost n count count' : ℕ) → count ≡ min (cost * (n + 1)) (2 ^ 64 - 1) → count' ≡ min (count + cost) (2 ^ 64 - 1) → count' ≡ min (cost * (suc n + 1)) (2 ^ 64 - 1)
counted cost n count count' is grows =
    let more : cost * (suc n + 1) ≡ cost * (n + 1) + cost = omega arith in
    omega arith

module _ (has : ℕ → ℕ → Bool) (cost : ℕ) (words from : List ℕ) (count : ℕ) (ok : IsWalk has cost words from count) where
  -- the walk stays within each layer
  pub from_fits : (d l : ℕ) → l + d ≡ LAYERS → get_or from l 0 ≤ 64 ^ d
  from_fits zero l e = let top : l ≡ LAYERS = omega arith in rw top (let t = ok.top in omega arith)
  from_fits (suc d) l e =
      let rest = from_fits d (suc l) (omega arith) in
      let b = (ok.level l (omega arith)).below in
      let pow : 64 ^ suc d ≡ 64 * 64 ^ d = pow-succ' 64 d in
      omega arith

  -- where no word has anything left, no index is left
  pub none_left : ((l : ℕ) → l < LAYERS → get_or words l 0 ≡ 0) → ((l i : ℕ) → has l i ≡ true → has (l + 1) (i / 64) ≡ true) → (d l : ℕ) → l + d ≡ LAYERS → (i : ℕ) → get_or from l 0 ≤ i → i < 64 ^ d → has l i ≡ true → ⊥
  none_left empty covers zero l e i ge lt is =
      let top : l ≡ LAYERS = omega arith in
      let t : get_or from l 0 ≡ 1 = rw top ok.top in
      let lt1 : i < 1 = lt in
      omega arith
  none_left empty covers (suc d) l e i ge lt is =
      let within : l < LAYERS = omega arith in
      let pow : 64 ^ suc d ≡ 64 * 64 ^ d = pow-succ' 64 d in
      elim (cases_lt i (64 * get_or from (suc l) 0)) [
        | inl here ↦ nothing_left (has l) _ _ _ (ok.level l within) (empty l within) i ge here is
        | inr past ↦
            let up : has (suc l) (i / 64) ≡ true = rw (← (add-one l)) (covers l i is) in
            none_left empty covers d (suc l) (omega arith) (i / 64) (omega arith) (omega arith) up
      ]

  abbrev place_of : ℕ → ℕ
  place_of l = 64 * (get_or from (suc l) 0 - 1) + trailing_zeros w64 (get_or words l 0)

  pub pop_lowest : 0 < get_or words 0 0 → IsWalk has cost (set words 0 (rest_of (get_or words 0 0))) (set from 0 (place_of 0 + 1)) count
  pop_lowest some = record {
    words_len = length-set words _ _ ∙ ok.words_len;
    from_len = length-set from _ _ ∙ ok.from_len;
    top = get_or-set_other from 0 LAYERS _ 0 (λ e. omega (arith, e)) ∙ ok.top;
    level = λ l lt.
        let wl = ok.words_len in
        let fl = ok.from_len in
        let up : get_or (set from 0 (place_of 0 + 1)) (suc l) 0 ≡ get_or from (suc l) 0 = get_or-set_other from 0 (suc l) _ 0 (λ e. omega (arith, e)) in
        elim (cases_eq l 0) [
          | inl same ↦
              rw (up, same, get_or-set_same words 0 (rest_of (get_or words 0 0)) 0 (omega arith), get_or-set_same from 0 (place_of 0 + 1) 0 (omega arith))
              (taken (has 0) (get_or words 0 0) (get_or from 0 0) (get_or from 1 0) (ok.level 0 (omega arith)) some)
          | inr other ↦
              rw (up, get_or-set_other words 0 l (rest_of (get_or words 0 0)) 0 other, get_or-set_other from 0 l (place_of 0 + 1) 0 other)
              (ok.level l lt)
        ];
    reads = let w = walked_other has from 0 (place_of 0 + 1) (LAYERS - 1) (inl refl) in rw w ok.reads;
  }

  module _ (m : ℕ) (within : m + 1 < LAYERS) (some : 0 < get_or words (suc m) 0) (empty : get_or words m 0 ≡ 0) (covers : (l i : ℕ) → has l i ≡ true → has (l + 1) (i / 64) ≡ true) where
    pub descend : (w count' : ℕ) → w < 2 ^ 64 → ((j : ℕ) → j < 64 → bit_at w j ≡ cond (has m (64 * place_of (suc m) + j)) 1 0) → count' ≡ min (count + cost) (2 ^ 64 - 1) → IsWalk has cost (set (set words (suc m) (rest_of (get_or words (suc m) 0))) m w) (set from (suc m) (place_of (suc m) + 1)) count'
    descend w count' fit bits grows =
        let wl = ok.words_len in
        let fl = ok.from_len in
        let here = ok.level (suc m) (omega arith) in
        let right = lowest_right (has (suc m)) _ _ _ here some in
        let none = none_before (has (suc m)) _ _ _ here some in
        let one = one_more (has (suc m)) _ _ _ here some in
        let inner = set words (suc m) (rest_of (get_or words (suc m) 0)) in
        let inner_len : length inner ≡ LAYERS = length-set words _ _ ∙ wl in
        record {
          words_len = length-set inner _ _ ∙ inner_len;
          from_len = length-set from _ _ ∙ fl;
          top = get_or-set_other from (suc m) LAYERS _ 0 (λ e. omega (arith, e)) ∙ ok.top;
          level = λ l lt.
              elim (cases_eq l m) [
                | inl same ↦
                    rw (same, get_or-set_same inner m w 0 (omega arith), get_or-set_other from (suc m) m (place_of (suc m) + 1) 0 (λ e. omega (arith, e)), get_or-set_same from (suc m) (place_of (suc m) + 1) 0 (omega arith))
                    (loaded (has (suc m)) (has m) (get_or from m 0) (get_or from (suc m) 0) (place_of (suc m)) w
                    (rw empty at (ok.level m (omega arith)))
                    right.1 none (λ k is. rw (← (add-one m)) (covers m k is)) fit bits)
                | inr not_m ↦
                    elim (cases_eq l (suc m)) [
                      | inl same ↦
                          rw (same, get_or-set_other inner m (suc m) w 0 (λ e. omega (arith, e)), get_or-set_same words (suc m) (rest_of (get_or words (suc m) 0)) 0 (omega arith), get_or-set_same from (suc m) (place_of (suc m) + 1) 0 (omega arith), get_or-set_other from (suc m) (suc (suc m)) (place_of (suc m) + 1) 0 (λ e. omega (arith, e)))
                          (taken (has (suc m)) _ _ _ here some)
                      | inr other ↦
                          rw (get_or-set_other inner m l w 0 not_m, get_or-set_other words (suc m) l (rest_of (get_or words (suc m) 0)) 0 other, get_or-set_other from (suc m) l (place_of (suc m) + 1) 0 other, get_or-set_other from (suc m) (suc l) (place_of (suc m) + 1) 0 (λ e. not_m (omega (arith, e))))
                          (ok.level l lt)
                    ]
              ];
          reads =
              let more = walked_more has from (suc m) (place_of (suc m) + 1) (LAYERS - 1) (omega arith) (omega arith) (omega arith) one in
              let r = ok.reads in
              rw more (counted cost (walked has from (LAYERS - 1)) count count' r grows);
        }

-- ---- that a walk ends
left_in-other : (from : List ℕ) (l x n : ℕ) → n ≤ l → left_in (set from l x) n ≡ left_in from n
left_in-other from l x zero le = refl
left_in-other from l x (suc n) le =
    let here : get_or (set from l x) n 0 ≡ get_or from n 0 = get_or-set_other from l n x 0 (λ e. omega (arith, e)) in
    let rest = left_in-other from l x n (omega arith) in
    omega (arith, here, rest)

pub left_in-set : (from : List ℕ) (l x n : ℕ) → l < n → n ≤ LAYERS → l < length from → get_or from l 0 < x → x ≤ 64 ^ (LAYERS - l) → left_in (set from l x) n < left_in from n
left_in-set from l x zero lt le within more fits = absurd (omega arith)
left_in-set from l x (suc n) lt le within more fits =
    elim (cases_eq n l) [
      | inl same ↦
          let here : get_or (set from l x) n 0 ≡ x = ap (λ k. get_or (set from l x) k 0) same ∙ get_or-set_same from l x 0 within in
          let old : get_or from n 0 ≡ get_or from l 0 = ap (λ k. get_or from k 0) same in
          let size : 64 ^ (LAYERS - n) ≡ 64 ^ (LAYERS - l) = ap (λ k. 64 ^ (LAYERS - k)) same in
          let rest = left_in-other from l x n (omega arith) in
          omega (arith, here, rest, old, size)
      | inr other ↦
          let here : get_or (set from l x) n 0 ≡ get_or from n 0 = get_or-set_other from l n x 0 other in
          let lt' : l < n = omega (arith, other) in
          let rest = left_in-set from l x n lt' (omega arith) within more fits in
          omega (arith, here, rest)
    ]

-- ---- how many words a walk reads
pub walked_most : (has : ℕ → ℕ → Bool) (from : List ℕ) (most : ℕ) → ((l n : ℕ) → l < LAYERS → n ≤ 64 ^ (LAYERS - l) → count_below (has l) n ≤ most) → ((l : ℕ) → l < LAYERS → get_or from l 0 ≤ 64 ^ (LAYERS - l)) → (n : ℕ) → n < LAYERS → walked has from n ≤ n * most
walked_most has from most few fits zero lt = omega arith
walked_most has from most few fits (suc n) lt =
    let rest = walked_most has from most few fits n (omega arith) in
    let here = few (suc n) (get_or from (suc n) 0) lt (fits (suc n) lt) in
    omega arith

pub reads_most : (has : ℕ → ℕ → Bool) (cost : ℕ) (words from : List ℕ) (count most : ℕ) → IsWalk has cost words from count → ((l n : ℕ) → l < LAYERS → n ≤ 64 ^ (LAYERS - l) → count_below (has l) n ≤ most) → count ≤ cost * ((LAYERS - 1) * most + 1)
reads_most has cost words from count most ok few =
    let w = walked_most has from most few (λ l lt. from_fits has cost words from count ok (LAYERS - l) l (omega arith)) (LAYERS - 1) (omega arith) in
    let r = ok.reads in
    let m : cost * (walked has from (LAYERS - 1) + 1) ≤ cost * ((LAYERS - 1) * most + 1) = mul-le-mul_left cost (omega arith) in
    omega arith
