-- The list of the words of a layer.
use Rattle.std.proofs.Common.{◌≡◌, ℕ, zero, suc, ◌+◌, ◌-◌, ◌*◌, ◌/◌, ◌%◌, ◌^◌, ◌<◌, ◌≤◌, Bool, true, false, cond, not, ◌==◌, [], ◌∷◌, map, refl, sym, ap, ◌∙◌, arith, add-one, w64, inl, inr, ◌++◌, length, length-append}
use Rattle.std.specs.Int.{bit_at}
use Rattle.std.proofs.lemmas.Bool.{cases_eq, ne_eqb, true≢false}
use Rattle.std.proofs.lemmas.Nat.{mod-pow-add}
use Rattle.std.specs.Prelude.{Option, Some, None, IfSome, IfNone, MatchOption}
use Rattle.hibits.specs.declared.limits.TheConstants.{LAYERS, INDEX_LIMIT}
use Rattle.std.specs.Int.{trailing_zeros}
use Rattle.std.proofs.lemmas.Nat.Bits.{bit_at-zero, bit_at-trailing_zeros}
use Rattle.std.specs.Int.RustNames.{count_ones}
use Rattle.hibits.specs.Counts.{count_below, count_same}
use Rattle.hibits.proofs.CountLemmas.{ones_below}
use Rattle.hibits.specs.Left.{passing, passing-next, passing-none}
use Rattle.hibits.proofs.WalkLemmas.{rest_of, rest_same, rest_other}
use Rattle.hibits.specs.Words.{IsWord, IsNextWord, bits_of, word_at, words_from, indices_of, no_word, words_none, passing-same, passing-split}

-- a number by its lowest bits
low_bits : (p : ℕ → Bool) (w n : ℕ) → ((j : ℕ) → j < n → bit_at w j ≡ cond (p j) 1 0) → w % 2 ^ n ≡ bits_of p n
low_bits p w zero bits = let h : w % 1 ≡ 0 = omega arith in h
low_bits p w (suc n) bits =
    let rest = low_bits p w n (λ j lt. bits j (omega arith)) in
    let split : w % 2 ^ (1 + n) ≡ bit_at w n * 2 ^ n + w % 2 ^ n = mod-pow-add w 1 n in
    let e : suc n ≡ 1 + n = omega arith in
    let bit : bit_at w n * 2 ^ n ≡ cond (p n) 1 0 * 2 ^ n = ap (λ b. b * 2 ^ n) (bits n (omega arith)) in
    ap (λ k. w % 2 ^ k) e ∙ split ∙ ap (λ b. b + w % 2 ^ n) bit ∙ ap (λ b. cond (p n) 1 0 * 2 ^ n + b) rest

pub word_is : (p : ℕ → Bool) (place word : ℕ) → IsWord p place word → word ≡ word_at p place
word_is p place word is =
    let whole : word ≡ word % 2 ^ 64 = let f = is.fits in omega arith in
    whole ∙ low_bits (λ j. p (64 * place + j)) word 64 is.bits

-- the first of the words from a place on
pub words_next : (p : ℕ → Bool) (from place word : ℕ) → place < 64 ^ (LAYERS - 1) → IsNextWord p from place word → words_from p from ≡ (place, word) ∷ words_from p (place + 1)
unfolding words_from
words_next p from place word lt next =
    let is = word_is p place word next.is_word in
    let o = next.from_on in
    let here : not (word_at p place == 0) ≡ true = ap (λ w. not (w == 0)) (sym is) ∙ ap not (ne_eqb word 0 (λ e. let s = next.some in omega (arith, e))) in
    let none : (k : ℕ) → from ≤ k → k < place → not (word_at p k == 0) ≡ true → ⊥ = λ k ge small e. no_word p k (λ i at past has. next.none i (omega arith) (omega arith) has) e in
    let list = passing-next (λ k. not (word_at p k == 0)) (64 ^ (LAYERS - 1) - from) from place (64 ^ (LAYERS - 1) - (place + 1)) o (omega arith) here none in
    ap (map (λ k. (k, word_at p k))) (list ∙ ap (λ k. place ∷ passing (λ j. not (word_at p j == 0)) k (64 ^ (LAYERS - 1) - (place + 1))) (sym (add-one place)))
    ∙ ap (λ w. (place, w) ∷ map (λ k. (k, word_at p k)) (passing (λ k. not (word_at p k == 0)) (place + 1) (64 ^ (LAYERS - 1) - (place + 1)))) (sym is)

-- as the code goes
pub words_step : (p : ℕ → Bool) (start end : ℕ) (r : Option (ℕ × ℕ)) → start ≡ 64 * (start / 64) → IfSome r (λ x. IsNextWord p (start / 64) x.0 x.1) → IfSome r (λ x. end ≡ 64 * (x.0 + 1)) → IfSome r (λ x. x.0 < 64 ^ (LAYERS - 1)) → IfNone r ((i : ℕ) → start ≤ i → i < INDEX_LIMIT → p i ≡ true → ⊥) → MatchOption r (words_from p (start / 64) ≡ []) (λ x. words_from p (start / 64) ≡ x ∷ words_from p (end / 64))
words_step p start end None whole next after below none = words_none p (start / 64) (λ i ge lt is. none i (omega (arith, whole)) lt is)
words_step p start end (Some x) whole next after below none =
    let e : x.0 + 1 ≡ end / 64 = omega (arith, after) in
    words_next p (start / 64) x.0 x.1 below next ∙ ap (λ k. x ∷ words_from p k) e

-- ---- the indices of a word
module _ (place w : ℕ) (fits : w < 2 ^ 64) where
  abbrev stands : ℕ → ℕ → Bool
  stands v i = bit_at v (i % 64) == 1

  abbrev at : ℕ
  at = trailing_zeros w64 w

  module _ (some : 0 < w) where
    bits : (at < 64) × (bit_at w at ≡ 1) × ((i : ℕ) → i < at → bit_at w i ≡ 0)
    bits = bit_at-trailing_zeros w64 w some fits

    here : stands w (64 * place + at) ≡ true
    here =
        let b = bits in let small = b.0 in
        let same : (64 * place + at) % 64 ≡ at = omega arith in
        rw same (ap (λ n. n == 1) b.1)

    before : (i : ℕ) → 64 * place ≤ i → i < 64 * place + at → stands w i ≡ true → ⊥
    before i ge lt is =
        let b = bits in let small = b.0 in
        true≢false (sym is ∙ ap (λ n. n == 1) (b.2 (i % 64) (omega arith)))

    gone : (i : ℕ) → 64 * place ≤ i → i < 64 * place + (at + 1) → stands (rest_of w) i ≡ true → ⊥
    gone i ge lt is =
        let b = bits in let small = b.0 in
        elim (cases_eq (i % 64) at) [
          | inl same ↦ true≢false (sym is ∙ ap (λ n. n == 1) (ap (bit_at (rest_of w)) same ∙ rest_same w at b.1 b.2))
          | inr other ↦ before i ge (omega (arith, other)) (sym (ap (λ n. n == 1) (rest_other w at b.1 b.2 (i % 64) other)) ∙ is)
        ]

    kept : (i : ℕ) → 64 * place + (at + 1) ≤ i → i < 64 * place + (at + 1) + (63 - at) → stands w i ≡ stands (rest_of w) i
    kept i ge lt =
        let b = bits in let small = b.0 in
        sym (ap (λ n. n == 1) (rest_other w at b.1 b.2 (i % 64) (λ e. omega (arith, e))))

    -- the least, and what is left
    pub indices_next : indices_of (place, w) ≡ (64 * place + at) ∷ indices_of (place, rest_of w)
    unfolding indices_of
    indices_next =
        let b = bits in let small = b.0 in
        let first = passing-next (stands w) 64 (64 * place) (64 * place + at) (63 - at) (omega arith) (omega arith) here before in
        let sum : 64 ≡ (at + 1) + (63 - at) = omega arith in
        let up : suc (64 * place + at) ≡ 64 * place + (at + 1) = omega arith in
        let skip : passing (stands (rest_of w)) (64 * place) 64 ≡ passing (stands (rest_of w)) (64 * place + (at + 1)) (63 - at) =
        ap (passing (stands (rest_of w)) (64 * place)) sum
        ∙ passing-split (stands (rest_of w)) (at + 1) (63 - at) (64 * place)
        ∙ ap (λ is. is ++ passing (stands (rest_of w)) (64 * place + (at + 1)) (63 - at)) (passing-none (stands (rest_of w)) (at + 1) (64 * place) gone)
        in
        first ∙ ap (λ k. (64 * place + at) ∷ passing (stands w) k (63 - at)) up
        ∙ ap (λ is. (64 * place + at) ∷ is) (passing-same (stands w) (stands (rest_of w)) (63 - at) (64 * place + (at + 1)) kept ∙ sym skip)

pub indices_none : (place : ℕ) → indices_of (place, 0) ≡ []
unfolding indices_of
indices_none place = passing-none (λ i. bit_at 0 (i % 64) == 1) 64 (64 * place) (λ i ge lt is. true≢false (sym is ∙ ap (λ n. n == 1) (bit_at-zero (i % 64))))

one_length : (p : ℕ → Bool) (a : ℕ) → length (passing p a 1) ≡ cond (p a) 1 0
unfolding passing
one_length p a = elim (p a) as (λ b. length (cond b (a ∷ []) []) ≡ cond b 1 0) [ true ↦ refl | false ↦ refl ]

no_length : (p : ℕ → Bool) (a : ℕ) → length (passing p a 0) ≡ 0
unfolding passing
no_length p a = refl

passing-count : (p : ℕ → Bool) (n a : ℕ) → length (passing p a n) ≡ count_below (λ j. p (a + j)) n
passing-count p zero a = no_length p a
passing-count p (suc n) a =
    let rest = passing-count p n a in
    let one = one_length p (a + n) in
    let more : suc n ≡ n + 1 = omega arith in
    let sum : length (passing p a (suc n)) ≡ length (passing p a n) + length (passing p (a + n) 1) =
    ap (λ k. length (passing p a k)) more ∙ ap length (passing-split p n 1 a) ∙ length-append (passing p a n) (passing p (a + n) 1)
    in
    omega (arith, sum, rest, one)

-- as many as bits are set
pub indices_count : (place w : ℕ) → w < 2 ^ 64 → length (indices_of (place, w)) ≡ count_ones w
unfolding indices_of
indices_count place w fits =
    let same = count_same (λ j. bit_at w ((64 * place + j) % 64) == 1) (λ j. bit_at w j == 1) 64 (λ j lt.
    let e : (64 * place + j) % 64 ≡ j = omega arith in ap (λ n. bit_at w n == 1) e)
    in
    let whole : w % 2 ^ 64 ≡ w = omega arith in
    passing-count (λ i. bit_at w (i % 64) == 1) 64 (64 * place) ∙ same ∙ ones_below w 64 ∙ ap count_ones whole
