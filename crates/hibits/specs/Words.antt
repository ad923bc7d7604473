-- The words of a layer.
use Rattle.std.specs.Prelude.{◌≡◌, ℕ, ◌+◌, ◌-◌, ◌*◌, ◌%◌, ◌^◌, ◌<◌, ◌≤◌, Bool, true, false, cond, not, ◌==◌, List, [], ◌∷◌, ◌++◌, map, flat_map, refl}
use Rattle.std.specs.Int.{bit_at}
use Rattle.std.proofs.Common.{eq-eqb, zero, suc, arith, ap, ◌∙◌, sym, inl, inr}
use Rattle.std.proofs.lemmas.Bool.{cases_eq, cases_lt, ne_eqb, true≢false}
use Rattle.std.proofs.lemmas.Nat.Bits.{bit_at-zero, bit_at_cat_low, bit_at_cat_high}
use Rattle.hibits.specs.declared.limits.TheConstants.{LAYERS, INDEX_LIMIT}
use Rattle.std.specs.List.{Contains}
use Rattle.hibits.specs.Left.{passing, passing-none, left, left-contains}

-- the word at a place of layer p: its bit j is bit 64 place + j
pub record IsWord (p : ℕ → Bool) (place word : ℕ) : Type 0 where
  pub fits : word < 2 ^ 64
  pub bits : (j : ℕ) → j < 64 → bit_at word j ≡ cond (p (64 * place + j)) 1 0

-- the first word from a place on that is not 0
pub record IsNextWord (p : ℕ → Bool) (from place word : ℕ) : Type 0 where
  pub from_on : from ≤ place
  pub is_word : IsWord p place word
  pub some : 0 < word
  pub none : (i : ℕ) → 64 * from ≤ i → i < 64 * place → p i ≡ true → ⊥

-- the number whose lowest n bits are the first n bits of p
abbrev pub bits_of : (ℕ → Bool) → ℕ → ℕ
bits_of p zero = 0
bits_of p (suc n) = cond (p n) 1 0 * 2 ^ n + bits_of p n

-- the word at a place
abbrev pub word_at : (ℕ → Bool) → ℕ → ℕ
word_at p place = bits_of (λ j. p (64 * place + j)) 64

-- the words from a place on that are not 0, each with its place, ascending
unfoldable pub words_from : (ℕ → Bool) → ℕ → List (ℕ × ℕ)
words_from p from = map (λ k. (k, word_at p k)) (passing (λ k. not (word_at p k == 0)) from (64 ^ (LAYERS - 1) - from))

-- the indices that a word at a place stands for, ascending
unfoldable pub indices_of : ℕ × ℕ → List ℕ
indices_of w = passing (λ i. bit_at w.1 (i % 64) == 1) (64 * w.0) 64

-- ---- The words stand for the members, in order.
bits_small : (p : ℕ → Bool) (n : ℕ) → bits_of p n < 2 ^ n
bits_small p zero = omega arith
bits_small p (suc n) =
    let rest = bits_small p n in
    elim (p n) as (λ b. cond b 1 0 * 2 ^ n + bits_of p n < 2 ^ suc n) [
      | true ↦ omega (arith, rest)
      | false ↦ omega (arith, rest)
    ]

one_bit : (b : Bool) → bit_at (cond b 1 0) 0 ≡ cond b 1 0
one_bit true = refl
one_bit false = refl

bits_at : (p : ℕ → Bool) (n j : ℕ) → j < n → bit_at (bits_of p n) j ≡ cond (p j) 1 0
bits_at p zero j lt = absurd (omega arith)
bits_at p (suc n) j lt =
    elim (cases_lt j n) [
      | inl below ↦ bit_at_cat_low (cond (p n) 1 0) n (bits_of p n) j below ∙ bits_at p n j below
      | inr past ↦
          let same : j ≡ n = omega arith in
          rw same (bit_at_cat_high (cond (p n) 1 0) n (bits_of p n) n (bits_small p n) (omega arith) ∙ ap (bit_at (cond (p n) 1 0)) (let z : n - n ≡ 0 = omega arith in z) ∙ one_bit (p n))
    ]

pub passing-same : (p q : ℕ → Bool) (n a : ℕ) → ((i : ℕ) → a ≤ i → i < a + n → p i ≡ q i) → passing p a n ≡ passing q a n
unfolding passing
passing-same p q zero a same = refl
passing-same p q (suc n) a same =
    ap (λ b. cond b (a ∷ passing p (suc a) n) (passing p (suc a) n)) (same a (omega arith) (omega arith))
    ∙ ap (λ is. cond (q a) (a ∷ is) is) (passing-same p q n (suc a) (λ i ge lt. same i (omega arith) (omega arith)))

pub passing-split : (p : ℕ → Bool) (m n a : ℕ) → passing p a (m + n) ≡ passing p a m ++ passing p (a + m) n
unfolding passing
passing-split p zero n a = let none : 0 + n ≡ n = omega arith in let same : a + 0 ≡ a = omega arith in rw (none, same) refl
passing-split p (suc m) n a =
    let rest : passing p (suc a) (m + n) ≡ passing p (suc a) m ++ passing p (a + suc m) n = passing-split p m n (suc a) ∙ ap (λ k. passing p (suc a) m ++ passing p k n) (let e : suc a + m ≡ a + suc m = omega arith in e) in
    let more : suc m + n ≡ suc (m + n) = omega arith in
    ap (passing p a) more
    ∙ elim (p a) as (λ b. cond b (a ∷ passing p (suc a) (m + n)) (passing p (suc a) (m + n)) ≡ cond b (a ∷ passing p (suc a) m) (passing p (suc a) m) ++ passing p (a + suc m) n) [
      | true ↦ ap (λ is. a ∷ is) rest
      | false ↦ rest
    ]

bit_of : (b : Bool) → (cond b 1 0 == 1) ≡ b
bit_of true = refl
bit_of false = refl

-- the word at a place stands for the members that are there
indices_at : (p : ℕ → Bool) (k : ℕ) → indices_of (k, word_at p k) ≡ passing p (64 * k) 64
unfolding indices_of
indices_at p k = passing-same _ p 64 (64 * k) (λ i ge lt.
    let whole : 64 * k + i % 64 ≡ i = omega arith in
    ap (λ b. b == 1) (bits_at (λ j. p (64 * k + j)) 64 (i % 64) (omega arith)) ∙ ap (λ n. cond (p n) 1 0 == 1) whole ∙ bit_of (p i))

is_zero : (n : ℕ) → not (n == 0) ≡ false → n ≡ 0
is_zero n e =
    elim (cases_eq n 0) [
      | inl same ↦ same
      | inr other ↦ absurd (true≢false (sym (ap not (ne_eqb n 0 other)) ∙ e))
    ]

none_at : (p : ℕ → Bool) (k : ℕ) → not (word_at p k == 0) ≡ false → indices_of (k, word_at p k) ≡ []
unfolding indices_of
none_at p k empty = passing-none _ 64 (64 * k) (λ i ge lt is.
    let no : bit_at (word_at p k) (i % 64) ≡ 0 = ap (λ w. bit_at w (i % 64)) (is_zero _ empty) ∙ bit_at-zero (i % 64) in
    true≢false (sym is ∙ ap (λ b. b == 1) no))

each_at : (p : ℕ → Bool) (n a : ℕ) → flat_map indices_of (map (λ k. (k, word_at p k)) (passing (λ k. not (word_at p k == 0)) a n)) ≡ passing p (64 * a) (64 * n)
unfolding passing
each_at p zero a = refl
each_at p (suc n) a =
    let rest : flat_map indices_of (map (λ k. (k, word_at p k)) (passing (λ k. not (word_at p k == 0)) (suc a) n)) ≡ passing p (64 * a + 64) (64 * n) = each_at p n (suc a) ∙ ap (λ k. passing p k (64 * n)) (let e : 64 * suc a ≡ 64 * a + 64 = omega arith in e) in
    let split : passing p (64 * a) (64 * suc n) ≡ passing p (64 * a) 64 ++ passing p (64 * a + 64) (64 * n) = ap (passing p (64 * a)) (let e : 64 * suc n ≡ 64 + 64 * n = omega arith in e) ∙ passing-split p 64 (64 * n) (64 * a) in
    elim (not (word_at p a == 0)) as (λ b. not (word_at p a == 0) ≡ b → flat_map indices_of (map (λ k. (k, word_at p k)) (cond b (a ∷ passing (λ k. not (word_at p k == 0)) (suc a) n) (passing (λ k. not (word_at p k == 0)) (suc a) n))) ≡ passing p (64 * a) (64 * suc n)) [
      | true ↦ λ _. ap (λ is. is ++ flat_map indices_of (map (λ k. (k, word_at p k)) (passing (λ k. not (word_at p k == 0)) (suc a) n))) (indices_at p a) ∙ ap (λ is. passing p (64 * a) 64 ++ is) rest ∙ sym split
      | false ↦ λ none. rest ∙ ap (λ is. is ++ passing p (64 * a + 64) (64 * n)) (sym (none_at p a none) ∙ indices_at p a) ∙ sym split
    ] refl

-- the words from a place on that are not 0 stand for the members from there on
pub words-left : (p : ℕ → Bool) (from : ℕ) → flat_map indices_of (words_from p from) ≡ left p (64 * from)
unfolding words_from left
words-left p from = each_at p (64 ^ (LAYERS - 1) - from) from ∙ ap (passing p (64 * from)) (let e : 64 * (64 ^ (LAYERS - 1) - from) ≡ INDEX_LIMIT - 64 * from = omega arith in e)

-- where no bit is set, the number is 0
no_bits : (p : ℕ → Bool) (n : ℕ) → ((j : ℕ) → j < n → p j ≡ true → ⊥) → bits_of p n ≡ 0
no_bits p zero none = refl
no_bits p (suc n) none =
    let rest = no_bits p n (λ j lt. none j (omega arith)) in
    elim (p n) as (λ b. p n ≡ b → cond b 1 0 * 2 ^ n + bits_of p n ≡ 0) [
      | true ↦ λ e. absurd (none n (omega arith) e)
      | false ↦ λ _. omega (arith, rest)
    ] refl

pub no_word : (p : ℕ → Bool) (k : ℕ) → ((i : ℕ) → 64 * k ≤ i → i < 64 * (k + 1) → p i ≡ true → ⊥) → not (word_at p k == 0) ≡ true → ⊥
no_word p k none is =
    let z = no_bits (λ j. p (64 * k + j)) 64 (λ j lt e. none (64 * k + j) (omega arith) (omega arith) e) in
    true≢false (sym is ∙ ap not (eq-eqb _ 0 z))

-- there is none where no index is left
pub words_none : (p : ℕ → Bool) (from : ℕ) → ((i : ℕ) → 64 * from ≤ i → i < INDEX_LIMIT → p i ≡ true → ⊥) → words_from p from ≡ []
unfolding words_from
words_none p from none =
    ap (map (λ k. (k, word_at p k)))
    (passing-none (λ k. not (word_at p k == 0)) (64 ^ (LAYERS - 1) - from) from (λ k ge lt e.
    no_word p k (λ i at past has. none i (omega arith) (omega arith) has) e))

nothing_in : (i : ℕ) → Contains [] i → ⊥
nothing_in i held = let lt = held.1 in omega arith

-- where there is no member from there on, there is no word
pub words-empty : (p : ℕ → Bool) (from : ℕ) → left p (64 * from) ≡ [] → words_from p from ≡ []
words-empty p from none = words_none p from (λ i ge lt is. nothing_in i (rw none at (left-contains p (64 * from) i ge lt is)))
