-- How many bits a row has set, and what one row has of another.
use Rattle.std.proofs.Common.{◌≡◌, ℕ, zero, suc, ◌+◌, ◌-◌, ◌*◌, ◌/◌, ◌%◌, ◌^◌, ◌<◌, ◌≤◌, min, Bool, true, false, cond, ◌==◌, List, ◌∷◌, length, get_or, bit_and, w64, refl, sym, ap, ◌∙◌, inl, inr, arith, eqb-true, eq-eqb}
use Rattle.std.specs.Int.{bit_at, bit_not, trailing_zeros}
use Rattle.std.specs.Int.RustNames.{count_ones}
use Rattle.std.specs.Ordering.{nat_cmp}
use Rattle.std.specs.Cmp.{nat_cmp_total}
use Rattle.std.specs.FinSet as set
use Rattle.std.proofs.lemmas.Bool.{cases_eq, true≢false}
use Rattle.std.proofs.lemmas.Bool.Decides.{eqb_tells}
use Rattle.std.proofs.lemmas.Nat.{and_le_l, mod-pow-add, ones_cat, zero_from_ones, ones_le_self, pow_pos, mod_below}
use Rattle.std.proofs.lemmas.Nat.Bits.{bit_at-zero, bit_at-lt, bit_at_and, bit_at_not, bit_at-trailing_zeros}
use Rattle.pages.specs.Listed.{list_below, list_below-none}
use Rattle.hibits.specs.declared.limits.TheConstants.{INDEX_LIMIT}
use Rattle.hibits.specs.Counts.{count_below, count_same, count_add, count_past}
use Rattle.hibits.specs.Left.{left, passing}
use Rattle.hibits.specs.Rows.{row_bit, members_of}
use Rattle.hibits.proofs.RowLemmas.{contains-members_of, past_row}

-- ---- one word within another
module _ (w own : ℕ) (wf : w < 2 ^ 64) (of : own < 2 ^ 64) where
  pub word_within : bit_and w (bit_not w64 own) ≡ 0 → (j : ℕ) → j < 64 → bit_at w j ≡ 1 → bit_at own j ≡ 1
  word_within none j lt one =
      let both : bit_at (bit_and w (bit_not w64 own)) j ≡ min (bit_at w j) (1 - bit_at own j) = bit_at_and w (bit_not w64 own) j ∙ ap (min (bit_at w j)) (bit_at_not w64 own j of lt) in
      let z : bit_at (bit_and w (bit_not w64 own)) j ≡ 0 = ap (λ n. bit_at n j) none ∙ bit_at-zero j in
      let small = bit_at-lt own j in
      omega arith

  pub word_outside : (bit_and w (bit_not w64 own) ≡ 0 → ⊥) → (j : ℕ) × (j < 64) × (bit_at w j ≡ 1) × (bit_at own j ≡ 0)
  word_outside some =
      let x = bit_and w (bit_not w64 own) in
      let le = and_le_l w (bit_not w64 own) in
      let t = bit_at-trailing_zeros w64 (bit_and w (bit_not w64 own)) (omega (arith, some)) (omega arith) in
      let j = trailing_zeros w64 (bit_and w (bit_not w64 own)) in
      let both : bit_at (bit_and w (bit_not w64 own)) (trailing_zeros w64 (bit_and w (bit_not w64 own))) ≡ min (bit_at w (trailing_zeros w64 (bit_and w (bit_not w64 own)))) (1 - bit_at own (trailing_zeros w64 (bit_and w (bit_not w64 own)))) = bit_at_and w (bit_not w64 own) _ ∙ ap (min (bit_at w (trailing_zeros w64 (bit_and w (bit_not w64 own))))) (bit_at_not w64 own _ of t.0) in
      let a = bit_at-lt w (trailing_zeros w64 (bit_and w (bit_not w64 own))) in
      (trailing_zeros w64 (bit_and w (bit_not w64 own)), t.0, omega (arith, t.1), omega (arith, t.1))

module _ (inner outer : List ℕ) (k : ℕ) (wf : get_or inner k 0 < 2 ^ 64) (of : get_or outer k 0 < 2 ^ 64) where
  pub row_within : bit_and (get_or inner k 0) (bit_not w64 (get_or outer k 0)) ≡ 0 → (i : ℕ) → i / 64 ≡ k → row_bit inner i ≡ true → row_bit outer i ≡ true
  row_within none i at e =
      let own : bit_at (get_or inner k 0) (i % 64) ≡ 1 = sym (ap (λ n. bit_at (get_or inner n 0) (i % 64)) at) ∙ eqb-true _ 1 e in
      let other = word_within (get_or inner k 0) (get_or outer k 0) wf of none (i % 64) (omega arith) own in
      eq-eqb _ 1 (ap (λ n. bit_at (get_or outer n 0) (i % 64)) at ∙ other)

  pub row_outside : (bit_and (get_or inner k 0) (bit_not w64 (get_or outer k 0)) ≡ 0 → ⊥) → ((i : ℕ) → row_bit inner i ≡ true → row_bit outer i ≡ true) → ⊥
  row_outside some all =
      let o = word_outside (get_or inner k 0) (get_or outer k 0) wf of some in
      let a : (64 * k + o.0) / 64 ≡ k = let h = o.1 in omega arith in
      let b : (64 * k + o.0) % 64 ≡ o.0 = let h = o.1 in omega arith in
      let in_inner : row_bit inner (64 * k + o.0) ≡ true = eq-eqb _ 1 (ap (λ n. bit_at (get_or inner n 0) ((64 * k + o.0) % 64)) a ∙ ap (bit_at (get_or inner k 0)) b ∙ o.2) in
      let one : bit_at (get_or outer ((64 * k + o.0) / 64) 0) ((64 * k + o.0) % 64) ≡ 1 = eqb-true _ 1 (all (64 * k + o.0) in_inner) in
      let none : bit_at (get_or outer ((64 * k + o.0) / 64) 0) ((64 * k + o.0) % 64) ≡ 0 = ap (λ n. bit_at (get_or outer n 0) ((64 * k + o.0) % 64)) a ∙ ap (bit_at (get_or outer k 0)) b ∙ o.3 in
      omega arith

-- ---- counts of bits
ones_bit : (b : ℕ) → b < 2 → count_ones b ≡ b
ones_bit b lt =
    let le = ones_le_self b in
    elim (cases_eq (count_ones b) 0) [
      | inl z ↦ let none = zero_from_ones b z in omega arith
      | inr n ↦ omega (arith, n)
    ]

pub ones_below : (w n : ℕ) → count_below (λ j. bit_at w j == 1) n ≡ count_ones (w % 2 ^ n)
ones_below w zero = let le = ones_le_self (w % 1) in let z : w % 1 ≡ 0 = omega arith in let h : 0 ≡ count_ones (w % 1) = omega arith in h
ones_below w (suc n) =
    let rest = ones_below w n in
    let e : suc n ≡ 1 + n = omega arith in
    let split : w % 2 ^ (1 + n) ≡ bit_at w n * 2 ^ n + w % 2 ^ n = mod-pow-add w 1 n in
    let cat = ones_cat n (bit_at w n) (w % 2 ^ n) (mod_below w (2 ^ n) (pow_pos n)) in
    let small = bit_at-lt w n in
    let bit = ones_bit (bit_at w n) small in
    let whole : count_ones (w % 2 ^ suc n) ≡ bit_at w n + count_ones (w % 2 ^ n) = ap (λ k. count_ones (w % 2 ^ k)) e ∙ ap count_ones split ∙ cat ∙ ap (λ b. b + count_ones (w % 2 ^ n)) bit in
    let test : cond {A = ℕ} (bit_at w n == 1) 1 0 ≡ bit_at w n =
    elim (eqb_tells (bit_at w n) 1) [
      | inl one ↦ ap (λ b. cond b 1 0) one.0 ∙ sym one.1
      | inr other ↦ ap (λ b. cond b 1 0) other.0 ∙ (let z : 0 ≡ bit_at w n = omega (arith, other.1) in z)
    ] in
    omega (arith, whole, test, rest)

-- one word more
pub ones_more : (ws : List ℕ) (k : ℕ) → get_or ws k 0 < 2 ^ 64 → count_below (row_bit ws) (64 * (k + 1)) ≡ count_below (row_bit ws) (64 * k) + count_ones (get_or ws k 0)
ones_more ws k fits =
    let e : 64 * (k + 1) ≡ 64 * k + 64 = omega arith in
    let one = count_same (λ j. row_bit ws (64 * k + j)) (λ j. bit_at (get_or ws k 0) j == 1) 64 (λ j lt.
    let a : (64 * k + j) / 64 ≡ k = omega arith in
    let b : (64 * k + j) % 64 ≡ j = omega arith in
    ap (λ n. bit_at (get_or ws n 0) ((64 * k + j) % 64) == 1) a ∙ ap (λ n. bit_at (get_or ws k 0) n == 1) b) in
    let ones = ones_below (get_or ws k 0) 64 in
    let whole : get_or ws k 0 % 2 ^ 64 ≡ get_or ws k 0 = omega arith in
    let all = count_add (row_bit ws) (64 * k) 64 in
    ap (count_below (row_bit ws)) e ∙ all ∙ ap (λ n. count_below (row_bit ws) (64 * k) + n) (one ∙ ones ∙ ap count_ones whole)

-- ---- how many members there are
pub len-members_of : (ws : List ℕ) → set.len (members_of ws) ≡ count_below (row_bit ws) (64 * length ws)
unfolding members_of
len-members_of ws = list_len (row_bit ws) (64 * length ws)
  where
    list_len : (p : ℕ → Bool) (n : ℕ) → set.len (set.from_list {R = nat_cmp} (list_below p n)) ≡ count_below p n
    list_len p zero = set.len-empty nat_cmp
    list_len p (suc n) =
        let rest = list_len p n in
        let more = set.len-insert nat_cmp_total (set.from_list {R = nat_cmp} (list_below p n)) n in
        let new : set.contains (set.from_list {R = nat_cmp} (list_below p n)) n ≡ false = set.contains-from_list_nat (list_below p n) n ∙ list_below-none p n n (omega arith) in
        let len : set.len (set.insert (set.from_list {R = nat_cmp} (list_below p n)) n) ≡ set.len (set.from_list {R = nat_cmp} (list_below p n)) + 1 = more ∙ ap (λ b. cond b (set.len (set.from_list {R = nat_cmp} (list_below p n))) (set.len (set.from_list {R = nat_cmp} (list_below p n)) + 1)) new in
        elim (p n) as (λ b. set.len (set.from_list {R = nat_cmp} (cond b (n ∷ list_below p n) (list_below p n))) ≡ cond b 1 0 + count_below p n) [
          | true ↦ omega (arith, len, rest)
          | false ↦ omega (arith, rest)
        ]

passing-length : (p : ℕ → Bool) (n a : ℕ) → length (passing p a n) ≡ count_below (λ j. p (a + j)) n
unfolding passing
passing-length p zero a = refl
passing-length p (suc n) a =
    let rest = passing-length p n (suc a) in
    let e : suc n ≡ 1 + n = omega arith in
    let split = ap (count_below (λ j. p (a + j))) e ∙ count_add (λ j. p (a + j)) 1 n in
    let same = count_same (λ j. p (a + (1 + j))) (λ j. p (suc a + j)) n (λ j lt. let k : a + (1 + j) ≡ suc a + j = omega arith in ap p k) in
    let at : a + 0 ≡ a = omega arith in
    let first : cond {A = ℕ} (p (a + 0)) 1 0 ≡ cond (p a) 1 0 = ap (λ k. cond (p k) 1 0) at in
    elim (p a) as (λ b. cond {A = ℕ} (p (a + 0)) 1 0 ≡ cond b 1 0 → length (cond b (a ∷ passing p (suc a) n) (passing p (suc a) n)) ≡ count_below (λ j. p (a + j)) (suc n)) [
      | true ↦ λ f. omega (arith, rest, split, same, f)
      | false ↦ λ f. omega (arith, rest, split, same, f)
    ] first

pub left-length : (ws : List ℕ) → 64 * length ws ≤ INDEX_LIMIT → length (left (λ i. set.contains (members_of ws) i) 0) ≡ count_below (row_bit ws) (64 * length ws)
unfolding left
left-length ws le =
    passing-length (λ i. set.contains (members_of ws) i) INDEX_LIMIT 0
    ∙ count_same (λ j. set.contains (members_of ws) (0 + j)) (row_bit ws) INDEX_LIMIT (λ i lt. let e : 0 + i ≡ i = omega arith in ap (set.contains (members_of ws)) e ∙ contains-members_of ws i)
    ∙ count_past (row_bit ws) (64 * length ws) INDEX_LIMIT le (λ i ge _ is. true≢false (sym is ∙ past_row ws i ge))
