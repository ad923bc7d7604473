-- The least bit of a layer that is set and not below an index, and the sets whose top word is 0.
use Rattle.std.proofs.Common.{◌≡◌, ℕ, ◌+◌, ◌-◌, ◌*◌, ◌/◌, ◌%◌, ◌^◌, ◌<◌, ◌≤◌, Bool, true, false, cond, List, [], ◌∷◌, get_or, w64, refl, sym, ap, ◌∙◌, inl, inr, arith, eq-eqb}
use Rattle.std.specs.Int.{bit_at, trailing_zeros}
use Rattle.std.specs.Ordering.{nat_cmp}
use Rattle.std.specs.Cmp.{nat_cmp_total, both_ways}
use Rattle.std.specs.FinSet as set
use Rattle.std.proofs.lemmas.Bool.{cases_lt, cases_eq, true≢false}
use Rattle.std.proofs.lemmas.Nat.{shr-shr, shr_le, div_below}
use Rattle.std.proofs.lemmas.Nat.{pow-add}
use Rattle.std.proofs.Math.Nat.{pow-le-pow_right, one-le-pow}
use Rattle.std.proofs.Common.{lit<}
use Rattle.std.specs.Prelude.{Option, Some, None, MatchOption}
use Rattle.hibits.specs.declared.limits.TheConstants.{LAYERS, INDEX_LIMIT}
use Rattle.std.proofs.lemmas.Nat.Bits.{bit_at-zero, bit_at_above, bit_at-trailing_zeros}
use Rattle.hibits.specs.Sets.{has_part, has_part_zero, part_member, member_part, part_covers, part_within, none_in_empty}
use Rattle.hibits.specs.Walks.{IsNext}
use Rattle.hibits.specs.Rows.{row_bit, members_of, IsSound}
use Rattle.hibits.proofs.WalkLemmas.{one_is_set}
use Rattle.hibits.proofs.RowLemmas.{no_bit, top_zero, member_below}

-- bits of a word that is shifted down
shifted : (w k j : ℕ) → bit_at (w / 2 ^ k) j ≡ bit_at w (k + j)
shifted w k j = ap (λ n. n % 2) (shr-shr w k j)

-- a word of layer p, of which bit j is bit 64 place + j
module _ (p : ℕ → Bool) (w place : ℕ) (fits : w < 2 ^ 64) (bits : (j : ℕ) → j < 64 → bit_at w j ≡ cond (p (64 * place + j)) 1 0) where
  is_set : (j : ℕ) → j < 64 → bit_at w j ≡ 1 → p (64 * place + j) ≡ true
  is_set j lt one = one_is_set _ (p (64 * place + j)) (bits j lt) one

  is_one : (j : ℕ) → j < 64 → p (64 * place + j) ≡ true → bit_at w j ≡ 1
  is_one j lt e = bits j lt ∙ ap (λ b. cond b 1 0) e

  -- the least bit in the word from bit k on
  module _ (from : ℕ) (at : from / 64 ≡ place) where
    high_bit : (j : ℕ) → 64 ≤ j → bit_at w j ≡ 0
    high_bit j ge = bit_at_above w 64 j fits ge

    pub in_word : (v : ℕ) → v ≡ w / 2 ^ (from % 64) → 0 < v → IsNext p from (from + trailing_zeros w64 v)
    in_word v is some =
        let le = shr_le w (from % 64) in
        let t = bit_at-trailing_zeros w64 v some (omega (arith, is)) in
        let one : bit_at w (from % 64 + trailing_zeros w64 v) ≡ 1 = sym (shifted w (from % 64) (trailing_zeros w64 v)) ∙ ap (λ n. bit_at n (trailing_zeros w64 v)) (sym is) ∙ t.1 in
        let small : from % 64 + trailing_zeros w64 v < 64 =
        elim (cases_lt (from % 64 + trailing_zeros w64 v) 64) [
          | inl lt ↦ lt
          | inr ge ↦ absurd (let z = high_bit _ ge in omega arith)
        ] in
        let index : 64 * place + (from % 64 + trailing_zeros w64 v) ≡ from + trailing_zeros w64 v = omega arith in
        record {
          from_on = omega arith;
          member = ap p (sym index) ∙ is_set _ small one;
          first = λ j ge lt e.
              let k : j ≡ 64 * place + j % 64 = omega arith in
              let own : bit_at w (j % 64) ≡ 1 = is_one (j % 64) (omega arith) (ap p (sym k) ∙ e) in
              let i : j % 64 ≡ from % 64 + (j - from) = omega arith in
              let z : bit_at v (j - from) ≡ 0 = t.2 (j - from) (omega arith) in
              let moved : bit_at v (j - from) ≡ bit_at w (from % 64 + (j - from)) = ap (λ n. bit_at n (j - from)) is ∙ shifted w (from % 64) (j - from) in
              let same : bit_at w (j % 64) ≡ bit_at w (from % 64 + (j - from)) = ap (bit_at w) i in
              omega (arith, own, z, moved, same);
        }

    pub not_in_word : w / 2 ^ (from % 64) ≡ 0 → (j : ℕ) → from ≤ j → j < 64 * (place + 1) → p j ≡ true → ⊥
    not_in_word none j ge lt e =
        let k : j ≡ 64 * place + j % 64 = omega arith in
        let own : bit_at w (j % 64) ≡ 1 = is_one (j % 64) (omega arith) (ap p (sym k) ∙ e) in
        let i : j % 64 ≡ from % 64 + (j - from) = omega arith in
        let moved : bit_at (w / 2 ^ (from % 64)) (j - from) ≡ bit_at w (from % 64 + (j - from)) = shifted w (from % 64) (j - from) in
        let z : bit_at (w / 2 ^ (from % 64)) (j - from) ≡ 0 = ap (λ n. bit_at n (j - from)) none ∙ bit_at-zero (j - from) in
        let same : bit_at w (j % 64) ≡ bit_at w (from % 64 + (j - from)) = ap (bit_at w) i in
        omega (arith, own, z, moved, same)

  -- the least bit of all the word
  pub lowest_in_word : 0 < w → IsNext p (64 * place) (64 * place + trailing_zeros w64 w)
  lowest_in_word some =
      let t = bit_at-trailing_zeros w64 w some fits in
      record {
        from_on = omega arith;
        member = is_set _ t.0 t.1;
        first = λ j ge lt e.
            let k : j ≡ 64 * place + (j - 64 * place) = omega arith in
            let small : j - 64 * place < 64 = let b = t.0 in omega arith in
            let own : bit_at w (j - 64 * place) ≡ 1 = is_one (j - 64 * place) small (ap p (sym k) ∙ e) in
            let z = t.2 (j - 64 * place) (omega arith) in
            omega (arith, own, z);
      }

-- the layer above tells where to go on
module _ (s : set.FinSet nat_cmp) (l from : ℕ) (none_here : (j : ℕ) → from ≤ j → j < 64 * (from / 64 + 1) → has_part s l j ≡ true → ⊥) where
  pub none_above : ((j : ℕ) → from / 64 + 1 ≤ j → has_part s (l + 1) j ≡ true → ⊥) → (j : ℕ) → from ≤ j → has_part s l j ≡ true → ⊥
  none_above none j ge e =
      elim (cases_lt j (64 * (from / 64 + 1))) [
        | inl here ↦ none_here j ge here e
        | inr past ↦ none (j / 64) (omega arith) (part_covers s l j e)
      ]

  pub below_place : (place : ℕ) → IsNext (has_part s (l + 1)) (from / 64 + 1) place → (i : ℕ) → IsNext (has_part s l) (64 * place) i → IsNext (has_part s l) from i
  below_place place next i first =
      let up = next.from_on in
      let on = first.from_on in
      record {
        from_on = omega arith;
        member = first.member;
        first = λ j ge lt e.
            elim (cases_lt j (64 * (from / 64 + 1))) [
              | inl here ↦ none_here j ge here e
              | inr past ↦
                  elim (cases_lt (j / 64) place) [
                    | inl before ↦ next.first (j / 64) (omega arith) before (part_covers s l j e)
                    | inr at ↦ first.first j (omega arith) lt e
                  ]
            ];
      }

-- a part that has a member has a word that is not 0
pub word_some : (s : set.FinSet nat_cmp) (l place w : ℕ) → has_part s (l + 1) place ≡ true → ((j : ℕ) → j < 64 → bit_at w j ≡ cond (has_part s l (64 * place + j)) 1 0) → 0 < w
word_some s l place w e bits =
    let in_part = part_within s l place e in
    let one : bit_at w in_part.0 ≡ 1 = bits in_part.0 in_part.1 ∙ ap (λ b. cond b 1 0) in_part.2 in
    elim (cases_eq w 0) [
      | inl z ↦ absurd (let h : bit_at w in_part.0 ≡ 0 = ap (λ n. bit_at n in_part.0) z ∙ bit_at-zero in_part.0 in omega arith)
      | inr n ↦ omega (arith, n)
    ]

-- whether the top word is 0 tells whether there is a member
module _ (w0 w1 w2 w3 : List ℕ) (t : ℕ) (ok : IsSound w0 w1 w2 w3 (t ∷ [])) where
  pub top_zero_empty : t ≡ 0 → members_of w0 ≡ set.empty
  top_zero_empty is =
      set.same_set nat_cmp_total set.nat_cmp-IsAntisymmetric _ _ (λ q.
      both_ways _ _
      (λ e.
      let up = sym (ok.tied4.bits (q / 64 ^ 4)) in
      let part = member_part (members_of w0) 4 q e in
      let bit : row_bit (t ∷ []) (q / 64 ^ 4) ≡ false = rw is (no_bit (0 ∷ []) top_zero (q / 64 ^ 4)) in
      absurd (true≢false (sym part ∙ up ∙ bit)))
      (λ e. absurd (none_in_empty set.empty refl q e)))

  pub empty_top_zero : members_of w0 ≡ set.empty → t ≡ 0
  empty_top_zero is =
      elim (cases_eq t 0) [
        | inl z ↦ z
        | inr n ↦
            let b = bit_at-trailing_zeros w64 t (omega (arith, n)) (ok.words4.fits 0) in
            let lt = b.0 in
            let a : trailing_zeros w64 t / 64 ≡ 0 = omega arith in
            let c : trailing_zeros w64 t % 64 ≡ trailing_zeros w64 t = omega arith in
            let bit : row_bit (t ∷ []) (trailing_zeros w64 t) ≡ true = eq-eqb _ 1 (ap (λ n. bit_at (get_or (t ∷ []) n 0) (trailing_zeros w64 t % 64)) a ∙ ap (bit_at t) c ∙ b.1) in
            let m = part_member (members_of w0) 4 (trailing_zeros w64 t) (sym (ok.tied4.bits (trailing_zeros w64 t)) ∙ bit) in
            absurd (none_in_empty (members_of w0) is m.0 m.1)
      ]

-- as the code goes
part_limit : (x l i : ℕ) → l ≤ LAYERS → x < INDEX_LIMIT → x / 64 ^ l ≡ i → i < 64 ^ (LAYERS - l)
part_limit x l i le lt at =
    let split : 64 ^ (LAYERS - l + l) ≡ 64 ^ (LAYERS - l) * 64 ^ l = pow-add 64 (LAYERS - l) l in
    let e : LAYERS - l + l ≡ LAYERS = omega arith in
    let whole : INDEX_LIMIT ≡ 64 ^ (LAYERS - l) * 64 ^ l = sym (ap (λ n. 64 ^ n) e) ∙ split in
    let small : x < 64 ^ (LAYERS - l) * 64 ^ l = rw (← whole) lt in
    rw (← at) (div_below x (64 ^ l) (64 ^ (LAYERS - l)) (one-le-pow l 64 (lit< tt)) small)

pub part_within_limit : (w0 w1 w2 w3 w4 : List ℕ) → IsSound w0 w1 w2 w3 w4 → (l : ℕ) → l ≤ LAYERS → (i : ℕ) → has_part (members_of w0) l i ≡ true → i < 64 ^ (LAYERS - l)
part_within_limit w0 w1 w2 w3 w4 ok l le i e =
    let m = part_member (members_of w0) l i e in
    part_limit m.0 l i le (member_below w0 w1 w2 w3 w4 ok m.0 m.1) m.2

pub layer_small : (level i : ℕ) → i < 64 ^ (LAYERS - level) → i < 64 ^ LAYERS
layer_small level i lt =
    let less : LAYERS - level ≤ LAYERS = omega arith in
    let k : 64 ^ (LAYERS - level) ≤ 64 ^ LAYERS = pow-le-pow_right (lit< tt) less in
    omega arith

pub place_small : (level i : ℕ) → i < 64 ^ (LAYERS - (level + 1)) → 64 * i < 64 ^ LAYERS
place_small level i lt =
    let less : LAYERS - (level + 1) ≤ LAYERS - 1 = omega arith in
    let k : 64 ^ (LAYERS - (level + 1)) ≤ 64 ^ (LAYERS - 1) = pow-le-pow_right (lit< tt) less in
    omega arith

-- no bit from an index on, and the least one, of the lowest layer are of the members
pub first_is_member : (s : set.FinSet nat_cmp) (id : ℕ) (r : Option ℕ) → MatchOption r ((j : ℕ) → id ≤ j → has_part s 0 j ≡ true → ⊥) (IsNext (has_part s 0) id) → MatchOption r ((j : ℕ) → id ≤ j → set.contains s j ≡ true → ⊥) (IsNext (λ j. set.contains s j) id)
first_is_member s id None none = λ j ge e. none j ge (has_part_zero s j ∙ e)
first_is_member s id (Some i) next = record {
  from_on = next.from_on;
  member = sym (has_part_zero s i) ∙ next.member;
  first = λ j ge lt e. next.first j ge lt (has_part_zero s j ∙ e);
}
