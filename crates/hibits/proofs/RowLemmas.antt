-- How rows of words follow a set.
use Rattle.std.proofs.Common.{◌≡◌, ◌≢◌, ℕ, zero, suc, ◌+◌, ◌*◌, ◌/◌, ◌%◌, ◌^◌, ◌<◌, ◌≤◌, Bool, true, false, cond, not, ◌&&◌, ◌||◌, ◌==◌, List, [], ◌∷◌, length, get_or, set as list_set, length-set, get_or-set_same, get_or-set_other, bit_and, bit_or, w64, refl, sym, ap, ◌∙◌, inl, inr, ⊎_elim, arith, eqb-true, eq-eqb}
use Rattle.std.specs.Int.{bit_at, bit_not, trailing_zeros}
use Rattle.std.specs.Ordering.{nat_cmp}
use Rattle.std.specs.Cmp.{nat_cmp_total, unsigned_tied, both_ways}
use Rattle.std.specs.FinSet as set
use mathlib.Core.Bool.{beq}
use Rattle.std.proofs.lemmas.Bool.{cases_eq, cases_lt, ne_eqb, true≢false}
use Rattle.std.proofs.lemmas.Bool.Decides.{eqb_tells}
use Rattle.std.proofs.lemmas.List.{get_or_past}
use Rattle.std.proofs.lemmas.Nat.Bits.{bit_at-zero, bit_at-lt, bit_at-trailing_zeros, bit_at_set_same, bit_at_set_other, bit_at_clear_same, bit_at_clear_other, shr_and_one}
use Rattle.pages.specs.Listed.{list_below, list_below-none, list_below-any}
use Rattle.hibits.specs.declared.limits.TheConstants.{INDEX_LIMIT}
use Rattle.hibits.specs.Sets.{has_part, has_part_zero, part_member, member_part, part_covers, part_within, none_in_empty}
use Rattle.hibits.specs.Rows.{row_bit, members_of, IsTied, AreWords, IsSound, IsPut, SameWords}

-- ---- the members of a row
pub past_row : (ws : List ℕ) (i : ℕ) → 64 * length ws ≤ i → row_bit ws i ≡ false
past_row ws i le =
    let past : get_or ws (i / 64) 0 ≡ 0 = get_or_past ws (i / 64) 0 (omega arith) in
    ne_eqb (bit_at (get_or ws (i / 64) 0) (i % 64)) 1 (λ e. let z = bit_at-zero (i % 64) in omega (arith, sym (ap (λ w. bit_at w (i % 64)) past) ∙ e))

pub contains-members_of : (ws : List ℕ) (i : ℕ) → set.contains (members_of ws) i ≡ row_bit ws i
unfolding members_of
contains-members_of ws i =
    set.contains-from_list_nat (list_below (row_bit ws) (64 * length ws)) i
    ∙ elim (cases_lt i (64 * length ws)) [
      | inl lt ↦ list_below-any (row_bit ws) i (64 * length ws) lt
      | inr ge ↦ list_below-none (row_bit ws) i (64 * length ws) ge ∙ sym (past_row ws i ge)
    ]

-- ---- a bit that is put
pub tied_zero : (ws : List ℕ) → IsTied (members_of ws) 0 ws
tied_zero ws = record { bits = λ i. sym (has_part_zero (members_of ws) i ∙ contains-members_of ws i) }

module _ (m m' : set.FinSet nat_cmp) (x : ℕ) (others : (q : ℕ) → q ≢ x → set.contains m' q ≡ set.contains m q) where
  part_same : (l k : ℕ) → k ≢ x / 64 ^ l → has_part m l k ≡ has_part m' l k
  part_same l k ne =
      both_ways _ _
      (λ e. let w = part_member m l k e in ap (has_part m' l) (sym w.2) ∙ member_part m' l w.0 (others w.0 (λ q. ne (sym w.2 ∙ ap (λ n. n / 64 ^ l) q)) ∙ w.1))
      (λ e. let w = part_member m' l k e in ap (has_part m l) (sym w.2) ∙ member_part m l w.0 (sym (others w.0 (λ q. ne (sym w.2 ∙ ap (λ n. n / 64 ^ l) q))) ∙ w.1))

  -- a part has a member exactly if its word isn't 0
  word_tells : (l : ℕ) (low' : List ℕ) → IsTied m' l low' → (k : ℕ) → get_or low' k 0 < 2 ^ 64 → not (get_or low' k 0 == 0) ≡ has_part m' (l + 1) k
  word_tells l low' tied k fits =
      let w = get_or low' k 0 in
      ⊎_elim
      (λ zero_is.
      both_ways _ _ (λ e. absurd (true≢false (sym e ∙ ap not zero_is.0)))
      (λ e.
      let part = part_within m' l k e in
      let bit = tied.bits (64 * k + part.0) ∙ part.2 in
      let a : (64 * k + part.0) / 64 ≡ k = let h = part.1 in omega arith in
      let b : (64 * k + part.0) % 64 ≡ part.0 = let h = part.1 in omega arith in
      let one : bit_at (get_or low' ((64 * k + part.0) / 64) 0) ((64 * k + part.0) % 64) ≡ 1 = eqb-true _ _ bit in
      let none : bit_at (get_or low' ((64 * k + part.0) / 64) 0) ((64 * k + part.0) % 64) ≡ 0 = ap (λ n. bit_at (get_or low' n 0) ((64 * k + part.0) % 64)) a ∙ ap (λ n. bit_at n ((64 * k + part.0) % 64)) zero_is.1 ∙ bit_at-zero _ in
      absurd (omega arith)))
      (λ some.
      let pos : 0 < w = omega (arith, some.1) in
      let t = bit_at-trailing_zeros w64 w pos fits in
      let j = trailing_zeros w64 w in
      let a : (64 * k + trailing_zeros w64 (get_or low' k 0)) / 64 ≡ k = let h = t.0 in omega arith in
      let b : (64 * k + trailing_zeros w64 (get_or low' k 0)) % 64 ≡ trailing_zeros w64 (get_or low' k 0) = let h = t.0 in omega arith in
      let one : bit_at (get_or low' ((64 * k + trailing_zeros w64 (get_or low' k 0)) / 64) 0) ((64 * k + trailing_zeros w64 (get_or low' k 0)) % 64) ≡ 1 = ap (λ n. bit_at (get_or low' n 0) ((64 * k + trailing_zeros w64 (get_or low' k 0)) % 64)) a ∙ ap (bit_at (get_or low' k 0)) b ∙ t.1 in
      let part = sym (tied.bits (64 * k + trailing_zeros w64 (get_or low' k 0))) ∙ eq-eqb _ 1 one in
      ap not some.0 ∙ sym (ap (has_part m' (l + 1)) (sym a) ∙ part_covers m' l _ part))
      (eqb_tells w 0)

  tied_put : (l : ℕ) (up up' low' : List ℕ) → IsTied m (l + 1) up → IsTied m' l low' → get_or low' (x / 64 ^ (l + 1)) 0 < 2 ^ 64 → IsPut up up' (x / 64 ^ (l + 1)) (not (get_or low' (x / 64 ^ (l + 1)) 0 == 0)) → IsTied m' (l + 1) up'
  tied_put l up up' low' old low fits put = record {
    bits = λ k.
        put.bits k
        ∙ ⊎_elim
        (λ same.
        ap (λ b. cond b (not (get_or low' (x / 64 ^ (l + 1)) 0 == 0)) (row_bit up k)) same.0
        ∙ word_tells l low' low (x / 64 ^ (l + 1)) fits
        ∙ ap (has_part m' (l + 1)) (sym same.1))
        (λ other.
        ap (λ b. cond b (not (get_or low' (x / 64 ^ (l + 1)) 0 == 0)) (row_bit up k)) other.0
        ∙ old.bits k
        ∙ part_same (l + 1) k other.1)
        (eqb_tells k (x / 64 ^ (l + 1)));
  }

-- ---- as the code goes
pub word_bits : (s : set.FinSet nat_cmp) (l : ℕ) (ws : List ℕ) → IsTied s l ws → (p j : ℕ) → j < 64 → bit_at (get_or ws p 0) j ≡ cond (has_part s l (64 * p + j)) 1 0
word_bits s l ws tied p j lt =
    let a : (64 * p + j) / 64 ≡ p = omega arith in
    let b : (64 * p + j) % 64 ≡ j = omega arith in
    let here : (bit_at (get_or ws p 0) j == 1) ≡ has_part s l (64 * p + j) = sym (ap (λ n. bit_at (get_or ws n 0) ((64 * p + j) % 64) == 1) a ∙ ap (λ n. bit_at (get_or ws p 0) n == 1) b) ∙ tied.bits (64 * p + j) in
    let small = bit_at-lt (get_or ws p 0) j in
    ⊎_elim
    (λ w. w.1 ∙ ap (λ b. cond b 1 0) (sym w.0 ∙ here))
    (λ w. let z : bit_at (get_or ws p 0) j ≡ 0 = omega (arith, w.1) in z ∙ ap (λ b. cond b 1 0) (sym w.0 ∙ here))
    (eqb_tells (bit_at (get_or ws p 0) j) 1)

-- a word with one bit changed
put_word : (ws : List ℕ) (i w : ℕ) (v : Bool) → i / 64 < length ws → (bit_at w (i % 64) == 1) ≡ v → ((j : ℕ) → j < 64 → j ≢ i % 64 → bit_at w j ≡ bit_at (get_or ws (i / 64) 0) j) → IsPut ws (list_set ws (i / 64) w) i v
put_word ws i w v within same others = record {
  len = length-set ws _ _;
  bits = λ k.
      elim (eqb_tells k i) [
        | inl at ↦
            ap (λ n. row_bit (list_set ws (i / 64) w) n) at.1
            ∙ ap (λ x. bit_at x (i % 64) == 1) (get_or-set_same ws (i / 64) w 0 within)
            ∙ same ∙ ap (λ b. cond b v (row_bit ws k)) (sym at.0)
        | inr off ↦
            elim (cases_eq (k / 64) (i / 64)) [
              | inl word ↦
                  let e : get_or (list_set ws (i / 64) w) (k / 64) 0 ≡ w = ap (λ n. get_or (list_set ws (i / 64) w) n 0) word ∙ get_or-set_same ws (i / 64) w 0 within in
                  let ne : k % 64 ≢ i % 64 = λ h. off.1 (omega (arith, h, word)) in
                  ap (λ x. bit_at x (k % 64) == 1) e
                  ∙ ap (λ b. b == 1) (others (k % 64) (omega arith) ne ∙ ap (λ n. bit_at (get_or ws n 0) (k % 64)) (sym word))
                  ∙ ap (λ b. cond b v (row_bit ws k)) (sym off.0)
              | inr apart ↦
                  ap (λ x. bit_at x (k % 64) == 1) (get_or-set_other ws (i / 64) (k / 64) w 0 apart)
                  ∙ ap (λ b. cond b v (row_bit ws k)) (sym off.0)
            ]
      ];
}

put_true : (ws : List ℕ) (i : ℕ) → i / 64 < length ws → IsPut ws (list_set ws (i / 64) (bit_or (get_or ws (i / 64) 0) (1 * 2 ^ (i % 64) % 2 ^ 64))) i true
put_true ws i within =
    let lt : i % 64 < 64 = omega arith in
    put_word ws i _ true within (eq-eqb _ 1 (bit_at_set_same w64 (get_or ws (i / 64) 0) (i % 64) lt)) (λ j small ne. bit_at_set_other w64 (get_or ws (i / 64) 0) (i % 64) lt j ne)

put_false : (ws : List ℕ) (i : ℕ) → i / 64 < length ws → IsPut ws (list_set ws (i / 64) (bit_and (get_or ws (i / 64) 0) (bit_not w64 (1 * 2 ^ (i % 64) % 2 ^ 64)))) i false
put_false ws i within =
    let lt : i % 64 < 64 = omega arith in
    put_word ws i _ false within (ne_eqb _ 1 (λ e. let z = bit_at_clear_same w64 (get_or ws (i / 64) 0) (i % 64) lt in omega (arith, e, z))) (λ j small ne. bit_at_clear_other w64 (get_or ws (i / 64) 0) (i % 64) lt j small ne)

pub put_any : (ws : List ℕ) (i : ℕ) (v : Bool) → i / 64 < length ws → IsPut ws (list_set ws (i / 64) (cond v (bit_or (get_or ws (i / 64) 0) (1 * 2 ^ (i % 64) % 2 ^ 64)) (bit_and (get_or ws (i / 64) 0) (bit_not w64 (1 * 2 ^ (i % 64) % 2 ^ 64))))) i v
put_any ws i true = put_true ws i
put_any ws i false = put_false ws i

pub put_top : (t i : ℕ) (v : Bool) → i < 64 → IsPut (t ∷ []) (cond v (bit_or t (1 * 2 ^ i % 2 ^ 64)) (bit_and t (bit_not w64 (1 * 2 ^ i % 2 ^ 64))) ∷ []) i v
put_top t i v lt =
    let place : i / 64 ≡ 0 = omega arith in
    let bit : i % 64 ≡ i = omega arith in
    rw (place, bit) at (put_any (t ∷ []) i v (omega arith))

module _ (ws ws' : List ℕ) (same : SameWords ws ws') where
  pub same_members : members_of ws' ≡ members_of ws
  same_members = set.same_set nat_cmp_total set.nat_cmp-IsAntisymmetric _ _ (λ q. contains-members_of ws' q ∙ ap (λ w. bit_at w (q % 64) == 1) (same.at (q / 64)) ∙ sym (contains-members_of ws q))

  pub same_tied : (s : set.FinSet nat_cmp) (l : ℕ) → IsTied s l ws → IsTied s l ws'
  same_tied s l tied = record { bits = λ i. ap (λ w. bit_at w (i % 64) == 1) (same.at (i / 64)) ∙ tied.bits i }

  pub same_are_words : AreWords ws → AreWords ws'
  same_are_words words = record { fits = λ k. rw (same.at k) (words.fits k) }

pub same_words : (ws : List ℕ) → SameWords ws ws
same_words ws = record { at = λ k. refl }

pub sound_grown : (w0 w1 w2 w3 w4 v0 v1 v2 v3 v4 : List ℕ) → IsSound w0 w1 w2 w3 w4 → SameWords w0 v0 → SameWords w1 v1 → SameWords w2 v2 → SameWords w3 v3 → SameWords w4 v4 → length v0 ≤ 64 * length v1 → length v1 ≤ 64 * length v2 → length v2 ≤ 64 * length v3 → length v3 ≤ 64 * length v4 → length v4 ≤ 1 → AreWords v0 → AreWords v1 → AreWords v2 → AreWords v3 → AreWords v4 → IsSound v0 v1 v2 v3 v4
sound_grown w0 w1 w2 w3 w4 v0 v1 v2 v3 v4 ok s0 s1 s2 s3 s4 a b c d e f0 f1 f2 f3 f4 = record {
  size0 = a;
  size1 = b;
  size2 = c;
  size3 = d;
  size4 = e;
  words0 = f0;
  words1 = f1;
  words2 = f2;
  words3 = f3;
  words4 = f4;
  tied1 = rw (same_members w0 v0 s0) (same_tied w1 v1 s1 _ 1 ok.tied1);
  tied2 = rw (same_members w0 v0 s0) (same_tied w2 v2 s2 _ 2 ok.tied2);
  tied3 = rw (same_members w0 v0 s0) (same_tied w3 v3 s3 _ 3 ok.tied3);
  tied4 = rw (same_members w0 v0 s0) (same_tied w4 v4 s4 _ 4 ok.tied4);
}

or_cond : (a b : Bool) → (a || b) ≡ cond a true b
or_cond true b = refl
or_cond false b = refl

and_cond : (a b : Bool) → (not a && b) ≡ cond a false b
and_cond true b = refl
and_cond false b = refl

put_cases : (w0 : List ℕ) (x q : ℕ) (v : Bool) → cond (q == x) v (row_bit w0 q) ≡ set.contains (cond v (set.insert (members_of w0) x) (set.remove (members_of w0) x)) q
put_cases w0 x q true =
    sym (set.contains-insert nat_cmp_total (members_of w0) x q ∙ ap (λ b. b || set.contains (members_of w0) q) (unsigned_tied q x) ∙ ap (λ b. (q == x) || b) (contains-members_of w0 q) ∙ or_cond (q == x) _)
put_cases w0 x q false =
    sym (set.contains-remove nat_cmp_total (members_of w0) x q ∙ ap (λ b. not b && set.contains (members_of w0) q) (unsigned_tied q x) ∙ ap (λ b. not (q == x) && b) (contains-members_of w0 q) ∙ and_cond (q == x) _)

module _ (w0 v0 : List ℕ) (x : ℕ) (v : Bool) (put : IsPut w0 v0 x v) where
  put_others : (q : ℕ) → q ≢ x → set.contains (members_of v0) q ≡ set.contains (members_of w0) q
  put_others q ne = contains-members_of v0 q ∙ put.bits q ∙ ap (λ b. cond b v (row_bit w0 q)) (ne_eqb q x ne) ∙ sym (contains-members_of w0 q)

  pub put_members : members_of v0 ≡ cond v (set.insert (members_of w0) x) (set.remove (members_of w0) x)
  put_members =
      set.same_set nat_cmp_total set.nat_cmp-IsAntisymmetric _ _ (λ q.
      contains-members_of v0 q ∙ put.bits q ∙ put_cases w0 x q v)

  pub sound_put : (w1 w2 w3 w4 v1 v2 v3 v4 : List ℕ) → IsSound w0 w1 w2 w3 w4 → AreWords v0 → AreWords v1 → AreWords v2 → AreWords v3 → AreWords v4 → IsPut w1 v1 (x / 64) (not (get_or v0 (x / 64) 0 == 0)) → IsPut w2 v2 (x / 4096) (not (get_or v1 (x / 4096) 0 == 0)) → IsPut w3 v3 (x / 262144) (not (get_or v2 (x / 262144) 0 == 0)) → IsPut w4 v4 (x / 64 ^ 4) (not (get_or v3 (x / 64 ^ 4) 0 == 0)) → IsSound v0 v1 v2 v3 v4
  sound_put w1 w2 w3 w4 v1 v2 v3 v4 ok f0 f1 f2 f3 f4 p1 p2 p3 p4 =
      let t0 = tied_zero v0 in
      let t1 = tied_put (members_of w0) (members_of v0) x put_others 0 w1 v1 v0 ok.tied1 t0 (f0.fits (x / 64)) p1 in
      let t2 = tied_put (members_of w0) (members_of v0) x put_others 1 w2 v2 v1 ok.tied2 t1 (f1.fits (x / 4096)) p2 in
      let t3 = tied_put (members_of w0) (members_of v0) x put_others 2 w3 v3 v2 ok.tied3 t2 (f2.fits (x / 262144)) p3 in
      let t4 = tied_put (members_of w0) (members_of v0) x put_others 3 w4 v4 v3 ok.tied4 t3 (f3.fits (x / 64 ^ 4)) p4 in
      let l0 = put.len in
      let l1 = p1.len in
      let l2 = p2.len in
      let l3 = p3.len in
      let l4 = p4.len in
      let a = ok.size0 in
      let b = ok.size1 in
      let c = ok.size2 in
      let d = ok.size3 in
      let e = ok.size4 in
      record { size0 = omega arith; size1 = omega arith; size2 = omega arith; size3 = omega arith; size4 = omega arith; words0 = f0; words1 = f1; words2 = f2; words3 = f3; words4 = f4; tied1 = t1; tied2 = t2; tied3 = t3; tied4 = t4 }

pub remove_absent : (m : set.FinSet nat_cmp) (x : ℕ) → set.contains m x ≡ false → m ≡ set.remove m x
remove_absent m x e =
    set.same_set nat_cmp_total set.nat_cmp-IsAntisymmetric _ _ (λ q.
    sym (set.contains-remove nat_cmp_total m x q ∙ ap (λ b. not b && set.contains m q) (unsigned_tied q x) ∙ and_cond (q == x) _
    ∙ elim (eqb_tells q x) [
      | inl w ↦ ap (λ b. cond b false (set.contains m q)) w.0 ∙ sym e ∙ ap (set.contains m) (sym w.1)
      | inr w ↦ ap (λ b. cond b false (set.contains m q)) w.0
    ]))

-- ---- layers that stay
module _ (m : set.FinSet nat_cmp) (l : ℕ) (low up : List ℕ) (below : IsTied m l low) (above : IsTied m (l + 1) up) where
  tells : (k : ℕ) → get_or low k 0 < 2 ^ 64 → row_bit up k ≡ not (get_or low k 0 == 0)
  tells k fits = above.bits k ∙ sym (word_tells m m 0 (λ _ _. refl) l low below k fits)

put_same : (ws : List ℕ) (i : ℕ) (v : Bool) → row_bit ws i ≡ v → IsPut ws ws i v
put_same ws i v is = record {
  len = refl;
  bits = λ k.
      elim (eqb_tells k i) [
        | inl at ↦ ap (row_bit ws) at.1 ∙ is ∙ ap (λ b. cond b v (row_bit ws k)) (sym at.0)
        | inr off ↦ ap (λ b. cond b v (row_bit ws k)) (sym off.0)
      ];
}

module _ (w0 w1 w2 w3 w4 : List ℕ) (ok : IsSound w0 w1 w2 w3 w4) where
  -- a bit is put, and its word is 0 after it if it was before
  pub sound_stays : (v0 : List ℕ) (x : ℕ) (v : Bool) → IsPut w0 v0 x v → AreWords v0 → not (get_or w0 (x / 64) 0 == 0) ≡ not (get_or v0 (x / 64) 0 == 0) → IsSound v0 w1 w2 w3 w4
  sound_stays v0 x v put f0 same =
      sound_put w0 v0 x v put w1 w2 w3 w4 w1 w2 w3 w4 ok f0 ok.words1 ok.words2 ok.words3 ok.words4
      (put_same w1 (x / 64) _ (tells _ 0 w0 w1 (tied_zero w0) ok.tied1 (x / 64) (ok.words0.fits (x / 64)) ∙ same))
      (put_same w2 (x / 4096) _ (tells _ 1 w1 w2 ok.tied1 ok.tied2 (x / 4096) (ok.words1.fits (x / 4096))))
      (put_same w3 (x / 262144) _ (tells _ 2 w2 w3 ok.tied2 ok.tied3 (x / 262144) (ok.words2.fits (x / 262144))))
      (put_same w4 (x / 64 ^ 4) _ (tells _ 3 w3 w4 ok.tied3 ok.tied4 (x / 64 ^ 4) (ok.words3.fits (x / 64 ^ 4))))

  pub member_below : (i : ℕ) → set.contains (members_of w0) i ≡ true → i < INDEX_LIMIT
  member_below i e =
      elim (cases_lt i (64 * length w0)) [
        | inl lt ↦
            let a = ok.size0 in
            let b = ok.size1 in
            let c = ok.size2 in
            let d = ok.size3 in
            let f = ok.size4 in
            omega arith
        | inr ge ↦ absurd (true≢false (sym e ∙ contains-members_of w0 i ∙ past_row w0 i ge))
      ]

-- ---- the empty set
-- a row whose words are all 0
module _ (ws : List ℕ) (zeros : (k : ℕ) → get_or ws k 0 ≡ 0) where
  pub no_bit : (i : ℕ) → row_bit ws i ≡ false
  no_bit i = ne_eqb (bit_at (get_or ws (i / 64) 0) (i % 64)) 1 (λ e. let z = bit_at-zero (i % 64) in omega (arith, sym (ap (λ w. bit_at w (i % 64)) (zeros (i / 64))) ∙ e))

  pub zero_members : members_of ws ≡ set.empty
  zero_members = set.same_set nat_cmp_total set.nat_cmp-IsAntisymmetric _ _ (λ q. contains-members_of ws q ∙ no_bit q ∙ sym (set.contains-empty nat_cmp q))

none_in_part : (m : set.FinSet nat_cmp) → m ≡ set.empty → (l i : ℕ) → has_part m l i ≡ false
none_in_part m is l i =
    both_ways (has_part m l i) false
    (λ e. let w = part_member m l i e in absurd (none_in_empty m is w.0 w.1))
    (λ e. absurd (true≢false (sym e)))

zero_tied : (m : set.FinSet nat_cmp) → m ≡ set.empty → (l : ℕ) (ws : List ℕ) → ((k : ℕ) → get_or ws k 0 ≡ 0) → IsTied m l ws
zero_tied m is l ws zeros = record { bits = λ i. no_bit ws zeros i ∙ sym (none_in_part m is l i) }

pub top_zero : (k : ℕ) → get_or {A = ℕ} (0 ∷ []) k 0 ≡ 0
top_zero zero = refl
top_zero (suc k) = refl

zero_words : (ws : List ℕ) → ((k : ℕ) → get_or ws k 0 ≡ 0) → AreWords ws
zero_words ws zeros = record { fits = λ k. let z = zeros k in omega arith }

-- all words 0
pub sound_zeros : (w0 w1 w2 w3 : List ℕ) → length w0 ≤ 64 * length w1 → length w1 ≤ 64 * length w2 → length w2 ≤ 64 * length w3 → length w3 ≤ 64 → ((k : ℕ) → get_or w0 k 0 ≡ 0) → ((k : ℕ) → get_or w1 k 0 ≡ 0) → ((k : ℕ) → get_or w2 k 0 ≡ 0) → ((k : ℕ) → get_or w3 k 0 ≡ 0) → IsSound w0 w1 w2 w3 (0 ∷ [])
sound_zeros w0 w1 w2 w3 b c d e z0 z1 z2 z3 =
    let none = zero_members w0 z0 in
    record { size0 = b; size1 = c; size2 = d; size3 = e; size4 = omega arith; tied1 = zero_tied _ none 1 w1 z1; tied2 = zero_tied _ none 2 w2 z2; tied3 = zero_tied _ none 3 w3 z3; words0 = zero_words w0 z0; words1 = zero_words w1 z1; words2 = zero_words w2 z2; words3 = zero_words w3 z3; words4 = zero_words (0 ∷ []) top_zero; tied4 = zero_tied _ none 4 (0 ∷ []) top_zero }

pub sound_empty : IsSound [] [] [] [] (0 ∷ [])
sound_empty = sound_zeros [] [] [] [] (omega arith) (omega arith) (omega arith) (omega arith) (λ k. refl) (λ k. refl) (λ k. refl) (λ k. refl)

-- words of a row, as its type has them
pub are_words : (ws : List ℕ) → ((i d : ℕ) → i < length ws → get_or ws i d < 2 ^ 64) → AreWords ws
are_words ws typed = record {
  fits = λ k.
      elim (cases_lt k (length ws)) [
        | inl lt ↦ typed k 0 lt
        | inr ge ↦ let z : get_or ws k 0 ≡ 0 = get_or_past ws k 0 ge in omega arith
      ];
}

pub one_word : (t : ℕ) → t < 2 ^ 64 → AreWords (t ∷ [])
one_word t lt = record { fits = at }
  where
    at : (k : ℕ) → get_or {A = ℕ} (t ∷ []) k 0 < 2 ^ 64
    at zero = lt
    at (suc k) = omega arith

pub same_tests : (a b : Bool) → not (beq a b) ≡ false → a ≡ b
same_tests true true e = refl
same_tests true false e = cc
same_tests false true e = cc
same_tests false false e = refl

pub was_member : (ws : List ℕ) (i w : ℕ) → w ≡ get_or ws (i / 64) 0 → (bit_and (w / 2 ^ (i % 64)) 1 == 1) ≡ set.contains (members_of ws) i
was_member ws i w is = ap (λ b. b == 1) (shr_and_one w (i % 64) ∙ ap (λ n. bit_at n (i % 64)) is) ∙ sym (contains-members_of ws i)
