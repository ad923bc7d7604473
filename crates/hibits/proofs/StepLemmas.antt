-- What one step of a walk does, as the code goes.
use Rattle.std.proofs.Common.{◌≡◌, ℕ, zero, suc, ◌+◌, ◌-◌, ◌*◌, ◌/◌, ◌%◌, ◌^◌, ◌<◌, ◌≤◌, min, Bool, true, false, cond, get_or, w64, refl, sym, ◌∙◌, inl, inr, arith}
use Rattle.std.specs.Int.{bit_at, trailing_zeros}
use Rattle.std.proofs.lemmas.Nat.Bits.{bit_at-zero, bit_at-lt}
use Rattle.std.proofs.lemmas.Bool.{cases_eq, true≢false}
use Rattle.std.proofs.Math.Nat.{pow-le-pow_right}
use Rattle.std.proofs.Common.{lit<}
use Rattle.hibits.specs.declared.limits.TheConstants.{LAYERS, INDEX_LIMIT}
use Rattle.hibits.specs.declared.walk.Walk.{Walk}
use Rattle.hibits.specs.Walks.{IsLevel, IsNext}
use Rattle.hibits.specs.Words.{IsNextWord}
use Rattle.hibits.specs.WalkOf.{IsWalkOf, IsWordWalkOf, words_of, from_of}
use Rattle.hibits.proofs.WalkLemmas.{rest_of, lowest_right, lowest_below, none_before, descend, pop_lowest, from_fits, none_left}

pub end_small : (level end : ℕ) → end ≤ 64 ^ (LAYERS - 1 - level) → end ≤ 64 ^ (LAYERS - 1)
end_small level end le =
    let less : LAYERS - 1 - level ≤ LAYERS - 1 = omega arith in
    let k : 64 ^ (LAYERS - 1 - level) ≤ 64 ^ (LAYERS - 1) = pow-le-pow_right (lit< tt) less in
    omega arith

-- a count only grows
pub grows : (start count more : ℕ) {count' : ℕ} → start ≤ count → count < 2 ^ 64 → count' ≡ min (count + more) (2 ^ 64 - 1) → start ≤ count'
grows start count more le fits is = omega arith

-- where a word of a layer has something left
module _ (p : ℕ → Bool) (w f u end : ℕ) (level : IsLevel p w f u) (some : 0 < w) (ends : end ≡ 64 * u) where
  pub end_from : 64 ≤ end
  end_from = let r = lowest_right p w f u level some in omega arith

  pub place_is : 64 * (u - 1) + trailing_zeros w64 w ≡ end - 64 + trailing_zeros w64 w
  place_is = let r = lowest_right p w f u level some in omega arith

  pub place_in : (f ≤ end - 64 + trailing_zeros w64 w) × (end - 64 + trailing_zeros w64 w < end)
  place_in = let r = lowest_right p w f u level some in let l = lowest_below p w f u level some in (omega arith, omega arith)

module _ (has : ℕ → ℕ → Bool) (cost : ℕ) (covers : (l i : ℕ) → has l i ≡ true → has (l + 1) (i / 64) ≡ true) (a : Walk) (ok : IsWalkOf has cost a) where
  fits_at : (l : ℕ) → l ≤ LAYERS → get_or (from_of a) l 0 ≤ 64 ^ (LAYERS - l)
  fits_at l le = from_fits has cost (words_of a) (from_of a) a.reads ok.walk (LAYERS - l) l (omega arith)

  pub end0_fits : a.end0 ≤ 64 ^ LAYERS
  end0_fits = let f = fits_at 1 (omega arith) in let e = ok.end0 in omega arith

  pub end1_fits : a.end1 ≤ 64 ^ (LAYERS - 1)
  end1_fits = let f = fits_at 2 (omega arith) in let e = ok.end1 in omega arith

  pub end2_fits : a.end2 ≤ 64 ^ (LAYERS - 2)
  end2_fits = let f = fits_at 3 (omega arith) in let e = ok.end2 in omega arith

  pub end3_fits : a.end3 ≤ 64 ^ (LAYERS - 3)
  end3_fits = let f = fits_at 4 (omega arith) in let e = ok.end3 in omega arith

  pub end0_from : 0 < a.word0 → 64 ≤ a.end0
  end0_from some = end_from (has 0) a.word0 a.from (a.end0 / 64) a.end0 (ok.walk.level 0 (omega arith)) some ok.end0

  pub end1_from : 0 < a.word1 → 64 ≤ a.end1
  end1_from some = end_from (has 1) a.word1 (a.end0 / 64) (a.end1 / 64) a.end1 (ok.walk.level 1 (omega arith)) some ok.end1

  pub end2_from : 0 < a.word2 → 64 ≤ a.end2
  end2_from some = end_from (has 2) a.word2 (a.end1 / 64) (a.end2 / 64) a.end2 (ok.walk.level 2 (omega arith)) some ok.end2

  pub end3_from : 0 < a.word3 → 64 ≤ a.end3
  end3_from some = end_from (has 3) a.word3 (a.end2 / 64) (a.end3 / 64) a.end3 (ok.walk.level 3 (omega arith)) some ok.end3

  pub place0 : 0 < a.word0 → (a.from ≤ a.end0 - 64 + trailing_zeros w64 a.word0) × (a.end0 - 64 + trailing_zeros w64 a.word0 < a.end0)
  place0 some = place_in (has 0) a.word0 a.from (a.end0 / 64) a.end0 (ok.walk.level 0 (omega arith)) some ok.end0

  pub place1 : 0 < a.word1 → (a.end0 / 64 ≤ a.end1 - 64 + trailing_zeros w64 a.word1) × (a.end1 - 64 + trailing_zeros w64 a.word1 < a.end1)
  place1 some = place_in (has 1) a.word1 (a.end0 / 64) (a.end1 / 64) a.end1 (ok.walk.level 1 (omega arith)) some ok.end1

  pub place2 : 0 < a.word2 → (a.end1 / 64 ≤ a.end2 - 64 + trailing_zeros w64 a.word2) × (a.end2 - 64 + trailing_zeros w64 a.word2 < a.end2)
  place2 some = place_in (has 2) a.word2 (a.end1 / 64) (a.end2 / 64) a.end2 (ok.walk.level 2 (omega arith)) some ok.end2

  pub place3 : 0 < a.word3 → (a.end2 / 64 ≤ a.end3 - 64 + trailing_zeros w64 a.word3) × (a.end3 - 64 + trailing_zeros w64 a.word3 < a.end3)
  place3 some = place_in (has 3) a.word3 (a.end2 / 64) (a.end3 / 64) a.end3 (ok.walk.level 3 (omega arith)) some ok.end3

  pub place4 : 0 < a.word4 → (a.end3 / 64 ≤ 64 - 64 + trailing_zeros w64 a.word4) × (64 - 64 + trailing_zeros w64 a.word4 < 64)
  place4 some = place_in (has 4) a.word4 (a.end3 / 64) 1 64 (ok.walk.level 4 (omega arith)) some refl

  module _ (w u e r : ℕ) (fits : w < 2 ^ 64) (counts : r ≡ min (a.reads + cost) (2 ^ 64 - 1)) where
    pub step0 : a.word0 ≡ 0 → 0 < a.word1 → u ≡ rest_of a.word1 → e ≡ 64 * (a.end1 - 64 + trailing_zeros w64 a.word1 + 1) → ((j : ℕ) → j < 64 → bit_at w j ≡ cond (has 0 (64 * (a.end1 - 64 + trailing_zeros w64 a.word1) + j)) 1 0) → IsWalkOf has cost (record a { word0 = w; word1 = u; end0 = e; reads = r })
    step0 empty some rest end bits =
        let p : 64 * (a.end1 / 64 - 1) + trailing_zeros w64 a.word1 ≡ a.end1 - 64 + trailing_zeros w64 a.word1 = place_is (has 1) a.word1 (a.end0 / 64) (a.end1 / 64) a.end1 (ok.walk.level 1 (omega arith)) some ok.end1 in
        let q : e / 64 ≡ 64 * (a.end1 / 64 - 1) + trailing_zeros w64 a.word1 + 1 = omega (arith, end, p) in
        let b : (j : ℕ) → j < 64 → bit_at w j ≡ cond (has 0 (64 * (64 * (a.end1 / 64 - 1) + trailing_zeros w64 a.word1) + j)) 1 0 = λ j lt. rw p (bits j lt) in
        record {
          walk = rw (rest, q) (descend has cost (words_of a) (from_of a) a.reads ok.walk 0 (omega arith) some empty covers w r fits b counts);
          end0 = omega (arith, end);
          end1 = ok.end1;
          end2 = ok.end2;
          end3 = ok.end3;
        }

    pub step1 : a.word1 ≡ 0 → 0 < a.word2 → u ≡ rest_of a.word2 → e ≡ 64 * (a.end2 - 64 + trailing_zeros w64 a.word2 + 1) → ((j : ℕ) → j < 64 → bit_at w j ≡ cond (has 1 (64 * (a.end2 - 64 + trailing_zeros w64 a.word2) + j)) 1 0) → IsWalkOf has cost (record a { word1 = w; word2 = u; end1 = e; reads = r })
    step1 empty some rest end bits =
        let p : 64 * (a.end2 / 64 - 1) + trailing_zeros w64 a.word2 ≡ a.end2 - 64 + trailing_zeros w64 a.word2 = place_is (has 2) a.word2 (a.end1 / 64) (a.end2 / 64) a.end2 (ok.walk.level 2 (omega arith)) some ok.end2 in
        let q : e / 64 ≡ 64 * (a.end2 / 64 - 1) + trailing_zeros w64 a.word2 + 1 = omega (arith, end, p) in
        let b : (j : ℕ) → j < 64 → bit_at w j ≡ cond (has 1 (64 * (64 * (a.end2 / 64 - 1) + trailing_zeros w64 a.word2) + j)) 1 0 = λ j lt. rw p (bits j lt) in
        record {
          walk = rw (rest, q) (descend has cost (words_of a) (from_of a) a.reads ok.walk 1 (omega arith) some empty covers w r fits b counts);
          end0 = ok.end0;
          end1 = omega (arith, end);
          end2 = ok.end2;
          end3 = ok.end3;
        }

    pub step2 : a.word2 ≡ 0 → 0 < a.word3 → u ≡ rest_of a.word3 → e ≡ 64 * (a.end3 - 64 + trailing_zeros w64 a.word3 + 1) → ((j : ℕ) → j < 64 → bit_at w j ≡ cond (has 2 (64 * (a.end3 - 64 + trailing_zeros w64 a.word3) + j)) 1 0) → IsWalkOf has cost (record a { word2 = w; word3 = u; end2 = e; reads = r })
    step2 empty some rest end bits =
        let p : 64 * (a.end3 / 64 - 1) + trailing_zeros w64 a.word3 ≡ a.end3 - 64 + trailing_zeros w64 a.word3 = place_is (has 3) a.word3 (a.end2 / 64) (a.end3 / 64) a.end3 (ok.walk.level 3 (omega arith)) some ok.end3 in
        let q : e / 64 ≡ 64 * (a.end3 / 64 - 1) + trailing_zeros w64 a.word3 + 1 = omega (arith, end, p) in
        let b : (j : ℕ) → j < 64 → bit_at w j ≡ cond (has 2 (64 * (64 * (a.end3 / 64 - 1) + trailing_zeros w64 a.word3) + j)) 1 0 = λ j lt. rw p (bits j lt) in
        record {
          walk = rw (rest, q) (descend has cost (words_of a) (from_of a) a.reads ok.walk 2 (omega arith) some empty covers w r fits b counts);
          end0 = ok.end0;
          end1 = ok.end1;
          end2 = omega (arith, end);
          end3 = ok.end3;
        }

    pub step3 : a.word3 ≡ 0 → 0 < a.word4 → u ≡ rest_of a.word4 → e ≡ 64 * (64 - 64 + trailing_zeros w64 a.word4 + 1) → ((j : ℕ) → j < 64 → bit_at w j ≡ cond (has 3 (64 * (64 - 64 + trailing_zeros w64 a.word4) + j)) 1 0) → IsWalkOf has cost (record a { word3 = w; word4 = u; end3 = e; reads = r })
    step3 empty some rest end bits =
        let p : 64 * (1 - 1) + trailing_zeros w64 a.word4 ≡ 64 - 64 + trailing_zeros w64 a.word4 = place_is (has 4) a.word4 (a.end3 / 64) 1 64 (ok.walk.level 4 (omega arith)) some refl in
        let q : e / 64 ≡ 64 * (1 - 1) + trailing_zeros w64 a.word4 + 1 = omega (arith, end, p) in
        let b : (j : ℕ) → j < 64 → bit_at w j ≡ cond (has 3 (64 * (64 * (1 - 1) + trailing_zeros w64 a.word4) + j)) 1 0 = λ j lt. rw p (bits j lt) in
        record {
          walk = rw (rest, q) (descend has cost (words_of a) (from_of a) a.reads ok.walk 3 (omega arith) some empty covers w r fits b counts);
          end0 = ok.end0;
          end1 = ok.end1;
          end2 = ok.end2;
          end3 = omega (arith, end);
        }

  -- where nothing is left of any word
  pub ended : (a.word0 ≡ 0) × (a.word1 ≡ 0) × (a.word2 ≡ 0) × (a.word3 ≡ 0) × (a.word4 ≡ 0) → (i : ℕ) → a.from ≤ i → i < INDEX_LIMIT → has 0 i ≡ true → ⊥
  ended none i ge lt is = none_left has cost (words_of a) (from_of a) a.reads ok.walk empty covers LAYERS 0 (omega arith) i ge lt is
    where
      empty : (l : ℕ) → l < LAYERS → get_or (words_of a) l 0 ≡ 0
      empty zero h = none.0
      empty (suc zero) h = none.1
      empty (suc (suc zero)) h = none.2
      empty (suc (suc (suc zero))) h = none.3
      empty (suc (suc (suc (suc zero)))) h = none.4
      empty (suc (suc (suc (suc (suc l))))) h = absurd (omega arith)

  -- where an index is left of the word of layer 0
  module _ (i : ℕ) (some : 0 < a.word0) (is : i ≡ a.end0 - 64 + trailing_zeros w64 a.word0) where
    at : 64 * (a.end0 / 64 - 1) + trailing_zeros w64 a.word0 ≡ i
    at = place_is (has 0) a.word0 a.from (a.end0 / 64) a.end0 (ok.walk.level 0 (omega arith)) some ok.end0 ∙ sym is

    pub is_next : IsNext (has 0) a.from i
    is_next =
        let here = ok.walk.level 0 (omega arith) in
        let right = lowest_right (has 0) a.word0 a.from (a.end0 / 64) here some in
        rw (← at) (record { from_on = right.1; member = right.2; first = none_before (has 0) a.word0 a.from (a.end0 / 64) here some })

    pub is_below : i < INDEX_LIMIT
    is_below = let p = place0 some in let f = end0_fits in omega arith

    pub member_taken : (v : ℕ) → v ≡ rest_of a.word0 → IsWalkOf has cost (record a { word0 = v; from = i + 1 })
    member_taken v rest = record {
      walk = rw (rest, ← at) (pop_lowest has cost (words_of a) (from_of a) a.reads ok.walk some);
      end0 = ok.end0;
      end1 = ok.end1;
      end2 = ok.end2;
      end3 = ok.end3;
    }

  -- where something is left of the word of layer 0, and the walk was between two words before it
  module _ (some : 0 < a.word0) (whole : a.from ≡ 64 * (a.from / 64)) where
    here : IsLevel (has 0) a.word0 a.from (a.end0 / 64)
    here = ok.walk.level 0 (omega arith)

    -- the word's lowest index that is left lies in it, so all of the word is left
    all_left : (0 < a.end0 / 64) × (a.from ≤ 64 * (a.end0 / 64 - 1))
    all_left =
        let r = lowest_right (has 0) a.word0 a.from (a.end0 / 64) here some in
        let l = lowest_below (has 0) a.word0 a.from (a.end0 / 64) here some in
        (r.0, omega (arith, r.0, r.1, l, whole))

    bit_by : (j : ℕ) (b : Bool) → has 0 (64 * (a.end0 / 64 - 1) + j) ≡ b → j < 64 → bit_at a.word0 j ≡ cond b 1 0
    bit_by j true is lt =
        let all = all_left in
        let same : (64 * (a.end0 / 64 - 1) + j) % 64 ≡ j = omega arith in
        let u = all.0 in let f = all.1 in
        rw same at (here.left (64 * (a.end0 / 64 - 1) + j) (omega arith) (omega arith) is).1
    bit_by j false is lt =
        elim (cases_eq (bit_at a.word0 j) 1) [
          | inl one ↦ absurd (true≢false (sym (here.right j lt one).2 ∙ is))
          | inr other ↦ let b = bit_at-lt a.word0 j in omega (arith, b, other)
        ]

    pub next_word : IsNextWord (has 0) (a.from / 64) (a.end0 / 64 - 1) a.word0
    next_word =
        let all = all_left in
        let u = all.0 in let f = all.1 in
        record {
          from_on = omega arith;
          is_word = record { fits = here.fits; bits = λ j lt. bit_by j _ refl lt };
          some = some;
          none = λ i ge lt is. let b = (here.left i (omega (arith, ge, whole)) (omega arith) is).0 in omega arith;
        }

    pub word_below : a.end0 / 64 - 1 < 64 ^ (LAYERS - 1)
    word_below = let f = end0_fits in let e = end0_from some in omega arith

    pub word_taken : IsWordWalkOf has cost (record a { word0 = 0; from = a.end0 })
    word_taken = record {
      walk = record {
        walk = record { words_len = refl; from_len = refl; top = refl; level = level; reads = ok.walk.reads };
        end0 = ok.end0;
        end1 = ok.end1;
        end2 = ok.end2;
        end3 = ok.end3;
      };
      none = refl;
      whole = ok.end0;
    }
      where
        level : (l : ℕ) → l < LAYERS → IsLevel (has l) (get_or (words_of (record a { word0 = 0; from = a.end0 })) l 0) (get_or (from_of (record a { word0 = 0; from = a.end0 })) l 0) (get_or (from_of (record a { word0 = 0; from = a.end0 })) (suc l) 0)
        level zero h = let e = ok.end0 in record {
          fits = omega arith;
          below = omega (arith, e);
          left = λ i ge lt _. absurd (omega (arith, e));
          right = λ j _ one. absurd (let z = bit_at-zero j in omega (arith, z, one));
        }
        level (suc zero) h = ok.walk.level 1 h
        level (suc (suc zero)) h = ok.walk.level 2 h
        level (suc (suc (suc zero))) h = ok.walk.level 3 h
        level (suc (suc (suc (suc zero)))) h = ok.walk.level 4 h
        level (suc (suc (suc (suc (suc l))))) h = absurd (omega arith)
