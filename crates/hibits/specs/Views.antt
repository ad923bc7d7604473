-- Laws of the views.
use Rattle.std.specs.Prelude.{◌≡◌, ℕ, ◌+◌, ◌≤◌, Bool, true, false, cond, ◌&&◌, ◌||◌, ◌-◌, ◌*◌, ◌^◌, ◌<◌, ◌==◌, max, min, refl}
use Rattle.std.specs.Prelude.{nat_lt, not}
use Rattle.std.proofs.Common.{◌/◌, suc, arith, ap, sym, ◌∙◌, ◌%◌, lit<, inl, inr}
use Rattle.std.proofs.Math.Nat.{pow-le-pow_right, pow-succ'}
use Rattle.std.proofs.lemmas.Bool.{cases_lt, ltb-true, lt-ltb, ne_eqb, eq-eqb, and_parts}
use Rattle.hibits.specs.declared.limits.TheConstants.{LAYERS}
use Rattle.hibits.specs.Counts.{count_below, count_within, count_implied, count_either, count_both}

-- the bits of one and not of the other; above the lowest layer, of either
abbrev pub in_one : (ℕ → ℕ → Bool) → (ℕ → ℕ → Bool) → ℕ → ℕ → Bool
in_one p q l i = cond (l == 0) (cond (p l i) (not (q l i)) (q l i)) (p l i || q l i)

-- every bit below the limit
abbrev pub everywhere : ℕ → ℕ → Bool
everywhere l i = nat_lt i (64 ^ (LAYERS - l))

-- the bits below the limit that p has not; above the lowest layer, every one
abbrev pub outside : (ℕ → ℕ → Bool) → ℕ → ℕ → Bool
outside p l i = everywhere l i && not (l == 0 && p l i)

pub and_covers : (a b c d : Bool) → (a ≡ true → c ≡ true) → (b ≡ true → d ≡ true) → (a && b) ≡ true → (c && d) ≡ true
and_covers true true c d f g e = rw (f refl, g refl)
and_covers true false c d f g e = cc
and_covers false b c d f g e = cc

pub and_few : (p q : ℕ → Bool) (a b n : ℕ) → count_below p n ≤ a → count_below q n ≤ b → count_below (λ i. p i && q i) n ≤ min a b
and_few p q a b n f g = omega (arith, count_both p q n)

pub and_bits : (x y : ℕ) (a b : Bool) → x ≡ cond a 1 0 → y ≡ cond b 1 0 → min x y ≡ cond (a && b) 1 0
and_bits x y true true e f = omega (arith, e, f)
and_bits x y true false e f = omega (arith, e, f)
and_bits x y false b e f = omega (arith, e, f)

pub or_covers : (a b c d : Bool) → (a ≡ true → c ≡ true) → (b ≡ true → d ≡ true) → (a || b) ≡ true → (c || d) ≡ true
or_covers true b c d f g e = ap (λ x. x || d) (f refl)
or_covers false b true d f g e = refl
or_covers false b false d f g e = g e

pub or_views_few : (p q : ℕ → Bool) (a b n : ℕ) → count_below p n ≤ a → count_below q n ≤ b → count_below (λ i. p i || q i) n ≤ a + b
or_views_few p q a b n f g = omega (arith, count_either p q n)

pub all_few : (p : ℕ → Bool) (l n : ℕ) → n ≤ 64 ^ (LAYERS - l) → count_below p n ≤ 64 ^ LAYERS
all_few p l n le =
    let h = count_within p n in
    let less : LAYERS - l ≤ LAYERS = omega arith in
    let k : 64 ^ (LAYERS - l) ≤ 64 ^ LAYERS = pow-le-pow_right (lit< tt) less in
    omega arith

pub or_bits : (x y : ℕ) (a b : Bool) → x ≡ cond a 1 0 → y ≡ cond b 1 0 → max x y ≡ cond (a || b) 1 0
or_bits x y true b e f = elim b as (λ b. y ≡ cond b 1 0 → max x y ≡ 1) [ true ↦ λ f. omega (arith, e, f) | false ↦ λ f. omega (arith, e, f) ] f
or_bits x y false true e f = omega (arith, e, f)
or_bits x y false false e f = omega (arith, e, f)

pub all_covers : (l i : ℕ) → nat_lt i (64 ^ (LAYERS - l)) ≡ true → nat_lt (i / 64) (64 ^ (LAYERS - (l + 1))) ≡ true
all_covers l i h =
    let lt = ltb-true i (64 ^ (LAYERS - l)) h in
    elim (cases_lt l LAYERS) [
      | inl within ↦
          let e : LAYERS - l ≡ suc (LAYERS - (l + 1)) = omega arith in
          let pow : 64 ^ suc (LAYERS - (l + 1)) ≡ 64 * 64 ^ (LAYERS - (l + 1)) = pow-succ' 64 (LAYERS - (l + 1)) in
          let small : i < 64 * 64 ^ (LAYERS - (l + 1)) = rw (e, pow) at lt in
          lt-ltb (i / 64) (64 ^ (LAYERS - (l + 1))) (omega arith)
      | inr past ↦
          let e : LAYERS - l ≡ 0 = omega arith in
          let d : LAYERS - (l + 1) ≡ 0 = omega arith in
          let one : i < 1 = rw e at lt in
          rw d (lt-ltb (i / 64) 1 (omega arith))
    ]

pub all_fits : (l p j : ℕ) → l < LAYERS → p < 64 ^ (LAYERS - 1 - l) → j < 64 → nat_lt (64 * p + j) (64 ^ (LAYERS - l)) ≡ true
all_fits l p j within place lt =
    let e : LAYERS - l ≡ suc (LAYERS - 1 - l) = omega arith in
    let pow : 64 ^ suc (LAYERS - 1 - l) ≡ 64 * 64 ^ (LAYERS - 1 - l) = pow-succ' 64 (LAYERS - 1 - l) in
    rw (e, pow) (lt-ltb (64 * p + j) (64 * 64 ^ (LAYERS - 1 - l)) (omega arith))

differ_either : (a b : Bool) → cond a (not b) b ≡ true → (a || b) ≡ true
differ_either true b e = refl
differ_either false b e = e

either_of_one : (p q : ℕ → ℕ → Bool) (l i : ℕ) → in_one p q l i ≡ true → (p l i || q l i) ≡ true
either_of_one p q l i =
    elim (l == 0) as (λ b. cond b (cond (p l i) (not (q l i)) (q l i)) (p l i || q l i) ≡ true → (p l i || q l i) ≡ true) [
      | true ↦ λ e. differ_either (p l i) (q l i) e
      | false ↦ λ e. e
    ]

next_above : (l : ℕ) → (l + 1 == 0) ≡ false
next_above l = ne_eqb (l + 1) 0 (λ e. omega (arith, e))

pub one_covers : (p q : ℕ → ℕ → Bool) (l i : ℕ) → (p l i ≡ true → p (l + 1) (i / 64) ≡ true) → (q l i ≡ true → q (l + 1) (i / 64) ≡ true) → in_one p q l i ≡ true → in_one p q (l + 1) (i / 64) ≡ true
one_covers p q l i f g e =
    ap (λ b. cond b (cond (p (l + 1) (i / 64)) (not (q (l + 1) (i / 64))) (q (l + 1) (i / 64))) (p (l + 1) (i / 64) || q (l + 1) (i / 64))) (next_above l)
    ∙ or_covers (p l i) (q l i) _ _ f g (either_of_one p q l i e)

pub one_few : (p q : ℕ → ℕ → Bool) (a b l n : ℕ) → count_below (p l) n ≤ a → count_below (q l) n ≤ b → count_below (in_one p q l) n ≤ a + b
one_few p q a b l n f g =
    let w = count_implied (in_one p q l) (λ i. p l i || q l i) (λ i e. either_of_one p q l i e) n in
    let s = count_either (p l) (q l) n in
    omega arith

pub outside_covers : (p : ℕ → ℕ → Bool) (l i : ℕ) → outside p l i ≡ true → outside p (l + 1) (i / 64) ≡ true
outside_covers p l i e =
    let up : everywhere (l + 1) (i / 64) ≡ true = all_covers l i ((and_parts (everywhere l i) _ e).0) in
    ap (λ b. b && not (l + 1 == 0 && p (l + 1) (i / 64))) up ∙ ap (λ b. not (b && p (l + 1) (i / 64))) (next_above l)

xor_bits : (x y : ℕ) (a b : Bool) → x ≡ cond a 1 0 → y ≡ cond b 1 0 → (x + y) % 2 ≡ cond (cond a (not b) b) 1 0
xor_bits x y true true e f = omega (arith, e, f)
xor_bits x y true false e f = omega (arith, e, f)
xor_bits x y false true e f = omega (arith, e, f)
xor_bits x y false false e f = omega (arith, e, f)

not_bits : (x : ℕ) (a : Bool) → x ≡ cond a 1 0 → 1 - x ≡ cond (not a) 1 0
not_bits x true e = omega (arith, e)
not_bits x false e = omega (arith, e)

-- the words of these views, bit by bit
module _ (p q : ℕ → ℕ → Bool) (l i x y : ℕ) (first : x ≡ cond (p l i) 1 0) (second : y ≡ cond (q l i) 1 0) where
  pub xor_word : l ≡ 0 → (x + y) % 2 ≡ cond (in_one p q l i) 1 0
  xor_word zero_is = xor_bits x y (p l i) (q l i) first second ∙ sym (ap (λ b. cond (cond b (cond (p l i) (not (q l i)) (q l i)) (p l i || q l i)) 1 0) (eq-eqb l 0 zero_is))

  pub xor_word_above : (l ≡ 0 → ⊥) → max x y ≡ cond (in_one p q l i) 1 0
  xor_word_above ne = or_bits x y (p l i) (q l i) first second ∙ sym (ap (λ b. cond (cond b (cond (p l i) (not (q l i)) (q l i)) (p l i || q l i)) 1 0) (ne_eqb l 0 ne))

module _ (p : ℕ → ℕ → Bool) (l i x : ℕ) (within : everywhere l i ≡ true) where
  pub not_word : x ≡ cond (p l i) 1 0 → l ≡ 0 → 1 - x ≡ cond (outside p l i) 1 0
  not_word is zero_is =
      not_bits x (p l i) is
      ∙ sym (ap (λ b. cond (b && not (l == 0 && p l i)) 1 0) within ∙ ap (λ b. cond (not (b && p l i)) 1 0) (eq-eqb l 0 zero_is))

  pub full_word : (l ≡ 0 → ⊥) → cond {A = ℕ} (outside p l i) 1 0 ≡ 1
  full_word ne = ap (λ b. cond (b && not (l == 0 && p l i)) 1 0) within ∙ ap (λ b. cond (not (b && p l i)) 1 0) (ne_eqb l 0 ne)
