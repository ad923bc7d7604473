-- On lists that are changed part by part.
use Rattle.std.proofs.Common.{◌≡◌, ℕ, ◌+◌, ◌-◌, List, ◌++◌, length, length-append, get_or, subst, sym, ap, ◌∙◌, arith, inl, inr}
use Rattle.std.proofs.lemmas.Bool.{cases_lt}
use Rattle.std.proofs.lemmas.List.{get_or_append_left, get_or-append_right}
use Rattle.joins_parallel.specs.Sharing.{EachFrom, BecomesFrom}

module _ {X : Type 0} (P : ℕ → X → Type 0) (base n : ℕ) (all xs ys : List X) (e : all ≡ xs ++ ys) (len : length xs ≡ n) (h : EachFrom P base all) where
  pub first_part : EachFrom P base xs
  first_part k d lt =
      let l = length-append xs ys in let a = ap length e in
      subst (P (base + k)) (ap (λ zs. get_or zs k d) e ∙ get_or_append_left xs ys d k lt) (h k d (omega (arith, lt, l, a)))

  pub second_part : EachFrom P (base + n) ys
  second_part k d lt =
      let l = length-append xs ys in let a = ap length e in
      let at : get_or all (n + k) d ≡ get_or ys k d = ap (λ zs. get_or zs (n + k) d) e ∙ get_or-append_right xs ys n (n + k) d len (omega arith) ∙ ap (λ j. get_or ys j d) (let z : n + k - n ≡ k = omega arith in z) in
      let place : base + (n + k) ≡ base + n + k = omega arith in
      subst (λ i. P i (get_or ys k d)) place (subst (P (base + (n + k))) at (h (n + k) d (omega (arith, lt, l, a, len))))

module _ {X : Type 0} (R : ℕ → X → X → Type 0) (base n : ℕ) (all xs ys xs' ys' : List X) (e : all ≡ xs ++ ys) (len : length xs ≡ n) (a : BecomesFrom R base xs xs') (b : BecomesFrom R (base + n) ys ys') where
  long : length (xs' ++ ys') ≡ length all
  long = let l = length-append xs ys in let l' = length-append xs' ys' in let c = ap length e in let p = a.len in let q = b.len in omega (arith, l, l', c, p, q)

  pub both_parts : BecomesFrom R base all (xs' ++ ys')
  both_parts = record {
    len = long;
    each = λ k d lt.
        elim (cases_lt k n) [
          | inl low ↦
              let p = a.len in
              let was : get_or xs k d ≡ get_or all k d = sym (ap (λ zs. get_or zs k d) e ∙ get_or_append_left xs ys d k (omega (arith, low, len))) in
              let is : get_or xs' k d ≡ get_or (xs' ++ ys') k d = sym (get_or_append_left xs' ys' d k (omega (arith, low, len, p))) in
              subst (λ y. R (base + k) (get_or all k d) y) is (subst (λ x. R (base + k) x (get_or xs' k d)) was (a.each k d (omega (arith, low, len))))
          | inr high ↦
              let p = a.len in let l = length-append xs ys in let c = ap length e in
              let was : get_or ys (k - n) d ≡ get_or all k d = sym (ap (λ zs. get_or zs k d) e ∙ get_or-append_right xs ys n k d len high) in
              let is : get_or ys' (k - n) d ≡ get_or (xs' ++ ys') k d = sym (get_or-append_right xs' ys' n k d (omega (arith, p, len)) high) in
              let place : base + n + (k - n) ≡ base + k = omega (arith, high) in
              subst (λ i. R i (get_or all k d) (get_or (xs' ++ ys') k d)) place
              (subst (λ y. R (base + n + (k - n)) (get_or all k d) y) is (subst (λ x. R (base + n + (k - n)) x (get_or ys' (k - n) d)) was (b.each (k - n) d (omega (arith, lt, l, c, len, high)))))
        ];
  }
