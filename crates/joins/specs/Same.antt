-- Tests that agree leave the same indices.
use Rattle.std.specs.Prelude.{◌≡◌, ℕ, ◌+◌, ◌-◌, ◌<◌, ◌≤◌, Bool, cond, List, ◌∷◌, refl}
use Rattle.std.proofs.Common.{zero, suc, arith, ap, ◌∙◌}
use Rattle.hibits.specs.Left.{left, passing}
use Rattle.hibits.specs.declared.limits.TheConstants.{INDEX_LIMIT}

passing_same : (p q : ℕ → Bool) (n a : ℕ) → ((i : ℕ) → a ≤ i → i < a + n → p i ≡ q i) → passing p a n ≡ passing q a n
unfolding passing
passing_same p q zero a e = refl
passing_same p q (suc n) a e =
    ap (λ b. cond b (a ∷ passing p (suc a) n) (passing p (suc a) n)) (e a (omega arith) (omega arith))
    ∙ ap (λ (r : List ℕ). cond (q a) (a ∷ r) r) (passing_same p q n (suc a) (λ i ge lt. e i (omega arith) (omega arith)))

-- tests that agree from an index on leave the same indices
pub left_same : (p q : ℕ → Bool) (a : ℕ) → ((i : ℕ) → a ≤ i → i < INDEX_LIMIT → p i ≡ q i) → left p a ≡ left q a
unfolding left
left_same p q a e = passing_same p q (INDEX_LIMIT - a) a (λ i ge lt. e i ge (omega arith))
