-- The list of the indices that pass a test, where the test changes at one index.
use Rattle.std.proofs.Common.{◌≡◌, ◌+◌, ◌-◌, ◌<◌, ◌≤◌, ℕ, zero, suc, Bool, true, false, cond, List, ◌∷◌, refl, ap, sym, ◌∙◌, arith, eqb, inl, inr}
use Rattle.std.proofs.lemmas.Bool.{cases_eq, lt-ltb, le-ltb, ne_eqb, eq-eqb}
use Rattle.hibits.specs.declared.limits.TheConstants.{INDEX_LIMIT}
use Rattle.hibits.specs.Left.{passing, left}
use Rattle.key_index.specs.Indices.{with_index, without_index}

-- tests that agree below the limit give one list
passing-within : (p p' : ℕ → Bool) (n a : ℕ) → ((j : ℕ) → a ≤ j → j < a + n → p' j ≡ p j) → passing p' a n ≡ passing p a n
unfolding passing
passing-within p p' zero a same = refl
passing-within p p' (suc n) a same =
    let rest = passing-within p p' n (suc a) (λ j le lt. same j (omega arith) (omega arith)) in
    ap (λ b. cond b (a ∷ passing p' (suc a) n) (passing p' (suc a) n)) (same a (omega arith) (omega arith)) ∙ ap (λ xs. cond (p a) (a ∷ xs) xs) rest

pub left-within : (p p' : ℕ → Bool) → ((j : ℕ) → j < INDEX_LIMIT → p' j ≡ p j) → left p' 0 ≡ left p 0
unfolding left
left-within p p' same = passing-within p p' (INDEX_LIMIT - 0) 0 (λ j _ lt. same j (omega arith))

-- an index before all of a list goes to its front
pub with_before : (i x : ℕ) (xs : List ℕ) → i < x → with_index i (x ∷ xs) ≡ i ∷ x ∷ xs
with_before i x xs lt = ap (λ b. cond b (i ∷ x ∷ xs) (cond (eqb i x) (x ∷ xs) (x ∷ with_index i xs))) (lt-ltb i x lt)

pub with_after : (i x : ℕ) (xs : List ℕ) → x < i → with_index i (x ∷ xs) ≡ x ∷ with_index i xs
with_after i x xs lt =
    ap (λ b. cond b (i ∷ x ∷ xs) (cond (eqb i x) (x ∷ xs) (x ∷ with_index i xs))) (le-ltb i x (omega arith))
    ∙ ap (λ b. cond b (x ∷ xs) (x ∷ with_index i xs)) (ne_eqb i x (λ e. absurd (omega (arith, e))))

pub with_there : (i x : ℕ) (xs : List ℕ) → i ≡ x → with_index i (x ∷ xs) ≡ x ∷ xs
with_there i x xs e =
    ap (λ b. cond b (i ∷ x ∷ xs) (cond (eqb i x) (x ∷ xs) (x ∷ with_index i xs))) (le-ltb i x (omega (arith, e)))
    ∙ ap (λ b. cond b (x ∷ xs) (x ∷ with_index i xs)) (eq-eqb i x e)

pub without_other : (i x : ℕ) (xs : List ℕ) → (i ≡ x → ⊥) → without_index i (x ∷ xs) ≡ x ∷ without_index i xs
without_other i x xs ne = ap (λ b. cond b xs (x ∷ without_index i xs)) (ne_eqb i x ne)

pub without_there : (i x : ℕ) (xs : List ℕ) → i ≡ x → without_index i (x ∷ xs) ≡ xs
without_there i x xs e = ap (λ b. cond b xs (x ∷ without_index i xs)) (eq-eqb i x e)

passing-with_before : (p : ℕ → Bool) (n a i : ℕ) → i < a → with_index i (passing p a n) ≡ i ∷ passing p a n
unfolding passing
passing-with_before p zero a i lt = refl
passing-with_before p (suc n) a i lt =
    elim (p a) as (λ b. with_index i (cond b (a ∷ passing p (suc a) n) (passing p (suc a) n)) ≡ i ∷ cond b (a ∷ passing p (suc a) n) (passing p (suc a) n)) [
      | true ↦ with_before i a (passing p (suc a) n) lt
      | false ↦ passing-with_before p n (suc a) i (omega arith)
    ]

passing-without_before : (p : ℕ → Bool) (n a i : ℕ) → i < a → without_index i (passing p a n) ≡ passing p a n
unfolding passing
passing-without_before p zero a i lt = refl
passing-without_before p (suc n) a i lt =
    let rest = passing-without_before p n (suc a) i (omega arith) in
    elim (p a) as (λ b. without_index i (cond b (a ∷ passing p (suc a) n) (passing p (suc a) n)) ≡ cond b (a ∷ passing p (suc a) n) (passing p (suc a) n)) [
      | true ↦ without_other i a (passing p (suc a) n) (λ e. absurd (omega (arith, e))) ∙ ap (λ xs. a ∷ xs) rest
      | false ↦ rest
    ]

passing-put : (p p' : ℕ → Bool) (n a i : ℕ) → a ≤ i → i < a + n → p' i ≡ true → ((j : ℕ) → (j ≡ i → ⊥) → p' j ≡ p j) → passing p' a n ≡ with_index i (passing p a n)
unfolding passing
passing-put p p' zero a i le lt is others = absurd (omega arith)
passing-put p p' (suc n) a i le lt is others =
    elim (cases_eq a i) [
      | inl same ↦
          let agree = passing-within p p' n (suc a) (λ j above _. others j (λ e. absurd (omega (arith, e, same)))) in
          ap (λ b. cond b (a ∷ passing p' (suc a) n) (passing p' (suc a) n)) (ap p' same ∙ is)
          ∙ ap (λ xs. a ∷ xs) agree
          ∙ elim (p a) as (λ b. a ∷ passing p (suc a) n ≡ with_index i (cond b (a ∷ passing p (suc a) n) (passing p (suc a) n))) [
            | true ↦ sym (with_there i a (passing p (suc a) n) (sym same))
            | false ↦ ap (λ k. k ∷ passing p (suc a) n) same ∙ sym (passing-with_before p n (suc a) i (omega (arith, same)))
          ]
      | inr other ↦
          let lt' : suc a ≤ i = omega (arith, other) in
          let rest = passing-put p p' n (suc a) i lt' (omega arith) is others in
          ap (λ b. cond b (a ∷ passing p' (suc a) n) (passing p' (suc a) n)) (others a other)
          ∙ ap (λ xs. cond (p a) (a ∷ xs) xs) rest
          ∙ elim (p a) as (λ b. cond b (a ∷ with_index i (passing p (suc a) n)) (with_index i (passing p (suc a) n)) ≡ with_index i (cond b (a ∷ passing p (suc a) n) (passing p (suc a) n))) [
            | true ↦ sym (with_after i a (passing p (suc a) n) lt')
            | false ↦ refl
          ]
    ]

passing-cut : (p p' : ℕ → Bool) (n a i : ℕ) → p' i ≡ false → ((j : ℕ) → (j ≡ i → ⊥) → p' j ≡ p j) → passing p' a n ≡ without_index i (passing p a n)
unfolding passing
passing-cut p p' zero a i is others = refl
passing-cut p p' (suc n) a i is others =
    elim (cases_eq a i) [
      | inl same ↦
          let agree = passing-within p p' n (suc a) (λ j above _. others j (λ e. absurd (omega (arith, e, same)))) in
          ap (λ b. cond b (a ∷ passing p' (suc a) n) (passing p' (suc a) n)) (ap p' same ∙ is)
          ∙ agree
          ∙ elim (p a) as (λ b. passing p (suc a) n ≡ without_index i (cond b (a ∷ passing p (suc a) n) (passing p (suc a) n))) [
            | true ↦ sym (without_there i a (passing p (suc a) n) (sym same))
            | false ↦ sym (passing-without_before p n (suc a) i (omega (arith, same)))
          ]
      | inr other ↦
          let rest = passing-cut p p' n (suc a) i is others in
          ap (λ b. cond b (a ∷ passing p' (suc a) n) (passing p' (suc a) n)) (others a other)
          ∙ ap (λ xs. cond (p a) (a ∷ xs) xs) rest
          ∙ elim (p a) as (λ b. cond b (a ∷ without_index i (passing p (suc a) n)) (without_index i (passing p (suc a) n)) ≡ without_index i (cond b (a ∷ passing p (suc a) n) (passing p (suc a) n))) [
            | true ↦ sym (without_other i a (passing p (suc a) n) (λ e. other (sym e)))
            | false ↦ refl
          ]
    ]

-- the list has the index, once it passes
pub left-put : (p p' : ℕ → Bool) (i : ℕ) → i < INDEX_LIMIT → p' i ≡ true → ((j : ℕ) → (j ≡ i → ⊥) → p' j ≡ p j) → left p' 0 ≡ with_index i (left p 0)
unfolding left
left-put p p' i lt is others = passing-put p p' (INDEX_LIMIT - 0) 0 i (omega arith) (omega arith) is others

-- and it does not, once the index doesn't pass
pub left-cut : (p p' : ℕ → Bool) (i : ℕ) → p' i ≡ false → ((j : ℕ) → (j ≡ i → ⊥) → p' j ≡ p j) → left p' 0 ≡ without_index i (left p 0)
unfolding left
left-cut p p' i is others = passing-cut p p' (INDEX_LIMIT - 0) 0 i is others
