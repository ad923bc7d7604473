-- The numbers below a bound that pass a test.
use Rattle.std.specs.Prelude.{◌≡◌, ℕ, ◌<◌, ◌≤◌, Bool, true, false, cond, ◌||◌, ◌==◌, List, [], ◌∷◌, refl}
use Rattle.std.specs.List.{list_any}
use Rattle.std.proofs.Common.{zero, suc, sym, ap, ◌∙◌, inl, inr, arith, eq-eqb}
use Rattle.std.proofs.lemmas.Bool.{cases_eq, ne_eqb}

-- the numbers below n that pass p
abbrev pub list_below : (ℕ → Bool) → ℕ → List ℕ
list_below p zero = []
list_below p (suc n) = cond (p n) (n ∷ list_below p n) (list_below p n)

-- no other number is among them
pub list_below-none : (p : ℕ → Bool) (q n : ℕ) → n ≤ q → list_any (λ y. y == q) (list_below p n) ≡ false
list_below-none p q zero le = refl
list_below-none p q (suc n) le =
    let rest = list_below-none p q n (omega arith) in
    elim (p n) as (λ b. list_any (λ y. y == q) (cond b (n ∷ list_below p n) (list_below p n)) ≡ false) [
      | true ↦ ap (λ b. b || list_any (λ y. y == q) (list_below p n)) (ne_eqb n q (λ e. omega (arith, e))) ∙ rest
      | false ↦ rest
    ]

-- of the numbers below n, a number is one exactly if it passes
pub list_below-any : (p : ℕ → Bool) (q n : ℕ) → q < n → list_any (λ y. y == q) (list_below p n) ≡ p q
list_below-any p q zero lt = absurd (omega arith)
list_below-any p q (suc n) lt =
    elim (cases_eq n q) [
      | inl same ↦
          elim (p n) as (λ b. p n ≡ b → list_any (λ y. y == q) (cond b (n ∷ list_below p n) (list_below p n)) ≡ p q) [
            | true ↦ λ e. ap (λ b. b || list_any (λ y. y == q) (list_below p n)) (eq-eqb n q same) ∙ sym (sym (ap p same) ∙ e)
            | false ↦ λ e. list_below-none p q n (omega arith) ∙ sym (sym (ap p same) ∙ e)
          ] refl
      | inr other ↦
          let rest = list_below-any p q n (omega (arith, other)) in
          elim (p n) as (λ b. list_any (λ y. y == q) (cond b (n ∷ list_below p n) (list_below p n)) ≡ p q) [
            | true ↦ ap (λ b. b || list_any (λ y. y == q) (list_below p n)) (ne_eqb n q other) ∙ rest
            | false ↦ rest
          ]
    ]
