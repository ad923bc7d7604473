-- Where an index goes in an ascending list, and where it is.
use Rattle.std.proofs.Common.{◌≡◌, ◌<◌, ◌≤◌, ℕ, zero, suc, List, [], ◌∷◌, length, get_or, refl, ap, sym, ◌∙◌, arith, inl, inr}
use Rattle.std.specs.List.{insert, remove}
use Rattle.std.specs.List.Sorted.{IsStrictlyIncreasing}
use Rattle.std.proofs.lemmas.Bool.{cases_eq}
use Rattle.std.proofs.lemmas.Map.Keys.{below_from_sorted, sorted_from_strictly_increasing}
use Rattle.key_index.specs.Indices.{with_index, without_index}
use Rattle.key_index.proofs.Passing.{with_before, with_after, with_there, without_other, without_there}

pub rises : (xs : List ℕ) → IsStrictlyIncreasing xs → (i j : ℕ) → i < j → j < length xs → get_or xs i 0 < get_or xs j 0
rises xs up i j lt below = below_from_sorted xs i j 0 (sorted_from_strictly_increasing xs up) lt below

pub does_not_fall : (xs : List ℕ) → IsStrictlyIncreasing xs → (i j : ℕ) → i ≤ j → j < length xs → get_or xs i 0 ≤ get_or xs j 0
does_not_fall xs up i j le below =
    elim (cases_eq i j) [
      | inl same ↦ let e : get_or xs i 0 ≡ get_or xs j 0 = ap (λ k. get_or xs k 0) same in omega (arith, e)
      | inr other ↦ let lt : i < j = omega (arith, other) in let r = rises xs up i j lt below in omega (arith, r)
    ]

-- put in at the place between the lesser and the greater
pub put_at : (xs : List ℕ) (i k : ℕ) → k ≤ length xs → ((j : ℕ) → j < k → get_or xs j 0 < i) → ((j : ℕ) → k ≤ j → j < length xs → i < get_or xs j 0) → insert xs k i ≡ with_index i xs
put_at [] i zero le low high = refl
put_at [] i (suc k) le low high = refl
put_at (x ∷ xs) i zero le low high = sym (with_before i x xs (high 0 (omega arith) (omega arith)))
put_at (x ∷ xs) i (suc k) le low high =
    ap (λ ys. x ∷ ys) (put_at xs i k (omega arith) (λ j lt. low (suc j) (omega arith)) (λ j ge lt. high (suc j) (omega arith) (omega arith)))
    ∙ sym (with_after i x xs (low 0 (omega arith)))

-- put in where it is already
pub put_again : (xs : List ℕ) (i k : ℕ) → k < length xs → get_or xs k 0 ≡ i → ((j : ℕ) → j < k → get_or xs j 0 < i) → xs ≡ with_index i xs
put_again [] i k lt here low = absurd (omega arith)
put_again (x ∷ xs) i zero lt here low = sym (with_there i x xs (sym here))
put_again (x ∷ xs) i (suc k) lt here low =
    ap (λ ys. x ∷ ys) (put_again xs i k (omega arith) here (λ j l. low (suc j) (omega arith)))
    ∙ sym (with_after i x xs (low 0 (omega arith)))

-- taken out where it is
pub cut_at : (xs : List ℕ) (i k : ℕ) → k < length xs → get_or xs k 0 ≡ i → ((j : ℕ) → j < k → get_or xs j 0 < i) → remove xs k ≡ without_index i xs
cut_at [] i k lt here low = absurd (omega arith)
cut_at (x ∷ xs) i zero lt here low = sym (without_there i x xs (sym here))
cut_at (x ∷ xs) i (suc k) lt here low =
    let below = low 0 (omega arith) in
    ap (λ ys. x ∷ ys) (cut_at xs i k (omega arith) here (λ j l. low (suc j) (omega arith)))
    ∙ sym (without_other i x xs (λ e. absurd (omega (arith, e, below))))

-- taken out where it is not
pub cut_none : (xs : List ℕ) (i : ℕ) → ((j : ℕ) → j < length xs → get_or xs j 0 ≡ i → ⊥) → xs ≡ without_index i xs
cut_none [] i none = refl
cut_none (x ∷ xs) i none =
    ap (λ ys. x ∷ ys) (cut_none xs i (λ j lt. none (suc j) (omega arith)))
    ∙ sym (without_other i x xs (λ e. none 0 (omega arith) (sym e)))
