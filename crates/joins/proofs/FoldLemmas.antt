-- Calls one after another on what a join gives.
use Rattle.std.proofs.Common.{◌≡◌, ℕ, ◌≤◌, Bool, List, [], ◌∷◌, refl, sym, ap, subst, ◌∙◌}
use Rattle.std.specs.List.{FoldsTo, Contains, fold}
use Rattle.hibits.specs.Left.{left, contains-left}
use Rattle.joins.proofs.CallLemmas.{contains_first}

-- the first that is left is not behind the place
pub first_ahead : (p : ℕ → Bool) (a i : ℕ) (xs : List ℕ) → left p a ≡ i ∷ xs → a ≤ i
first_ahead p a i xs e = (contains-left p a i (subst (λ (l : List ℕ). Contains l i) (sym e) (contains_first i xs))).0

-- one step before others
pub step_before : {P : Type 0} (R : P → ℕ → P → Type 0) (p q last : P) (i : ℕ) (all rest : List ℕ) → all ≡ i ∷ rest → R p i q → FoldsTo R q rest last → FoldsTo R p all last
step_before R p q last i all rest e step others = subst (λ (l : List ℕ). FoldsTo R p l last) (sym e) (q, step, others)

-- no step where nothing is left
pub no_step : {P : Type 0} (R : P → ℕ → P → Type 0) (p : P) (all : List ℕ) → all ≡ [] → FoldsTo R p all p
no_step R p all e = subst (λ (l : List ℕ). FoldsTo R p l p) (sym e) refl

-- steps that are a function's are its fold
pub folded : {B : Type 0} (R : B → ℕ → B → Type 0) (to : B → ℕ → B) → ((b : B) (i : ℕ) (c : B) → R b i c → c ≡ to b i) → (is : List ℕ) (b c : B) → FoldsTo R b is c → c ≡ fold to b is
folded R to h [] b c e = sym e
folded R to h (i ∷ is) b c e = folded R to h is e.0 c e.2 ∙ ap (λ (x : _). fold to x is) (h b i e.0 e.1)
