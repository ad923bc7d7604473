-- On tests of two indices.
use Rattle.std.proofs.Common.{◌≡◌, ◌≢◌, ℕ, true, false, nat_eq, arith, refl, sym, ◌⊎◌, inl, inr}
use Rattle.std.proofs.lemmas.Bool.Decides.{nat_tests}

pub turned : (a b : ℕ) → nat_eq a b ≡ nat_eq b a
turned a b = grind (arith, nat_tests)

pub itself : (a : ℕ) → nat_eq a a ≡ true
itself a = grind (arith, nat_tests)

pub same_id : (a b : ℕ) → nat_eq a b ≡ true → a ≡ b
same_id a b h = grind (arith, nat_tests)

pub other_id : (a b : ℕ) → nat_eq a b ≡ false → b ≢ a
other_id a b h e = grind (arith, nat_tests)

pub same_or : (a b : ℕ) → (a ≡ b) ⊎ (a ≢ b)
same_or a b = elim (nat_eq a b) as (λ r. nat_eq a b ≡ r → (a ≡ b) ⊎ (a ≢ b)) [ true ↦ λ h. inl (same_id a b h) | false ↦ λ h. inr (λ e. other_id a b h (sym e)) ] refl
