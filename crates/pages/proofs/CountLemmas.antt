-- How many pages are there.
use Rattle.std.proofs.Common.{◌≡◌, ℕ, ◌+◌, ◌<◌, Bool, true, false, ◌==◌, ◌∷◌, refl, sym, ap, ◌∙◌, inl, inr, arith, eq-eqb, eqb-true, add-one, cond}
use Rattle.std.specs.Bool.{if◌then◌else◌}
use Rattle.std.specs.Ordering.{nat_cmp}
use Rattle.std.specs.Cmp.{nat_cmp_total}
use Rattle.std.specs.FinSet as set
use Rattle.std.proofs.lemmas.Bool.{cases_lt, true≢false}
use Rattle.pages.specs.Listed.{list_below, list_below-none, list_below-any}

-- the numbers below n that are in s
abbrev pub first_of : set.FinSet nat_cmp → ℕ → set.FinSet nat_cmp
first_of s n = set.from_list (list_below (set.contains s) n)

none_past : (s : set.FinSet nat_cmp) (n : ℕ) → set.contains (first_of s n) n ≡ false
none_past s n = set.contains-from_list_nat (list_below (set.contains s) n) n ∙ list_below-none (set.contains s) n n (omega arith)

pub one_page_more : (s : set.FinSet nat_cmp) (n : ℕ) → set.len (first_of s (n + 1)) ≡ set.len (first_of s n) + cond (set.contains s n) 1 0
one_page_more s n =
    ap (λ k. set.len (first_of s k)) (add-one n)
    ∙ elim (set.contains s n) as (λ b. set.len (set.from_list {R = nat_cmp} (cond b (n ∷ list_below (set.contains s) n) (list_below (set.contains s) n))) ≡ set.len (first_of s n) + cond b 1 0) [
      | true ↦ set.len-insert nat_cmp_total (first_of s n) n ∙ ap (λ b. cond b (set.len (first_of s n)) (set.len (first_of s n) + 1)) (none_past s n)
      | false ↦ omega arith
    ]

pub all_pages : (s : set.FinSet nat_cmp) (m : ℕ) → ((k : ℕ) → set.contains s k ≡ true → k < m) → first_of s m ≡ s
all_pages s m below =
    set.same_set nat_cmp_total set.nat_cmp-IsAntisymmetric _ _ (λ q.
    set.contains-from_list_nat (list_below (set.contains s) m) q
    ∙ elim (cases_lt q m) [
      | inl lt ↦ list_below-any (set.contains s) q m lt
      | inr ge ↦
          list_below-none (set.contains s) q m ge
          ∙ sym (elim (set.contains s q) as (λ b. set.contains s q ≡ b → b ≡ false) [ true ↦ λ e. let b = below q e in absurd (omega (arith, b)) | false ↦ λ _. refl ] refl)
    ])

pub one_if_there : (len : ℕ) (b : Bool) (n a : ℕ) → n ≡ (if b then len else 0) → (n == 0) ≡ false → a + cond b 1 0 ≡ a + 1
one_if_there len true n a is some = refl
one_if_there len false n a is some = absurd (true≢false (sym (eq-eqb n 0 is) ∙ some))

pub same_if_none : (len : ℕ) → 0 < len → (b : Bool) (n a : ℕ) → n ≡ (if b then len else 0) → (n == 0) ≡ true → a + cond b 1 0 ≡ a
same_if_none len lt true n a is none = absurd (let e = eqb-true n 0 none in omega (arith, is, e))
same_if_none len lt false n a is none = let e : a + 0 ≡ a = omega arith in e
