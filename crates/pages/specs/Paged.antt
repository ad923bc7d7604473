-- Items that are kept in pages.
use Rattle.std.specs.Prelude.{◌≡◌, ℕ, ◌/◌, true, List, refl}
use Rattle.std.specs.Ordering.{nat_cmp}
use Rattle.std.specs.FinSet as set
use Rattle.std.specs.Coded.{Coded, code_by, coded×, coded_ℕ, coded_list}

-- the items by their places, and the pages that are there
pub record Paged (T : Type 0) : Type 0 where
  pub items : List T
  pub pages : set.FinSet nat_cmp

abbrev pub paged_code : {T : Type 0} → Coded T → Coded (Paged T)
paged_code {T} code = code_by (List T × set.FinSet nat_cmp) (coded× (coded_list code) (set.code coded_ℕ)) (λ s. (s.items, s.pages)) (λ p. record { items = p.0; pages = p.1 }) (λ _. refl)

-- whether the page of a place is there
abbrev pub HasPage : {T : Type 0} → ℕ → Paged T → ℕ → Type 0
HasPage len s i = set.contains s.pages (i / len) ≡ true
