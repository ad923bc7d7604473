use Rattle.std.proofs.Common.{◌≡◌, ◌≤◌, ◌∙◌, ℕ, Bool, true, false, cond, nat_eq, Some, None, sym, ap, subst}
use Rattle.std.specs.Prelude.{Option}
use Rattle.std.specs.FinMap as map
use Rattle.std.specs.Ordering.{nat_cmp}
use Rattle.storages.specs.Finds.{get-insert}
use Rattle.parallel_tests.specs.declared.relying_tests.Level.{Level}
use Rattle.parallel_tests.proofs.relying_tests.is_doubled.Goals as goal

-- what is found is the level that was put
found_low : (b : Bool) (x l : Level) → x.0 ≤ 100 → cond b (Some x) None ≡ Some l → l.0 ≤ 100
found_low true x l low e = let same : x ≡ l = cc in subst (λ (k : Level). k.0 ≤ 100) same low
found_low false x l low e = cc

-- a storage that was empty has one level, a low one
low_put : (m n : map.FinMap nat_cmp Level) (id : ℕ) (x : Level) → m ≡ map.empty → n ≡ map.insert m id x → x.0 ≤ 100 → (i : ℕ) (l : Level) → map.get n i ≡ Some l → l.0 ≤ 100
low_put m n id x none put low i l is =
    let none_there = ap (λ (k : map.FinMap nat_cmp Level). map.get k i) none ∙ map.get-empty nat_cmp i in
    found_low (nat_eq id i) x l low (sym (ap (λ (k : map.FinMap nat_cmp Level). map.get k i) put ∙ get-insert m id x i ∙ ap (λ (o : Option Level). cond (nat_eq id i) (Some x) o) none_there) ∙ is)

pub doubles-requires-after_bounds : goal.doubles-requires-after_bounds
doubles-requires-after_bounds g c κs within = low_put _ _ _ _ c.requires.empty c.in-Ok.ensures.ok.map c.requires.low

pub all_doubled-requires-after_bounds : goal.all_doubled-requires-after_bounds
all_doubled-requires-after_bounds g c κs within = low_put _ _ _ _ c.requires.empty c.in-Ok.ensures.ok.map c.requires.low
