-- On what a cursor can still give.
use Rattle.std.proofs.Common.{◌≡◌, ℕ, Bool, ◌≤◌, ◌<◌, true, false, refl, sym, subst, arith}
use Rattle.std.specs.Prelude.{Option, Some, None, IfSome, IfNone}
use Rattle.hibits.specs.Walks.{IsNext}
use Rattle.joins.specs.Beside.{first_to_give}

-- the first index at which it can is no later than the next
pub give_at_most : (given : Bool) (o : Option ℕ) (n : ℕ) → ((i : ℕ) → o ≡ Some i → i < n) → first_to_give given o n ≤ n
give_at_most true o n h = omega arith
give_at_most false None n h = omega arith
give_at_most false (Some i) n h = let lt = h i refl in omega (arith, lt)

-- a step goes on to an index from the next on
pub steps_from : (p : ℕ → Bool) (r : Option ℕ) (a b : ℕ) → IfSome r (IsNext p a) → IfNone r (b ≡ a) → a ≤ first_to_give false r b
steps_from p None a b next stays = omega (arith, stays)
steps_from p (Some i) a b next stays = next.from_on

-- it can where the cursor stands, if that was not given
pub gives_here : (given : Bool) (o : Option ℕ) (n i : ℕ) → given ≡ false → o ≡ Some i → first_to_give given o n ≤ i
gives_here true o n i e at = cc
gives_here false None n i e at = cc
gives_here false (Some k) n i e at = let same : k ≡ i = cc in omega (arith, same)

pub at_some : (P : ℕ → Type 0) (o : Option ℕ) (i : ℕ) → o ≡ Some i → P i → IfSome o P
at_some P o i e p = subst (λ r. IfSome r P) (sym e) p
