-- Who lives was born, and who is born lives.
use Rattle.std.specs.Prelude.{◌≡◌, ℕ, zero, suc, ◌+◌, Bool, true, false, not, ◌&&◌, ◌||◌, ℤ, pos, negsuc, nat_abs, int_lt, refl}
use Rattle.std.proofs.Common.{◌∙◌, sym, subst, get_or, eq-eqb}
use Rattle.std.proofs.Math.Bool.{or-true}
use Rattle.std.proofs.lemmas.Bool.{false≢true}
use Rattle.entities.specs.declared.entity.Entity.{Entity}
use Rattle.entities.specs.Census.{Census, population}
use Rattle.entities.specs.Population.{Population, IsAlive, born_pending, lives}

-- an entity that is just born, with its index's new generation, is alive
pub newborn_alive : (p q : Population) (e : Entity) → e.1.0 ≡ pos (p.births e.0 + 1) → q ≡ born_pending p e.0 → IsAlive q e
newborn_alive p q e generation is =
    let here = eq-eqb e.0 e.0 refl in
    subst (λ (r : Population). IsAlive r e) (sym is) (rw here (or-true (p.merged e.0)), generation ∙ rw here refl)

either : (living pending : Bool) → ((living && not pending) || (living && pending)) ≡ true → living ≡ true
either true pending h = refl
either false pending h = h

above_zero : (z : ℤ) → int_lt (pos 0) z ≡ true → nat_abs z ≡ 0 → ⊥
above_zero (pos zero) lives none = false≢true lives
above_zero (pos (suc n)) lives none = cc
above_zero (negsuc n) lives none = false≢true lives

-- an index that lives was born
pub living_is_born : (c : Census) (i : ℕ) → lives (population c) i ≡ true → (population c).births i ≡ 0 → ⊥
living_is_born c i lives none = above_zero (get_or c.generations i (pos 0)) (either _ _ lives) none
