use Rattle.std.proofs.Common.{◌≡◌, ap, sym, subst}
use Rattle.std.specs.Prelude.{Result, Ok, Err, OnOk, OnErr}
use Rattle.entities.specs.Census.{Census, population}
use Rattle.entities.specs.Population.{Population, IsAlive, index_of, mark}
use Rattle.entities.specs.declared.entity.Entity.{Entity}
use Rattle.entities.proofs.res_builder.EntityResBuilder.drop.Goals as goal

-- a mark takes no life
still_lives : {A E : Type 0} (r : Result A E) (s s' : Census) (e : Entity) → IsAlive (population s) e → OnOk r (population s' ≡ mark (population s) (index_of e)) → OnErr r (s' ≡ s) → IsAlive (population s') e
still_lives (Ok x) s s' e lives marked same = subst (λ (p : Population). IsAlive p e) (sym marked) lives
still_lives (Err x) s s' e lives marked same = subst (λ (p : Population). IsAlive p e) (sym (ap population same)) lives

pub invariant_of-self : goal.invariant_of-self
invariant_of-self c = record { lives = still_lives c.delete.result _ _ c.args.self.entity c.args.self.lives c.delete.ensures.marked c.delete.ensures.err; below = c.args.self.below }
