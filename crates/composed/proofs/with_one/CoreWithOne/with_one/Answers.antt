use Rattle.composed.proofs.OnParts.{on_part_one}
use Rattle.composed.proofs.with_one.CoreWithOne.with_one.Goals as goal

pub returns-clause-some : goal.returns-clause-some
returns-clause-some g c = on_part_one (λ p. record { parts = p; alloc = c.args.self.now.alloc }) c.with_one.result _ _ _ _ _ (rw c.parts.ensures.value at c.with_one.ensures.some)
