use Rattle.composed.proofs.OnParts.{on_part_beside}
use Rattle.composed.proofs.with_two.CoreWithTwo.with_two.Goals as goal

pub returns-clause-some : goal.returns-clause-some
returns-clause-some g c = on_part_beside (λ p. record { parts = p; alloc = c.args.self.now.alloc }) c.with_two.result _ _ _ _ _ _ (rw c.parts.ensures.value at c.with_two.ensures.some)
